use Rattle.ddt_deploy.proofs.FoldersLemmas.MemoryLemmas.{config_put}
use Rattle.ddt_deploy.proofs.folders.folder_in_memory.Files.take.Goals as goal

pub returns-in-Config : goal.returns-in-Config
returns-in-Config c = config_put c.args.self.now c.remove.new.self _ _ _ c.in-Config.is c.remove.ensures.updates
