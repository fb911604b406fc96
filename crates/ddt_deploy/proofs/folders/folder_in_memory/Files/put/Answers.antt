use Rattle.ddt_deploy.proofs.FoldersLemmas.MemoryLemmas.{config_put}
use Rattle.ddt_deploy.proofs.folders.folder_in_memory.Files.put.Goals as goal

pub returns-in_ok-insert-in-Config-clause-put : goal.returns-in_ok-insert-in-Config-clause-put
returns-in_ok-insert-in-Config-clause-put c =
    config_put c.args.self.now c.insert.new.self _ _ _ c.in-Config.is c.in_ok-insert-in-Config.ensures.updates
