use Rattle.ddt_deploy.specs.Folders.Names.{file_text}
use Rattle.ddt_deploy.proofs.FoldersLemmas.NameLemmas.{plain_beside}
use Rattle.ddt_deploy.proofs.folders.file_name.FileName.text_beside.Goals as goal

pub returns-clause-plain : goal.returns-clause-plain
returns-clause-plain c =
    plain_beside (file_text c.args.self) c.args.mark c.in_ok-text.ensures.plain c.as_bytes.ensures.name
