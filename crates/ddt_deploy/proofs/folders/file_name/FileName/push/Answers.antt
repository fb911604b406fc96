use Rattle.std.proofs.Common.{sym, subst}
use Rattle.ddt_deploy.specs.Folders.Names.{file_text, IsPlain}
use Rattle.ddt_deploy.specs.declared.folders.file_name.FileName.{FileName}
use Rattle.ddt_deploy.proofs.FoldersLemmas.NameLemmas.{plain_config}
use Rattle.ddt_deploy.proofs.folders.file_name.FileName.push.Goals as goal

pub returns-in_err-extend_from_slice-in-Config-clause-plain : goal.returns-in_err-extend_from_slice-in-Config-clause-plain
returns-in_err-extend_from_slice-in-Config-clause-plain c =
    subst (λ (f : FileName). IsPlain (file_text f)) (sym c.in-Config.is) (plain_config c.in-Config.name c.as_bytes.ensures.name)

pub returns-in_ok-extend_from_slice-in-Config-clause-plain : goal.returns-in_ok-extend_from_slice-in-Config-clause-plain
returns-in_ok-extend_from_slice-in-Config-clause-plain c =
    subst (λ (f : FileName). IsPlain (file_text f)) (sym c.in-Config.is) (plain_config c.in-Config.name c.as_bytes.ensures.name)
