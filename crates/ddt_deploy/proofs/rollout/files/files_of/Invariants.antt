use Rattle.ddt_deploy.specs.Rollout.Files.{AreFilesOf}
use Rattle.ddt_deploy.proofs.rollout.files.files_of.Given as goal

abbrev pub invariant-loop-config : goal.invariant-loop-config
invariant-loop-config l = AreFilesOf l.yielded l.files.items
