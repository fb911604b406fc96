use Rattle.std.proofs.Common.{◌≡◌, false, take}
use Rattle.ddt_organisations.specs.Meets.{is_run_by_some}
use Rattle.ddt_organisations.proofs.organisation_in_charge.runner.Given as goal

abbrev pub invariant-loop-number : goal.invariant-loop-number
invariant-loop-number l = is_run_by_some (take l.number l.all) l.name ≡ false
