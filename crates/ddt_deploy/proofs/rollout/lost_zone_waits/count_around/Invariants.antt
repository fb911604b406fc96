use Rattle.std.proofs.Common.{◌≡◌, ◌≤◌, length, take}
use Rattle.std.specs.Prelude.{is_some}
use Rattle.std.specs.List.{filter}
use Rattle.ddt_deploy.specs.Rollout.Waits.{lost_in, fronts}
use Rattle.ddt_deploy.proofs.rollout.lost_zone_waits.count_around.Given as goal

abbrev pub invariant-loop-len : goal.invariant-loop-len
invariant-loop-len l =
    (l.count ≡ length (filter (λ q. is_some (lost_in l.groups q)) (take l.len (fronts l.prefix)))) × (l.count ≤ l.len)
