use Rattle.std.proofs.Common.{◌≡◌, ℕ, List, take}
use Rattle.std.specs.Ordering.{nat_cmp}
use Rattle.std.specs.Cmp.Lexicographic.{slice_cmp}
use Rattle.std.specs.BTreeMap.{get}
use Rattle.ddt_deploy.specs.Rollout.Waits.{lost_in}
use Rattle.ddt_deploy.proofs.RolloutLemmas.WaitLemmas.{kept_at}
use Rattle.ddt_deploy.proofs.rollout.lost_zone_waits.waits_of.Given as goal

abbrev pub invariant-loop-zone : goal.invariant-loop-zone
invariant-loop-zone l = (p : List ℕ)
    → get (slice_cmp nat_cmp) l.waits p ≡ kept_at (lost_in l.groups) (take l.zone-index l.zone-items) p
