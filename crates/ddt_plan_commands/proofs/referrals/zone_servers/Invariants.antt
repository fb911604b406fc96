use Rattle.std.proofs.Common.{◌≡◌, ℕ, List, take, find}
use Rattle.std.specs.Option.{option_map}
use Rattle.std.specs.Ordering.{nat_cmp}
use Rattle.std.specs.Cmp.Lexicographic.{slice_cmp}
use Rattle.std.specs.BTreeMap.{get}
use Rattle.ddt_register.specs.declared.zone.Zone.{Zone}
use Rattle.ddt_path.specs.Covers.{is_same_path}
use Rattle.ddt_check.specs.Zones.{locators_of}
use Rattle.ddt_plan_commands.proofs.referrals.zone_servers.Given as goal

abbrev pub invariant-loop-zone : goal.invariant-loop-zone
invariant-loop-zone l = (p : List ℕ)
    → get (slice_cmp nat_cmp) l.servers p
    ≡ option_map (λ (z : Zone). locators_of l.accepted z.group) (find (λ (z : Zone). is_same_path z.prefix p) (take l.zone-index l.zone-items))
