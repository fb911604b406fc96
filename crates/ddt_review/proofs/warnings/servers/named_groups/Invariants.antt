use Rattle.std.proofs.Common.{◌≡◌, ℕ, List, take}
use Rattle.std.specs.List.{list_any}
use Rattle.std.specs.Ordering.{nat_cmp}
use Rattle.std.specs.Cmp.Lexicographic.{slice_cmp}
use Rattle.std.specs.BTreeSet.{contains}
use Rattle.ddt_path.specs.Names.{is_same_name}
use Rattle.ddt_register.specs.declared.zone.Zone.{Zone}
use Rattle.ddt_review.proofs.warnings.servers.named_groups.Given as goal

abbrev pub invariant-loop-zone : goal.invariant-loop-zone
invariant-loop-zone l = (name : List ℕ) → contains (slice_cmp nat_cmp) l.names name
    ≡ list_any (λ (z : Zone). is_same_name name z.group) (take l.zone-index l.zones)
