use Rattle.std.proofs.Common.{◌≡◌, ℕ, List, take, find}
use Rattle.std.specs.Option.{option_map}
use Rattle.std.specs.Ordering.{nat_cmp}
use Rattle.std.specs.Cmp.Lexicographic.{slice_cmp}
use Rattle.std.specs.BTreeMap.{get}
use Rattle.ddt_path.specs.Covers.{is_same_path}
use Rattle.ddt_register.specs.declared.group.Group.{Group}
use Rattle.ddt_organisations.specs.Seam.Joined.{servers_of}
use Rattle.ddt_organisations.proofs.seam.items_by_key.servers_by_name.Given as goal

abbrev pub invariant-loop-group : goal.invariant-loop-group
invariant-loop-group l = (k : List ℕ)
    → get (slice_cmp nat_cmp) l.known k
    ≡ option_map (servers_of) (find (λ (a : Group). is_same_path a.name k) (take l.group-index l.group-items))
