-- Lists that are kept by their keys.
use Rattle.std.specs.Prelude.{List, []}
use Rattle.std.specs.declared.cmp.Ordering.{Ordering}
use Rattle.std.specs.Option.{option_map_or}
use Rattle.std.specs.BTreeMap.{BTreeMap, get}
use Rattle.std.specs.Global.{Vec}

-- the list at a key; the empty one where the key has none
abbrev pub list_at : {K V : Type 0} → (K → K → Ordering) → BTreeMap K (Vec V) → K → List V
list_at cmp lists key = option_map_or (λ list. list.items) (get cmp lists key) []
