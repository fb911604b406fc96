-- The order that the lists are sorted in: by the digits of a prefix or the bytes of a name, then by the row.
use Rattle.std.specs.Prelude.{ℕ, List, IsSorted}
use Rattle.std.specs.declared.cmp.Ordering.{Ordering}
use Rattle.std.specs.Ordering.{nat_cmp, ordering_then}
use Rattle.std.specs.Cmp.Lexicographic.{slice_cmp}
use Rattle.ddt_register.specs.declared.zone.Zone.{Zone}
use Rattle.ddt_register.specs.declared.group.Group.{Group}

-- how two items compare by a key, and by their rows where they have one key
abbrev pub in_order : {A : Type 0} → (A → List ℕ) → (A → ℕ) → A → A → Ordering
in_order key row a b = ordering_then (slice_cmp nat_cmp (key a) (key b)) (nat_cmp (row a) (row b))

-- A list sorted by a key; items of one key are in the order of their rows. A key sorts before those that it begins.
abbrev pub IsInOrder : {A : Type 0} → (A → List ℕ) → (A → ℕ) → List A → Type 0
IsInOrder key row xs = IsSorted (in_order key row) xs

-- Zones by the digits of their prefixes, then by row: a zone sorts before the zones inside it.
abbrev pub AreZonesInOrder : List Zone → Type 0
AreZonesInOrder zones = IsInOrder (λ z. z.prefix) (λ z. z.row) zones

-- Groups by the bytes of their names, then by row. For A4 and A5 a zone's group is looked up by halving in this order.
abbrev pub AreGroupsInOrder : List Group → Type 0
AreGroupsInOrder groups = IsInOrder (λ g. g.name) (λ g. g.row) groups
