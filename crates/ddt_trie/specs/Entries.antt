-- Entries in a list, each key once, as a finite map.
use Rattle.std.specs.Prelude.{ℕ, Bool, true, ◌&&◌, not, List, [], ◌∷◌, is_some}
use Rattle.std.specs.List.{list_all}
use Rattle.std.specs.FinMap.{FinMap, find, from_entries}
use Rattle.ddt_path.specs.Covers.{covers, overlaps, is_strictly_below}
use Rattle.ddt_trie.specs.PrefixMap.{path_cmp}

-- whether each entry has a key of its own: no key occurs twice
abbrev pub have_own_keys : {V : Type 0} → List (List ℕ × V) → Bool
have_own_keys [] = true
have_own_keys (e ∷ es) = not (is_some (find path_cmp e.0 es)) && have_own_keys es

-- the map of the entries
abbrev pub map_of : {V : Type 0} → List (List ℕ × V) → FinMap path_cmp V
map_of es = from_entries {R = path_cmp} es

-- whether no key covers x
abbrev pub none_covers : {V : Type 0} → List (List ℕ × V) → List ℕ → Bool
none_covers es x = list_all (λ e. not (covers e.0 x)) es

-- whether no key strictly below p covers x
abbrev pub none_covers_below : {V : Type 0} → List (List ℕ × V) → List ℕ → List ℕ → Bool
none_covers_below es p x = list_all (λ e. not (is_strictly_below e.0 p && covers e.0 x)) es

-- whether no key strictly below p overlaps q
abbrev pub none_overlaps_below : {V : Type 0} → List (List ℕ × V) → List ℕ → List ℕ → Bool
none_overlaps_below es p q = list_all (λ e. not (is_strictly_below e.0 p && overlaps e.0 q)) es
