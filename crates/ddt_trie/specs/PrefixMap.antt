-- A finite map from prefixes, each seen as its path, to values. A server has the places of its authorities, children
-- and sites in such maps, and a resolver has its cache. Both look for the longest prefix that covers an identifier (RFC
-- 8111, sections 7.1 and 7.3).
use Rattle.std.specs.Prelude.{ℕ, ◌≡◌, ◌≤◌, ◌⊎◌, Bool, true, false, IsTrue, List, length, filter, Option, None, Some}
use Rattle.std.specs.declared.cmp.Ordering.{Ordering}
use Rattle.std.specs.Ordering.{nat_cmp}
use Rattle.std.specs.Cmp.Lexicographic.{slice_cmp}
use Rattle.std.specs.FinMap.{FinMap, get, contains_key, keys}
use Rattle.ddt_path.specs.Covers.{covers, is_strictly_below}

-- the order of the keys: by their digits
abbrev pub path_cmp : List ℕ → List ℕ → Ordering
path_cmp = slice_cmp nat_cmp

-- the most entries of a map
abbrev pub most_entries : ℕ
most_entries = 1048576

-- some key covers x
abbrev pub IsCovered : {V : Type 0} → FinMap path_cmp V → List ℕ → Type 0
IsCovered m x = (p : List ℕ) × IsTrue (contains_key m p) × IsTrue (covers p x)

-- the keys strictly below a prefix
abbrev pub keys_below : {V : Type 0} → FinMap path_cmp V → List ℕ → List (List ℕ)
keys_below m p = filter (λ k. is_strictly_below k p) (keys m)

-- some key strictly below p covers x
abbrev pub IsCoveredBelow : {V : Type 0} → FinMap path_cmp V → List ℕ → List ℕ → Type 0
IsCoveredBelow m p x =
    (k : List ℕ) × IsTrue (contains_key m k) × IsTrue (is_strictly_below k p) × IsTrue (covers k x)

-- p is a key that covers x, v is its value, and no key that covers x is longer; so there is no other such p
pub record IsLongest {V : Type 0} (m : FinMap path_cmp V) (x p : List ℕ) (v : V) : Type 0 where
  pub value : get m p ≡ Some v
  pub covers_it : IsTrue (covers p x)
  pub longest : (q : List ℕ) → IsTrue (contains_key m q) → IsTrue (covers q x) → length q ≤ length p

-- what a filter by a test leaves at one key: the value where the test answers true, else nothing
abbrev pub IsKept : {V : Type 0} → (V → Bool → Type 0) → Option V → Option V → Type 0
IsKept answers None after = after ≡ None
IsKept answers (Some v) after = (answers v true × (after ≡ Some v)) ⊎ (answers v false × (after ≡ None))

-- what a filter by a test leaves of a map
pub record IsRetained {V : Type 0} (answers : V → Bool → Type 0) (before after : FinMap path_cmp V) : Type 0 where
  pub at : (p : List ℕ) → IsKept answers (get before p) (get after p)
