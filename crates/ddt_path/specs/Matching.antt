-- Of the items whose prefix covers a path, the one of the longest or of the shortest prefix; of equal prefixes the
-- first.
use Rattle.std.specs.Prelude.{ℕ, ◌≡◌, Bool, nat_lt, if◌then◌else◌, List, [], ◌∷◌, length, Option, None, Some}
use Rattle.std.specs.Fn.{FnReturnsAt}
use denote.Ref.{Bor}
use denote.Param.Members.{Shared}
use Rattle.ddt_path.specs.declared.matches.Preference.{Preference}
use Rattle.ddt_path.specs.declared.matches.Preference.TheVariants.{Longest, Shortest}
use Rattle.ddt_path.specs.Covers.{covers}

-- whether a prefix of m digits is preferred to one of n
abbrev pub is_better : Preference → ℕ → ℕ → Bool
is_better Longest m n = nat_lt n m
is_better Shortest m n = nat_lt m n

-- a second item where its prefix is preferred, else the first
abbrev pub better_of : {A : Type 0} → Preference → (A → List ℕ) → A → Option A → A
better_of preference prefix a None = a
better_of preference prefix a (Some b) =
    if is_better preference (length (prefix b)) (length (prefix a)) then b else a

-- the item that covers x whose prefix is preferred; of equal prefixes the first
abbrev pub best_match : {A : Type 0} → Preference → (A → List ℕ) → List A → List ℕ → Option A
best_match preference prefix [] x = None
best_match preference prefix (a ∷ others) x =
    let later = best_match preference prefix others x in
    if covers (prefix a) x then Some (better_of preference prefix a later) else later

-- the item of the longest prefix that covers x, or none; of equal prefixes the first
abbrev pub longest_match : {A : Type 0} → (A → List ℕ) → List A → List ℕ → Option A
longest_match prefix items x = best_match Longest prefix items x

-- The item of the shortest prefix that covers x, or none; of equal prefixes the first. Used for the next zone that
-- a server refers to.
abbrev pub shortest_match : {A : Type 0} → (A → List ℕ) → List A → List ℕ → Option A
shortest_match prefix items x = best_match Shortest prefix items x

-- a test that code is given answers as this one does, at each item
abbrev pub AnswersAs : {F A : Type 0} → Shared F (Bor A × Unit {0}) Bool → F → (A → Bool) → Type 0
AnswersAs calls test passes = (item : _) (answer : Bool) → FnReturnsAt calls test item answer → answer ≡ passes item
