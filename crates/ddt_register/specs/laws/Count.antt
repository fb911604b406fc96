-- Counting: rows that rise are few, and tests of which no item passes two keep in all no more items than there are.
use Rattle.std.proofs.Common.{◌≡◌, ℕ, ◌+◌, ◌≤◌, Bool, true, false, ◌&&◌, ◌||◌, cond, List, [], ◌∷◌, length, map, refl, ap, arith, inl, inr, nat_le, true≢false}
use Rattle.std.specs.Prelude.{nat_lt}
use Rattle.std.specs.List.{list_any, filter, sum_by}
use Rattle.std.proofs.lemmas.Bool.{and_parts, leb-true, false_from_ne_true}
use Rattle.std.proofs.lemmas.List.{length-map}
use Rattle.std.proofs.lemmas.List.Sums.{sum_by-cons, length-filter, count_by-le-length}
use Rattle.ddt_register.specs.Rows.{rise}
use Rattle.ddt_path.specs.laws.Member.{IsIn, none_of}
use Rattle.ddt_register.specs.laws.Rising.{rise_parts, above}

-- rows above one that stay within 65,535
bounded : (last : ℕ) (rows : List ℕ) → last ≤ 65535 → rise last rows ≡ true → length rows + last ≤ 65535
bounded last [] le e = omega arith
bounded last (row ∷ rows) le e =
    let p = and_parts (nat_lt last row && nat_le row 65535) (rise row rows) e in
    let top = leb-true row 65535 (and_parts (nat_lt last row) (nat_le row 65535) p.0).1 in
    let rest = bounded row rows top p.1 in
    let next = (rise_parts last row rows e).0 in
    omega arith

pub few_rows : {A : Type 0} (row : A → ℕ) (xs : List A) → rise 0 (map row xs) ≡ true → length xs ≤ 65535
few_rows row xs e = let le = bounded 0 (map row xs) (omega arith) e in let n = length-map xs row in omega arith

pub filter_few : {A : Type 0} (test : A → Bool) (xs : List A) → length (filter test xs) ≤ length xs
filter_few test xs = let n = length-filter test xs in let le = count_by-le-length test xs in omega arith

-- a sum over what is made of each member
pub sum_made : {A B : Type 0} (count : B → ℕ) (f : A → B) (other : A → ℕ) (xs : List A) → ((x : A) → IsIn x xs → count (f x) ≡ other x) → sum_by count (map f xs) ≡ sum_by other xs
sum_made count f other [] h = refl
sum_made count f other (x ∷ xs) h =
    let first = h x (inl refl) in
    let rest = sum_made count f other xs (λ y k. h y (inr k)) in
    omega (arith, sum_by-cons count (f x) (map f xs), sum_by-cons other x xs)

-- what one of two tests keeps, where no item passes both
either_kept : {B : Type 0} (b c : Bool) (y : B) (us vs ws : List B) → (b ≡ true → c ≡ false) → length us + length vs ≡ length ws → length (cond b (y ∷ us) us) + length (cond c (y ∷ vs) vs) ≡ length (cond (b || c) (y ∷ ws) ws)
either_kept true true y us vs ws h e = absurd (true≢false (h refl))
either_kept true false y us vs ws h e = omega arith
either_kept false true y us vs ws h e = omega arith
either_kept false false y us vs ws h e = e

kept_by_either : {B : Type 0} (p q : B → Bool) (ys : List B) → ((y : B) → IsIn y ys → p y ≡ true → q y ≡ false) → length (filter p ys) + length (filter q ys) ≡ length (filter (λ y. p y || q y) ys)
kept_by_either p q [] h = omega arith
kept_by_either p q (y ∷ ys) h = either_kept (p y) (q y) y (filter p ys) (filter q ys) (filter (λ z. p z || q z) ys) (h y (inl refl)) (kept_by_either p q ys (λ z k. h z (inr k)))

-- a test for each of a list in rising rows, where no item passes the tests of two
module _ {A B : Type 0} (row : A → ℕ) (test : A → B → Bool) (ys : List B) where
  abbrev pub ArePartedBy : List A → Type 0
  ArePartedBy xs = (a b : A) (y : B) → IsIn a xs → IsIn b xs → IsIn y ys → test a y ≡ true → test b y ≡ true → a ≡ b

  passes_one : (x : A) (xs : List A) (last : ℕ) → rise last (row x ∷ map row xs) ≡ true → ArePartedBy (x ∷ xs) → (y : B) → IsIn y ys → test x y ≡ true → list_any (λ z. test z y) xs ≡ false
  passes_one x xs last e h y j t =
      none_of (λ z. test z y) xs (λ z k. false_from_ne_true (test z y) (λ u.
      let same : row x ≡ row z = ap row (h x z y (inl refl) (inr k) j t u) in
      let lt = above row xs (row x) z (rise_parts last (row x) (map row xs) e).1 k in
      absurd (omega arith)))

  kept_by_any : (xs : List A) (last : ℕ) → rise last (map row xs) ≡ true → ArePartedBy xs → sum_by (λ x. length (filter (test x) ys)) xs ≤ length (filter (λ y. list_any (λ x. test x y) xs) ys)
  kept_by_any [] last e h = omega arith
  kept_by_any (x ∷ xs) last e h =
      let rest = kept_by_any xs (row x) (rise_parts last (row x) (map row xs) e).1 (λ a b y j k. h a b y (inr j) (inr k)) in
      let both = kept_by_either (test x) (λ y. list_any (λ z. test z y) xs) ys (passes_one x xs last e h) in
      omega (arith, sum_by-cons (λ z. length (filter (test z) ys)) x xs)

  pub kept_in_all : (xs : List A) (last : ℕ) → rise last (map row xs) ≡ true → ArePartedBy xs → sum_by (λ x. length (filter (test x) ys)) xs ≤ length ys
  kept_in_all xs last e h = let le = kept_by_any xs last e h in let all = filter_few (λ y. list_any (λ x. test x y) xs) ys in omega arith
