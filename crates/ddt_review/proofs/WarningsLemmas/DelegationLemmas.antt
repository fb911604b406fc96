-- Pairs of groups that were seen, and seen twice, with one more zone; and whose address an ETR's is.
use Rattle.std.proofs.Common.{◌≡◌, ℕ, ◌+◌, ◌<◌, Bool, true, false, ◌||◌, ◌==◌, cond, not, List, [], ◌∷◌, ◌++◌, length, get_or, take, drop, Option, Some, None, refl, sym, ap, ◌∙◌, arith, inl, inr}
use Rattle.std.specs.Prelude.{◌&&◌, nat_lt}
use Rattle.std.specs.List.{count_by}
use Rattle.std.specs.Option.{option_map_or}
use Rattle.std.specs.declared.cmp.Ordering.{Ordering}
use Rattle.std.specs.declared.cmp.Ordering.TheVariants.{Less, Equal, Greater}
use Rattle.std.specs.Ordering.{nat_cmp, is_eq, ordering_then}
use Rattle.std.specs.Cmp.Lexicographic.{slice_cmp, texts_ties}
use Rattle.std.proofs.lemmas.Bool.{cases_order, lt-ltb, le-ltb, eq-eqb, and_parts}
use Rattle.std.proofs.lemmas.List.Sums.{count_by_more_yes, count_by_more_no}
use Rattle.ddt_path.specs.Covers.{covers, is_same_path}
use Rattle.ddt_path.specs.Names.{is_same_name}
use Rattle.ddt_path.specs.laws.Cover.{same_path, same_path-flips}
use Rattle.ddt_path.specs.laws.Member.{iff_same}
use Rattle.ddt_review.specs.Warnings.Found.{pair_cmp}
use Rattle.ddt_register.specs.declared.register.Register.{Register}
use Rattle.ddt_review.specs.Warnings.Warnings.{is_same_pair, is_usual, are_at_home}

same_flips : (p q : List ℕ) → is_same_path p q ≡ is_same_path q p
same_flips p q = iff_same (is_same_path p q) (is_same_path q p) (same_path-flips p q) (same_path-flips q p)

then_ties : (a b : Ordering) → is_eq (ordering_then a b) ≡ (is_eq a && is_eq b)
then_ties Less b = refl
then_ties Equal b = refl
then_ties Greater b = refl

-- two pairs are one if and only if they tie
pub pair_ties : (a b : List ℕ × List ℕ) → is_eq (pair_cmp b a) ≡ is_same_pair a b
pair_ties a b =
    then_ties (slice_cmp nat_cmp b.0 a.0) (slice_cmp nat_cmp b.1 a.1)
    ∙ ap (λ (x : Bool). x && is_eq (slice_cmp nat_cmp b.1 a.1)) (sym (texts_ties b.0 a.0) ∙ same_flips b.0 a.0)
    ∙ ap (λ (x : Bool). is_same_name a.0 b.0 && x) (sym (texts_ties b.1 a.1) ∙ same_flips b.1 a.1)

pub or_cond : (b t : Bool) → cond b true t ≡ (t || b)
or_cond true true = refl
or_cond true false = refl
or_cond false true = refl
or_cond false false = refl

-- one more pair is in a set
pub pair_inserted : (a b : List ℕ × List ℕ) (before : Bool)
    → cond (is_eq (pair_cmp b a)) true before ≡ (before || is_same_pair a b)
pair_inserted a b before =
    ap (λ (x : Bool). cond x true before) (pair_ties a b) ∙ or_cond (is_same_pair a b) before

-- two pairs that tie are one
pub pairs_same : (a b : List ℕ × List ℕ) → is_same_pair a b ≡ true → a ≡ b
pairs_same (a, b) (x, y) e =
    let q = and_parts (is_same_name a x) (is_same_name b y) e in
    let f : a ≡ x = same_path a x q.0 in
    let g : b ≡ y = same_path b y q.1 in
    cc

-- whether a pair was seen is asked of the pair itself
pub seen_itself : (has : List ℕ × List ℕ → Bool) (k pair : List ℕ × List ℕ)
    → (has pair && is_same_pair k pair) ≡ (has k && is_same_pair k pair)
seen_itself has k pair = go (is_same_pair k pair) refl
  where
    neither : (a b : Bool) → (a && false) ≡ (b && false)
    neither true true = refl
    neither true false = refl
    neither false true = refl
    neither false false = refl

    go : (same : Bool) → is_same_pair k pair ≡ same → (has pair && same) ≡ (has k && same)
    go true e = ap (λ (p : List ℕ × List ℕ). has p && true) (sym (pairs_same k pair e))
    go false e = neither (has pair) (has k)

-- which pairs are at home, by a set of those that are usual
pub home_by : (r : Register) (name : List ℕ) (of : List ℕ × List ℕ → List ℕ) (has : List ℕ × List ℕ → Bool)
    → ((pair : List ℕ × List ℕ) → has pair ≡ is_usual r pair) → (given own : Option (List ℕ × List ℕ)) → given ≡ own
    → option_map_or (λ d. (not (is_same_name d.0 d.1) && has d) && is_same_name name (of d)) given false
    ≡ option_map_or (λ d. are_at_home r d && is_same_name name (of d)) own false
home_by r name of has is_has given own e =
    ap (λ (o : Option (List ℕ × List ℕ)). option_map_or (λ d. (not (is_same_name d.0 d.1) && has d) && is_same_name name (of d)) o false) e
    ∙ go own
  where
    go : (o : Option (List ℕ × List ℕ))
        → option_map_or (λ d. (not (is_same_name d.0 d.1) && has d) && is_same_name name (of d)) o false
        ≡ option_map_or (λ d. are_at_home r d && is_same_name name (of d)) o false
    go None = refl
    go (Some d) = ap (λ (b : Bool). (not (is_same_name d.0 d.1) && b) && is_same_name name (of d)) (is_has d)

-- ---- counts to two

module _ {A : Type 0} (test : A → Bool) (xs : List A) (i : ℕ) (x : A) (lt : i < length xs) (is : x ≡ get_or xs i x) where
  abbrev before : ℕ
  before = count_by test (take i xs)

  abbrev after : ℕ
  after = count_by test (take (i + 1) xs)

  yes : test x ≡ true → after ≡ before + 1
  yes e = count_by_more_yes test xs i x lt (ap test (sym is) ∙ e)

  no : test x ≡ false → after ≡ before
  no e = count_by_more_no test xs i x lt (ap test (sym is) ∙ e)

  pub seen_more : (seen mark : Bool) → seen ≡ nat_lt 0 before → mark ≡ test x → (seen || mark) ≡ nat_lt 0 after
  seen_more seen mark so_far now = ap (λ (b : Bool). b || mark) so_far ∙ ap (λ (b : Bool). nat_lt 0 before || b) now
      ∙ go (test x) refl
    where
      go : (b : Bool) → test x ≡ b → (nat_lt 0 before || b) ≡ nat_lt 0 after
      go true e = or_true (nat_lt 0 before) ∙ sym (lt-ltb 0 after (let n = yes e in omega arith))
        where
          or_true : (c : Bool) → (c || true) ≡ true
          or_true true = refl
          or_true false = refl
      go false e = or_false (nat_lt 0 before) ∙ ap (nat_lt 0) (sym (no e))
        where
          or_false : (c : Bool) → (c || false) ≡ c
          or_false true = refl
          or_false false = refl

  pub twice_more : (twice seen mark : Bool) → twice ≡ nat_lt 1 before → seen ≡ nat_lt 0 before → mark ≡ test x
      → (twice || (seen && mark)) ≡ nat_lt 1 after
  twice_more twice seen mark so_far once now =
      ap (λ (b : Bool). b || (seen && mark)) so_far
      ∙ ap (λ (b : Bool). nat_lt 1 before || (b && mark)) once
      ∙ ap (λ (b : Bool). nat_lt 1 before || (nat_lt 0 before && b)) now
      ∙ go (test x) refl
    where
      both : (c d : Bool) → (c || (d && false)) ≡ c
      both true d = refl
      both false true = refl
      both false false = refl

      up : (n : ℕ) → (nat_lt 1 n || (nat_lt 0 n && true)) ≡ nat_lt 1 (n + 1)
      up n =
          elim (cases_order n 0) [
            | inl none ↦
                let a : nat_lt 1 n ≡ false = le-ltb 1 n (omega arith) in
                let b : nat_lt 0 n ≡ false = le-ltb 0 n (omega arith) in
                let d : nat_lt 1 (n + 1) ≡ false = le-ltb 1 (n + 1) (omega arith) in
                rw (a, b, d) refl
            | inr (inl less) ↦ absurd (omega arith)
            | inr (inr more) ↦
                let b : nat_lt 0 n ≡ true = lt-ltb 0 n (omega arith) in
                let d : nat_lt 1 (n + 1) ≡ true = lt-ltb 1 (n + 1) (omega arith) in
                rw (b, d) (all (nat_lt 1 n))
          ]
        where
          all : (c : Bool) → (c || (true && true)) ≡ true
          all true = refl
          all false = refl

      go : (b : Bool) → test x ≡ b → (nat_lt 1 before || (nat_lt 0 before && b)) ≡ nat_lt 1 after
      go true e = up before ∙ ap (nat_lt 1) (sym (yes e))
      go false e = both (nat_lt 1 before) (nat_lt 0 before) ∙ ap (nat_lt 1) (sym (no e))

-- ---- an address inside a prefix, whose front has so many digits

pub covers_part : (d p a b : List ℕ) → take (length p) (d ++ b) ≡ p → length d < length p
    → covers p (d ++ a) ≡ covers (drop (length d) p) a
covers_part [] p a b e lt = refl
covers_part (x ∷ d) [] a b e lt = absurd (omega arith)
covers_part (x ∷ d) (y ∷ p) a b e lt =
    let same : y ≡ x = cc in
    let rest : take (length p) (d ++ b) ≡ p = cc in
    let one : (y == x) ≡ true = eq-eqb y x same in
    ap (λ (c : Bool). c && covers p (d ++ a)) one ∙ covers_part d p a b rest (omega arith)
