-- The pieces into which keys divide a prefix.
use Rattle.std.proofs.Common.{◌≡◌, ◌⊎◌, ℕ, zero, suc, ◌+◌, ◌-◌, ◌<◌, ◌≤◌, Bool, true, false, cond, not, List, [], ◌∷◌, ◌++◌, length, find, Some, None, refl, sym, ap, subst, ◌∙◌, arith, inl, inr}
use Rattle.std.specs.Prelude.{◌==◌, ◌&&◌, nat_lt}
use Rattle.std.specs.List.{list_all}
use Rattle.std.proofs.lemmas.Bool.{and_parts, and_from, or_right, or_left, false≢true, false_from_ne_true, not_from_false, both_ways, cond-true, cond-false, eqb-true, lt-ltb, cases_lt}
use Rattle.std.proofs.lemmas.List.{append_assoc}
use Rattle.std.proofs.lemmas.List.Folds.{list_all-append}
use Rattle.ddt_path.specs.Covers.{covers, is_strictly_below}
use Rattle.ddt_path.specs.Free.{lengthened}
use Rattle.ddt_path.specs.Path.{is_path, is_prefix_path}
use Rattle.ddt_path.specs.laws.Cover.{covers_self, covers_trans, covers-append, covered_same, next_digit, below_is, eqb_self}
use Rattle.ddt_path.specs.laws.Front.{below_parts}
use Rattle.ddt_path.specs.laws.End.{overlaps_whole}
use Rattle.ddt_path.specs.laws.Member.{IsIn, all_of, holds_at, some_passes}
use Rattle.ddt_path.specs.laws.PathTest.{prefix_that_covers}
use Rattle.ddt_plan.specs.Blocks.{is_undivided, stands_before, are_in_order, next_digit as digit_of, family_bit, bit, half, pieces}
use Rattle.ddt_plan.proofs.AlikeLemmas.{in_first, in_second}
use Rattle.ddt_plan.proofs.HalfLemmas.{goes_on, length_most, length-half}

in_either : {A : Type 0} (xs ys : List A) (a : A) → IsIn a (xs ++ ys) → IsIn a xs ⊎ IsIn a ys
in_either [] ys a k = inr k
in_either (x ∷ xs) ys a (inl same) = inl (inl same)
in_either (x ∷ xs) ys a (inr later) = elim (in_either xs ys a later) [ inl k ↦ inl (inr k) | inr k ↦ inr k ]

-- ---- what stands before what

stands_apart : (q : List ℕ) (d e : ℕ) (p r : List ℕ) → d < e → covers (q ++ d ∷ []) p ≡ true → covers (q ++ e ∷ []) r ≡ true → stands_before p r ≡ true
stands_apart [] d e [] r lt a b = absurd (false≢true a)
stands_apart [] d e (h ∷ p) [] lt a b = absurd (false≢true b)
stands_apart [] d e (h ∷ p) (g ∷ r) lt a b =
    let s = eqb-true d h (and_parts (d == h) true a).0 in
    let t = eqb-true e g (and_parts (e == g) true b).0 in
    or_left (nat_lt h g) (h == g && stands_before p r) (lt-ltb h g (omega arith))
stands_apart (c ∷ q) d e [] r lt a b = absurd (false≢true a)
stands_apart (c ∷ q) d e (h ∷ p) [] lt a b = absurd (false≢true b)
stands_apart (c ∷ q) d e (h ∷ p) (g ∷ r) lt a b =
    let s = and_parts (c == h) (covers (q ++ d ∷ []) p) a in
    let t = and_parts (c == g) (covers (q ++ e ∷ []) r) b in
    let same : h ≡ g = sym (eqb-true c h s.0) ∙ eqb-true c g t.0 in
    or_right (nat_lt h g) (h == g && stands_before p r)
    (and_from (h == g) (stands_before p r) (subst (λ (n : ℕ). (h == n) ≡ true) same (eqb_self h)) (stands_apart q d e p r lt s.1 t.1))

ordered_both : (xs ys : List (List ℕ)) → are_in_order xs ≡ true → are_in_order ys ≡ true
    → ((p : List ℕ) → IsIn p xs → (r : List ℕ) → IsIn r ys → stands_before p r ≡ true) → are_in_order (xs ++ ys) ≡ true
ordered_both [] ys a b h = b
ordered_both (p ∷ xs) ys a b h =
    let s = and_parts (list_all (stands_before p) xs) (are_in_order xs) a in
    and_from (list_all (stands_before p) (xs ++ ys)) (are_in_order (xs ++ ys))
    (list_all-append (stands_before p) xs ys
    ∙ and_from (list_all (stands_before p) xs) (list_all (stands_before p) ys) s.0 (all_of (stands_before p) ys (h p (inl refl))))
    (ordered_both xs ys s.1 b (λ r k. h r (inr k)))

pub halves_apart : (q : List ℕ) → digit_of 32 false q < digit_of 32 true q
halves_apart q = elim (length q == 32) as (λ b. cond b (family_bit false) (bit false) < cond b (family_bit true) (bit true)) [ true ↦ omega arith | false ↦ omega arith ]

-- ---- pieces

module _ (keys : List (List ℕ)) where
  abbrev Divided : ℕ → List ℕ → List (List ℕ)
  Divided n q = pieces n keys (half false q) ++ pieces n keys (half true q)

  abbrev Kept : Bool → ℕ → List ℕ → List (List ℕ)
  Kept b n q = cond b (q ∷ []) (Divided n q)

  covered_case : (n : ℕ) (q p : List ℕ) → ((upper : Bool) → IsIn p (pieces n keys (half upper q)) → covers (half upper q) p ≡ true) → (b : Bool) → IsIn p (Kept b n q) → covers q p ≡ true
  covered_case n q p ih true (inl same) = ap (covers q) same ∙ covers_self q
  covered_case n q p ih true (inr later) = absurd later
  covered_case n q p ih false k = elim (in_either (pieces n keys (half false q)) (pieces n keys (half true q)) p k) [
    | inl low ↦ covers_trans q (half false q) p (covers-append q (digit_of 32 false q ∷ [])) (ih false low)
    | inr high ↦ covers_trans q (half true q) p (covers-append q (digit_of 32 true q ∷ [])) (ih true high)
  ]

  pub piece_covered : (n : ℕ) (q p : List ℕ) → IsIn p (pieces n keys q) → covers q p ≡ true
  unfolding pieces
  piece_covered zero q p (inl same) = ap (covers q) same ∙ covers_self q
  piece_covered zero q p (inr later) = absurd later
  piece_covered (suc n) q p k = covered_case n q p (λ upper j. piece_covered n (half upper q) p j) (is_undivided keys q) k

  order_case : (n : ℕ) (q : List ℕ) → ((upper : Bool) → are_in_order (pieces n keys (half upper q)) ≡ true) → (b : Bool) → are_in_order (Kept b n q) ≡ true
  order_case n q ih true = refl
  order_case n q ih false = ordered_both (pieces n keys (half false q)) (pieces n keys (half true q)) (ih false) (ih true)
      (λ p k r j. stands_apart q (digit_of 32 false q) (digit_of 32 true q) p r (halves_apart q) (piece_covered n (half false q) p k) (piece_covered n (half true q) r j))

  pub pieces_in_order : (n : ℕ) (q : List ℕ) → are_in_order (pieces n keys q) ≡ true
  unfolding pieces
  pieces_in_order zero q = refl
  pieces_in_order (suc n) q = order_case n q (λ upper. pieces_in_order n (half upper q)) (is_undivided keys q)

  -- the first front that no key is strictly below
  at_once : (f r : List ℕ) → is_undivided keys f ≡ true → find (is_undivided keys) (lengthened f r) ≡ Some f
  at_once f [] t = cond-true (is_undivided keys f) (Some f) None t
  at_once f (d ∷ r) t = cond-true (is_undivided keys f) (Some f) (find (is_undivided keys) (lengthened (f ++ d ∷ []) r)) t

  abbrev IsFound : List ℕ → List ℕ → List ℕ → Type 0
  IsFound q r p = find (is_undivided keys) (lengthened q r) ≡ Some p

  found_case : (n : ℕ) (q p r : List ℕ) → covers p (q ++ r) ≡ true
      → ((upper : Bool) → IsIn p (pieces n keys (half upper q)) → (s : List ℕ) → covers p (half upper q ++ s) ≡ true → IsFound (half upper q) s p)
      → (b : Bool) → is_undivided keys q ≡ b → IsIn p (Kept b n q) → IsFound q r p
  found_case n q p r c ih true e (inl same) = at_once q r e ∙ ap (λ (l : List ℕ). Some l) (sym same)
  found_case n q p r c ih true e (inr later) = absurd later
  found_case n q p r c ih false e k = elim (in_either (pieces n keys (half false q)) (pieces n keys (half true q)) p k) [
    | inl low ↦ further false low
    | inr high ↦ further true high
  ]
    where
      further : (upper : Bool) → IsIn p (pieces n keys (half upper q)) → IsFound q r p
      further upper j =
          let d = digit_of 32 upper q in
          let next = next_digit q d r (covers_trans (q ++ d ∷ []) p (q ++ r) (piece_covered n (half upper q) p j) c) in
          ap (λ (l : List ℕ). find (is_undivided keys) (lengthened q l)) next.1
          ∙ cond-false (is_undivided keys q) (Some q) (find (is_undivided keys) (lengthened (q ++ d ∷ []) next.0)) e
          ∙ ih upper j next.0
          (ap (covers p) (append_assoc q (d ∷ []) next.0) ∙ ap (λ (l : List ℕ). covers p (q ++ l)) (sym next.1) ∙ c)

  pub piece_found : (n : ℕ) (q p r : List ℕ) → IsIn p (pieces n keys q) → is_undivided keys p ≡ true → covers p (q ++ r) ≡ true → IsFound q r p
  unfolding pieces
  piece_found zero q p r (inl same) t c = at_once q r (ap (is_undivided keys) (sym same) ∙ t) ∙ ap (λ (l : List ℕ). Some l) (sym same)
  piece_found zero q p r (inr later) t c = absurd later
  piece_found (suc n) q p r k t c = found_case n q p r c (λ upper j s d. piece_found n (half upper q) p s j t d) (is_undivided keys q) refl k

  module _ (paths : list_all is_prefix_path keys ≡ true) where
    key_path : (k : List ℕ) → IsIn k keys → is_prefix_path k ≡ true
    key_path k j = holds_at is_prefix_path keys k paths j

    -- an identifier inside a prefix that a key divides lies in one of its halves
    into_half : (q x : List ℕ) → is_path x ≡ true → covers q x ≡ true → is_undivided keys q ≡ false → (covers (half false q) x ≡ true) ⊎ (covers (half true q) x ≡ true)
    into_half q x e c divided =
        let k = some_passes (λ (k : List ℕ). is_strictly_below k q) keys divided in
        elim (cases_lt (length q) (length x)) [
          | inl lt ↦ (goes_on q x (prefix_that_covers x x e (covers_self x)) c lt).1
          | inr le ↦
              let same : q ≡ x = covered_same q x c le in
              let s = below_is k.0 x (subst (λ (l : List ℕ). is_strictly_below k.0 l ≡ true) same k.2) in
              absurd (both_ways (covers k.0 x) s.1 (sym (overlaps_whole x k.0 e (key_path k.0 k.1)) ∙ or_right (covers k.0 x) (covers x k.0) s.0))
        ]

    abbrev IsThere : List (List ℕ) → List ℕ → Type 0
    IsThere ps x = (p : List ℕ) × IsIn p ps × (covers p x ≡ true)

    there_case : (n : ℕ) (q x : List ℕ) → is_path x ≡ true → covers q x ≡ true → ((upper : Bool) → covers (half upper q) x ≡ true → IsThere (pieces n keys (half upper q)) x)
        → (b : Bool) → is_undivided keys q ≡ b → IsThere (Kept b n q) x
    there_case n q x e c ih true whole = (q, inl refl, c)
    there_case n q x e c ih false divided = elim (into_half q x e c divided) [
      | inl low ↦ let p = ih false low in (p.0, in_first (pieces n keys (half false q)) (pieces n keys (half true q)) p.0 p.1, p.2)
      | inr high ↦ let p = ih true high in (p.0, in_second (pieces n keys (half false q)) (pieces n keys (half true q)) p.0 p.1, p.2)
    ]

    pub piece_there : (n : ℕ) (q x : List ℕ) → is_path x ≡ true → covers q x ≡ true → IsThere (pieces n keys q) x
    unfolding pieces
    piece_there zero q x e c = (q, inl refl, c)
    piece_there (suc n) q x e c = there_case n q x e c (λ upper d. piece_there n (half upper q) x e d) (is_undivided keys q) refl

    whole_case : (n : ℕ) (q p : List ℕ) → ((upper : Bool) → IsIn p (pieces n keys (half upper q)) → is_undivided keys p ≡ true) → (b : Bool) → is_undivided keys q ≡ b → IsIn p (Kept b n q) → is_undivided keys p ≡ true
    whole_case n q p ih true e (inl same) = ap (is_undivided keys) same ∙ e
    whole_case n q p ih true e (inr later) = absurd later
    whole_case n q p ih false e k = elim (in_either (pieces n keys (half false q)) (pieces n keys (half true q)) p k) [ inl low ↦ ih false low | inr high ↦ ih true high ]

    -- no key is strictly below a prefix of 161 digits
    whole_at_most : (q : List ℕ) → 161 ≤ length q → is_undivided keys q ≡ true
    whole_at_most q long = all_of (λ (k : List ℕ). not (is_strictly_below k q)) keys (λ k j. not_from_false (is_strictly_below k q) (false_from_ne_true (is_strictly_below k q) (λ below.
        let lt : length q < length k = (below_parts k q below).1 in let most : length k ≤ 161 = length_most k (key_path k j) in absurd (omega arith))))

    -- no key is strictly below a piece, where there are digits enough
    pub piece_whole : (n : ℕ) (q p : List ℕ) → 161 ≤ length q + n → IsIn p (pieces n keys q) → is_undivided keys p ≡ true
    unfolding pieces
    piece_whole zero q p long (inl same) = ap (is_undivided keys) same ∙ whole_at_most q (omega arith)
    piece_whole zero q p long (inr later) = absurd later
    piece_whole (suc n) q p long k = whole_case n q p (λ upper j. piece_whole n (half upper q) p (omega (arith, length-half upper q)) j) (is_undivided keys q) refl k

-- ---- one step of a walk

pub pieces_one : (n : ℕ) (keys : List (List ℕ)) (q : List ℕ) → is_undivided keys q ≡ true → pieces n keys q ≡ q ∷ []
unfolding pieces
pieces_one zero keys q e = refl
pieces_one (suc n) keys q e = cond-true (is_undivided keys q) (q ∷ []) (pieces n keys (half false q) ++ pieces n keys (half true q)) e

pub pieces_step : (keys : List (List ℕ)) (q : List ℕ) → is_undivided keys q ≡ false → length q < 161
    → pieces (161 - length q) keys q ≡ pieces (161 - length (half false q)) keys (half false q) ++ pieces (161 - length (half true q)) keys (half true q)
unfolding pieces
pieces_step keys q e lt =
    let n = 161 - (length q + 1) in
    let more : 161 - length q ≡ suc n = omega arith in
    ap (λ (m : ℕ). pieces m keys q) more
    ∙ cond-false (is_undivided keys q) (q ∷ []) (pieces n keys (half false q) ++ pieces n keys (half true q)) e
    ∙ ap (λ (m : ℕ). pieces (161 - m) keys (half false q) ++ pieces n keys (half true q)) (sym (length-half false q))
    ∙ ap (λ (m : ℕ). pieces (161 - length (half false q)) keys (half false q) ++ pieces (161 - m) keys (half true q)) (sym (length-half true q))

-- what is made of the one half, and what is made of the other, are what is made of the whole
pub two_parts : {B : Type 0} (make : List (List ℕ) → List B) → ((xs ys : List (List ℕ)) → make (xs ++ ys) ≡ make xs ++ make ys)
    → (keys : List (List ℕ)) (q : List ℕ) → is_undivided keys q ≡ false → length q < 161
    → make (pieces (161 - length (half false q)) keys (half false q)) ++ make (pieces (161 - length (half true q)) keys (half true q)) ≡ make (pieces (161 - length q) keys q)
two_parts make split keys q e lt =
    sym (split (pieces (161 - length (half false q)) keys (half false q)) (pieces (161 - length (half true q)) keys (half true q)))
    ∙ ap make (sym (pieces_step keys q e lt))

-- a key strictly below a prefix that is divided goes on in it
pub keys_go_on : (keys : List (List ℕ)) → list_all is_prefix_path keys ≡ true → (q : List ℕ) → is_undivided keys q ≡ false → ((upper : Bool) → is_prefix_path (half upper q) ≡ true) × (length q < 161)
keys_go_on keys paths q divided =
    let k = some_passes (λ (k : List ℕ). is_strictly_below k q) keys divided in
    let b = below_parts k.0 q k.2 in
    let e = holds_at is_prefix_path keys k.0 paths k.1 in
    let lt : length q < length k.0 = b.1 in
    let most : length k.0 ≤ 161 = length_most k.0 e in
    ((goes_on q k.0 e b.0 b.1).0, omega arith)

-- what a prefix is divided into are prefixes
path_case : (keys : List (List ℕ)) → list_all is_prefix_path keys ≡ true → (n : ℕ) (q p : List ℕ) → is_prefix_path q ≡ true
    → ((upper : Bool) → is_prefix_path (half upper q) ≡ true → IsIn p (pieces n keys (half upper q)) → is_prefix_path p ≡ true)
    → (b : Bool) → is_undivided keys q ≡ b → IsIn p (Kept keys b n q) → is_prefix_path p ≡ true
path_case keys paths n q p whole ih true e (inl same) = ap is_prefix_path same ∙ whole
path_case keys paths n q p whole ih true e (inr later) = absurd later
path_case keys paths n q p whole ih false e k =
    let halves = (keys_go_on keys paths q e).0 in
    elim (in_either (pieces n keys (half false q)) (pieces n keys (half true q)) p k) [
      | inl low ↦ ih false (halves false) low
      | inr high ↦ ih true (halves true) high
    ]

pub piece_path : (keys : List (List ℕ)) → list_all is_prefix_path keys ≡ true → (n : ℕ) (q p : List ℕ) → is_prefix_path q ≡ true → IsIn p (pieces n keys q) → is_prefix_path p ≡ true
unfolding pieces
piece_path keys paths zero q p whole (inl same) = ap is_prefix_path same ∙ whole
piece_path keys paths zero q p whole (inr later) = absurd later
piece_path keys paths (suc n) q p whole k = path_case keys paths n q p whole (λ upper e j. piece_path keys paths n (half upper q) p e j) (is_undivided keys q) refl k
