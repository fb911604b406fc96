-- One node of a tree: what a path finds there, and below it.
use Rattle.std.proofs.Common.{◌≡◌, ℕ, zero, suc, ◌+◌, ◌<◌, ◌≤◌, Bool, true, false, cond, List, [], ◌∷◌, length, take, drop, Some, None, Option, Box, Global, refl, sym, ap, ◌∙◌, arith, inl, inr}
use Rattle.std.specs.Prelude.{◌⊎◌, ◌&&◌, ◌||◌, ◌==◌, not, nat_lt, nat_le, is_some, IfSome, IfNone}
use Rattle.std.proofs.lemmas.Bool.{false≢true, cases_Bool}
use Rattle.std.proofs.lemmas.Bool.Decides.{nat_tests}
use Rattle.std.proofs.lemmas.Option.{IfSome_then}
use Rattle.std.proofs.lemmas.List.{length-drop}
use Rattle.ddt_trie.specs.declared.tree.TreeEntry.{TreeEntry}
use Rattle.ddt_trie.specs.declared.tree.Tree.{Tree}
use Rattle.ddt_trie.specs.declared.tree.Tree.TheVariants.{Empty, Leaf, Fork'}
use Rattle.ddt_path.specs.Covers.{covers}
use Rattle.ddt_path.specs.laws.Cover.{eqb_self, path_itself}
use Rattle.ddt_trie.specs.Tree.{low, high, lookup, value_in, is_filled, is_pruned, IsUncovered, IsLongestBelow, IsMet, IsHoleBelow}

pub high_apart : (at : ℕ) → (high at == low at) ≡ false
high_apart at = elim (at == 32) as (λ b. (cond b 6 1 == cond b 4 0) ≡ false) [ true ↦ refl | false ↦ refl ]

pub if_none : {A P Q : Type 0} (r : Option A) → (P → Q) → IfNone r P → IfNone r Q
if_none None f h = f h
if_none (Some a) f h = h

-- y goes on to the subtree s with what is left of it, r
pub record IsStep {V : Type 0} (at : ℕ) (t : Tree V) (y : List ℕ) (s : Tree V) (r : List ℕ) : Type 0 where
  pub digit : ℕ
  pub goes : y ≡ digit ∷ r
  pub same : (q : List ℕ) → lookup at t (digit ∷ q) ≡ lookup (at + 1) s q

module _ {V : Type 0} {at : ℕ} {t : Tree V} {p : _} {entry : Option (Box (TreeEntry V) Global)} {z o : Tree V}
    {y r : List ℕ} (is : t ≡ Fork' p entry z o) where
  pub step_low : y ≡ low at ∷ r → IsStep at t y z r
  step_low goes = record { digit = low at; goes = goes; same = λ q. rw (is, eqb_self (low at)) }

  pub step_high : y ≡ high at ∷ r → IsStep at t y o r
  step_high goes = record { digit = high at; goes = goes; same = λ q. rw (is, high_apart at, eqb_self (high at)) }

module _ {V : Type 0} {at : ℕ} {t s : Tree V} {y r : List ℕ} (h : IsStep at t y s r) where
  -- a path that covers y and isn't empty goes on to s
  onto : (q : List ℕ) → covers q y ≡ true → (q ≡ []) ⊎ ((u : List ℕ) × (q ≡ h.digit ∷ u) × (covers u r ≡ true))
  onto [] c = inl refl
  onto (e ∷ q) c = let told = rw h.goes at c in inr (q, grind (arith, nat_tests), grind arith)

  out_of : (q : List ℕ) → covers q r ≡ true → covers (h.digit ∷ q) y ≡ true
  out_of q c = rw (h.goes, eqb_self h.digit) c

  pub longest_step : (n : ℕ) (v : V) → IsLongestBelow (at + 1) s r n v → IsLongestBelow at t y n v
  longest_step n v b = record {
    front = h.digit ∷ b.front;
    depth = omega (arith, b.depth);
    covers_it = out_of b.front b.covers_it;
    value = h.same b.front ∙ b.value;
    longest = λ q w f c. let on = onto q c in grind (arith, h.same, b.longest);
  }

  pub longest_here : (v : V) → lookup at t [] ≡ Some v → IsUncovered (at + 1) s r → IsLongestBelow at t y at v
  longest_here v f u = record {
    front = [];
    depth = omega arith;
    covers_it = refl;
    value = f;
    longest = λ q w g c. let on = onto q c in grind (arith, h.same, u.none);
  }

  pub uncovered_step : lookup at t [] ≡ None → IsUncovered (at + 1) s r → IsUncovered at t y
  uncovered_step f u = record { none = λ q c. let on = onto q c in grind (arith, h.same, u.none) }

  met_step : (k : List ℕ) (c : ℕ) → IsMet (at + 1) s k c → IsMet at t (h.digit ∷ k) c
  met_step k c m = record {
    path = h.digit ∷ m.path;
    value = m.value;
    found = h.same m.path ∙ m.found;
    counts = omega (arith, m.counts);
    meets = rw (eqb_self h.digit) m.meets;
  }

  pub met_below : (c : ℕ) → IsMet (at + 1) s r c → IsMet at t y c
  met_below c m = rw h.goes (met_step r c m)

  hole_filled : (c n : ℕ) → (c ≤ at + 1 → IsMet at t [] c)
      → ((k : ℕ) → k < n → c ≤ (at + 1) + (k + 1) → IsMet (at + 1) s (take k r) c)
      → (k : ℕ) → k < suc n → c ≤ at + (k + 1) → IsMet at t (take k y) c
  hole_filled c n held f zero lt le = held (omega arith)
  hole_filled c n held f (suc k) lt le = rw h.goes (met_step (take k r) c (f k (omega arith) (omega arith)))

  hole_nothing : (c : ℕ) (front : List ℕ)
      → ((q : List ℕ) → c ≤ (at + 1) + length q → covers front q ≡ true → lookup (at + 1) s q ≡ None)
      → (q : List ℕ) → c ≤ at + length q → covers (h.digit ∷ front) q ≡ true → lookup at t q ≡ None
  hole_nothing c front u [] n k = grind arith
  hole_nothing c front u (e ∷ q) n k =
      let is : e ≡ h.digit = grind (arith, nat_tests) in rw is (h.same q ∙ u q (omega arith) (grind arith))

  pub hole_step : (c n : ℕ) → (c ≤ at → lookup at t [] ≡ None) → (c ≤ at + 1 → IsMet at t [] c)
      → IsHoleBelow (at + 1) s r c n → IsHoleBelow at t y c n
  hole_step c n none held g = record {
    front = h.digit ∷ g.front;
    depth = omega (arith, g.depth);
    covers_it = out_of g.front g.covers_it;
    uncovered = λ q le k. let on = onto q k in grind (arith, h.same, g.uncovered);
    nothing = λ q le k. hole_nothing c g.front g.nothing q le k;
    filled = λ k lt le. hole_filled c (length g.front) held g.filled k lt le;
  }

alone : (q y : List ℕ) → y ≡ [] → covers q y ≡ true → q ≡ []
alone [] y ends c = refl
alone (d ∷ q) y ends c = grind arith

module _ {V : Type 0} {at : ℕ} {t : Tree V} {y : List ℕ} (ends : y ≡ []) where
  pub longest_end : (v : V) → lookup at t [] ≡ Some v → IsLongestBelow at t y at v
  longest_end v f = record {
    front = [];
    depth = omega arith;
    covers_it = refl;
    value = f;
    longest = λ q w g c. rw (alone q y ends c) (omega arith);
  }

  pub uncovered_end : lookup at t [] ≡ None → IsUncovered at t y
  uncovered_end f = record { none = λ q c. rw (alone q y ends c) f }

module _ {V : Type 0} where
  empty_none : (at : ℕ) (t : Tree V) (q : List ℕ) → is_filled t ≡ false → lookup at t q ≡ None
  empty_none at t q h = grind arith

  valued : (entry : Option (Box (TreeEntry V) Global)) → is_some entry ≡ true → (v : V) × (value_in entry ≡ Some v)
  valued None told = absurd (false≢true told)
  valued (Some b) told = (b.value.value, refl)

  unvalued : (entry : Option (Box (TreeEntry V) Global)) → is_some entry ≡ false → value_in entry ≡ None
  unvalued None told = refl
  unvalued (Some b) told = absurd (false≢true (sym told))

  abbrev is_branched : Tree V → Bool
  is_branched Empty = false
  is_branched (Leaf b) = false
  is_branched (Fork' p entry z o) = is_filled z || is_filled o

  -- a subtree has an entry, and one below its first node where that has a child
  some_entry : (at : ℕ) (t : Tree V) → is_filled t ≡ true → is_pruned t ≡ true
      → (q : List ℕ) × (v : V) × (lookup at t q ≡ Some v) × (is_branched t ≡ true → 1 ≤ length q)
  some_entry at Empty f h = absurd (false≢true f)
  some_entry at (Leaf b) f h =
      let q = drop at b.value.prefix in
      (q, b.value.value, rw (path_itself q q refl), λ n. absurd (false≢true n))
  some_entry at (Fork' p entry z o) f h =
      elim (cases_Bool (is_filled z)) [
        | inl l ↦ let e = some_entry (at + 1) z l (grind arith) in (low at ∷ e.0, e.1, rw (eqb_self (low at)) e.2, λ n. omega arith)
        | inr k ↦ elim (cases_Bool (is_filled o)) [
          | inl r ↦
              let e = some_entry (at + 1) o r (grind arith) in
              (high at ∷ e.0, e.1, rw (high_apart at, eqb_self (high at)) e.2, λ n. omega arith)
          | inr m ↦ let w = valued entry (grind arith) in ([], w.0, w.1, λ n. absurd (grind arith))
        ]
      ]

module _ (c : ℕ) {V : Type 0} {at : ℕ} {t : Tree V} {p : _} {entry : Option (Box (TreeEntry V) Global)} {z o : Tree V}
    {b : Bool} (is : t ≡ Fork' p entry z o) where
  -- ---- what a node's two tests say

  -- a node above the depth c with no child has nothing below it that counts
  pub hole_short : {y : List ℕ} → b ≡ (nat_lt at c && not (is_filled z || is_filled o)) → b ≡ true → IsHoleBelow at t y c at
  hole_short answer told = record {
    front = [];
    depth = omega arith;
    covers_it = refl;
    uncovered = λ q le k. none q le;
    nothing = λ q le k. none q le;
    filled = λ k l le. absurd (omega arith);
  }
    where
      none : (q : List ℕ) → c ≤ at + length q → lookup at t q ≡ None
      none [] le = absurd (grind (arith, nat_tests))
      none (d ∷ q) le = rw is (grind (arith, empty_none (at + 1) z q, empty_none (at + 1) o q))

  -- a node from the depth c on overlaps an entry that counts, and so does one just above it that has a child
  pub held_below : b ≡ (nat_lt at c && not (is_filled z || is_filled o)) → b ≡ false → is_pruned t ≡ true → c ≤ at + 1
      → IsMet at t [] c
  held_below answer told pruned le =
      let e = some_entry at t (rw is refl) pruned in
      let child : (is_filled z || is_filled o) ≡ true → 1 ≤ length e.0 = λ h. e.3 (rw is h) in
      record { path = e.0; value = e.1; found = e.2; counts = grind (arith, nat_tests); meets = grind arith }

  pub counted_met : {y : List ℕ} → b ≡ (nat_le c at && is_some entry) → b ≡ true → IsMet at t y c
  counted_met answer told =
      let w = valued entry (grind arith) in
      record { path = []; value = w.0; found = rw is w.1; counts = grind (arith, nat_tests); meets = refl }

  pub hole_node : {y r : List ℕ} {s : Tree V} {d : Bool} (found : Option ℕ) → IsStep at t y s r
      → b ≡ (nat_lt at c && not (is_filled z || is_filled o)) → b ≡ false
      → d ≡ (nat_le c at && is_some entry) → d ≡ false → is_pruned t ≡ true
      → IfSome found (λ n. IsHoleBelow (at + 1) s r c n) → IfSome found (λ n. IsHoleBelow at t y c n)
  hole_node found step short short_told counts counts_told pruned least_specific_hole =
      IfSome_then found least_specific_hole (λ n g. hole_step step c n (λ le. rw is (unvalued entry (grind (arith, nat_tests))))
      (λ le. held_below short short_told pruned le) g)

-- a path that ends at a node has no digit from there on
pub ended : (p : List ℕ) (at : ℕ) → drop at p ≡ [] → length p ≤ at
ended p at e = omega (arith, length-drop at p, ap length e)
