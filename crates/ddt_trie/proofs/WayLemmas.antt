-- The digits on the way to a leaf, with which its prefix begins as the path that is looked for does.
use Rattle.std.proofs.Common.{◌≡◌, ℕ, ◌+◌, ◌≤◌, Bool, true, false, cond, List, [], ◌∷◌, ◌++◌, length, take, drop, Some, None, Option, Box, Bor, Global, refl, sym, ap, ◌∙◌, arith}
use Rattle.std.specs.Prelude.{◌&&◌, ◌||◌, not, is_some, IsTrue}
use Rattle.std.specs.Option.{option_copied}
use Rattle.std.specs.Bool.{then_some}
use Rattle.std.proofs.lemmas.Bool.{and_parts}
use Rattle.std.proofs.lemmas.Bool.Decides.{nat_tests}
use Rattle.std.proofs.lemmas.List.{length-take-le, take-append-drop}
use Rattle.ddt_path.specs.Covers.{covers, shared_len, is_same_path}
use Rattle.ddt_path.specs.laws.Cover.{eqb_self, take-covered, length-covered, front_covered}
use Rattle.ddt_path.specs.laws.Share.{shared_len-append, covers_both}
use Rattle.ddt_trie.specs.declared.tree.Tree.{Tree}
use Rattle.ddt_trie.specs.declared.tree.Tree.TheVariants.{Empty, Leaf, Fork'}
use Rattle.ddt_trie.specs.declared.tree.TreeEntry.{TreeEntry}
use Rattle.ddt_trie.specs.Tree.{low, high, lookup, onward, PathGoesOn, HasSameEntriesAt, is_rooted, is_filled, is_pruned}
use Rattle.ddt_trie.proofs.TreeLemmas.{high_apart}

-- ---- the way to the next level

-- both children of a node are rooted
abbrev pub AreRooted : {V : Type 0} → List ℕ → Tree V → Tree V → Type 0
AreRooted way z o = IsTrue (is_rooted (onward low way) z && is_rooted (onward high way) o)

-- a node has an entry of its own or a child, and its children are pruned
abbrev pub ArePruned : {V : Type 0} → Option (Box (TreeEntry V) Global) → Tree V → Tree V → Type 0
ArePruned entry z o = IsTrue ((is_some entry || (is_filled z || is_filled o)) && (is_pruned z && is_pruned o))

module _ {V : Type 0} (at : ℕ) (p : List ℕ) (z o : Tree V) where
  pub into_low : PathGoesOn low at p → AreRooted (take at p) z o → IsTrue (is_rooted (take (at + 1) p) z)
  into_low on h = rw on.3 (grind arith)

  pub into_high : PathGoesOn high at p → AreRooted (take at p) z o → IsTrue (is_rooted (take (at + 1) p) o)
  into_high on h = rw on.3 (grind arith)

  pub from_low : (s : Tree V) → AreRooted (take at p) z o → PathGoesOn low at p → IsTrue (is_rooted (take (at + 1) p) s)
      → AreRooted (take at p) s o
  from_low s h on new = let told = rw on.3 at new in grind arith

  pub from_high : (s : Tree V) → AreRooted (take at p) z o → PathGoesOn high at p → IsTrue (is_rooted (take (at + 1) p) s)
      → AreRooted (take at p) z s
  from_high s h on new = let told = rw on.3 at new in grind arith

-- ---- a node with another entry of its own, if it had one, or whose child is another tree, which has entries if the
-- child had

module _ {V : Type 0} (entry : Option (Box (TreeEntry V) Global)) (z o : Tree V) (h : ArePruned entry z o) where
  -- both children of a node are pruned
  pub below : (is_pruned z ≡ true) × (is_pruned o ≡ true)
  below = and_parts (is_pruned z) (is_pruned o) (and_parts (is_some entry || (is_filled z || is_filled o)) _ h).1

  pub pruned_own : (new : Option (Box (TreeEntry V) Global)) → (IsTrue (is_some entry) → IsTrue (is_some new))
      → ArePruned new z o
  pruned_own new still = grind arith

  pub pruned_low : (s : Tree V) → (IsTrue (is_filled z) → IsTrue (is_filled s)) → IsTrue (is_pruned s)
      → ArePruned entry s o
  pruned_low s still new = grind arith

  pub pruned_high : (s : Tree V) → (IsTrue (is_filled o) → IsTrue (is_filled s)) → IsTrue (is_pruned s)
      → ArePruned entry z s
  pruned_high s still new = grind arith

-- ---- two paths that begin with the same digits

covers_behind : (w a b : List ℕ) → covers (w ++ a) (w ++ b) ≡ covers a b
covers_behind [] a b = refl
covers_behind (d ∷ w) a b = rw (eqb_self d, covers_behind w a b)

module _ (at : ℕ) (p k : List ℕ) (le : at ≤ length p) (h : covers (take at p) k ≡ true) where
  deep : length (take at p) ≡ at
  deep = length-take-le at p le

  pub long : at ≤ length k
  long = omega (arith, length-covered (take at p) k h, deep)

  begins : take at k ≡ take at p
  begins = rw deep at (take-covered (take at p) k h)

  k_is : k ≡ take at p ++ drop at k
  k_is = rw begins at (sym (take-append-drop at k))

  p_is : p ≡ take at p ++ drop at p
  p_is = sym (take-append-drop at p)

  pub shared : shared_len k p ≡ at + shared_len (drop at k) (drop at p)
  shared =
      ap (λ (l : List ℕ). shared_len l p) k_is ∙ ap (λ (l : List ℕ). shared_len (take at p ++ drop at k) l) p_is
      ∙ rw (shared_len-append, deep)

  pub over : covers k p ≡ covers (drop at k) (drop at p)
  over =
      ap (λ (l : List ℕ). covers l p) k_is ∙ ap (λ (l : List ℕ). covers (take at p ++ drop at k) l) p_is
      ∙ covers_behind (take at p) (drop at k) (drop at p)

  pub under : covers p k ≡ covers (drop at p) (drop at k)
  under =
      ap (λ (l : List ℕ). covers l k) p_is ∙ ap (λ (l : List ℕ). covers (take at p ++ drop at p) l) k_is
      ∙ covers_behind (take at p) (drop at p) (drop at k)

  pub same : is_same_path k p ≡ is_same_path (drop at p) (drop at k)
  same = grind (arith, over, under, covers_both k p, covers_both (drop at p) (drop at k))

  -- ---- what a leaf answers

  pub leaf_value : {V : Type 0} (v : V) (b : Bool) → b ≡ is_same_path k p
      → cond (is_same_path (drop at p) (drop at k)) (Some v) None ≡ cond b (Some v) None
  leaf_value v b is = rw (is, same)

  pub leaf_other : {V : Type 0} (v : V) (b : Bool) → b ≡ not (is_same_path k p) → b ≡ true
      → cond (is_same_path (drop at p) (drop at k)) (Some v) None ≡ None
  leaf_other v b is t = leaf_value v false (let told = is in grind arith)

  -- ---- a node over a leaf

  way_covers : (digit : ℕ → ℕ) → PathGoesOn digit at k → covers (onward digit (take at p)) k ≡ true
  way_covers digit on = rw (← begins, ← on.3) (front_covered (at + 1) k)

  pub rooted_leaf_low : PathGoesOn low at k → IsTrue (covers (onward low (take at p)) k && true)
  rooted_leaf_low on = let c = way_covers low on in grind arith

  pub rooted_leaf_high : PathGoesOn high at k → IsTrue (covers (onward high (take at p)) k)
  rooted_leaf_high on = way_covers high on

module _ {V : Type 0} (at : ℕ) (b : Box (TreeEntry V) Global) (p : _) where
  pub same_at_end : drop at b.value.prefix ≡ [] → HasSameEntriesAt at (Leaf b) (Fork' p (Some b) Empty Empty)
  same_at_end ends = record { same = found }
    where
      found : (q : List ℕ) → lookup at (Fork' p (Some b) Empty Empty) q ≡ lookup at (Leaf b) q
      found [] = rw ends
      found (e ∷ q) = rw ends (grind arith)

  pub same_at_low : PathGoesOn low at b.value.prefix → HasSameEntriesAt at (Leaf b) (Fork' p None (Leaf b) Empty)
  same_at_low on = record { same = found }
    where
      found : (q : List ℕ) → lookup at (Fork' p None (Leaf b) Empty) q ≡ lookup at (Leaf b) q
      found [] = rw on.0
      found (e ∷ q) = rw on.0 (grind arith)

  pub same_at_high : PathGoesOn high at b.value.prefix → HasSameEntriesAt at (Leaf b) (Fork' p None Empty (Leaf b))
  same_at_high on = record { same = found }
    where
      found : (q : List ℕ) → lookup at (Fork' p None Empty (Leaf b)) q ≡ lookup at (Leaf b) q
      found [] = rw on.0
      found (e ∷ q) = rw on.0 (grind (arith, nat_tests, high_apart at))

-- a value that is lent where a test passes
pub copied_where : {V : Type 0} (b : Bool) (v : V) (lent : Bor V) → lent.now ≡ v
    → option_copied (then_some b lent) ≡ cond b (Some v) None
copied_where b v lent is = grind arith

pub ruleset way_rules = (into_low, into_high, from_low, from_high, pruned_own, pruned_low, pruned_high)

pub ruleset over_leaf_rules = (same_at_end, same_at_low, same_at_high, rooted_leaf_low, rooted_leaf_high, long)
