-- What a leaf answers for a path that begins as its prefix does.
use Rattle.std.proofs.Common.{◌≡◌, ℕ, ◌+◌, ◌≤◌, ◌<◌, Bool, true, false, cond, List, [], length, take, drop, Some, None, Box, Global, refl, sym, ◌∙◌, arith}
use Rattle.std.specs.Prelude.{◌⊎◌, nat_le}
use Rattle.std.proofs.lemmas.Bool.{or_parts}
use Rattle.std.proofs.lemmas.Bool.Decides.{nat_tests}
use Rattle.std.proofs.lemmas.List.{length-drop, length-take-le}
use Rattle.ddt_path.specs.Covers.{covers, overlaps, shared_len, is_same_path}
use Rattle.ddt_path.specs.laws.Cover.{front_covered, same_path, path_itself}
use Rattle.ddt_path.specs.laws.Share.{shared_len-sym, shares_less, covers-front}
use Rattle.ddt_trie.specs.PrefixMap.{IsKept}
use Rattle.ddt_trie.specs.declared.tree.Tree.{Tree}
use Rattle.ddt_trie.specs.declared.tree.Tree.TheVariants.{Empty, Leaf}
use Rattle.ddt_trie.specs.declared.tree.TreeEntry.{TreeEntry}
use Rattle.ddt_trie.specs.Tree.{lookup, is_rooted, HasKept, IsUncovered, IsLongestBelow, IsMet, IsHoleBelow}
use Rattle.ddt_trie.proofs.WayLemmas.{long, over, under, shared}

module _ {V : Type 0} (at : ℕ) (p : List ℕ) {t : Tree V} {b : Box (TreeEntry V) Global} (is : t ≡ Leaf b) where
  abbrev k : List ℕ
  k = b.value.prefix

  own : lookup at t (drop at k) ≡ Some b.value.value
  own = rw (is, path_itself (drop at k) (drop at k) refl)

  either : (q : List ℕ) → (q ≡ drop at k) ⊎ (lookup at t q ≡ None)
  either q = rw is (let same = same_path q (drop at k) in grind arith)

  module _ (h : is_rooted (take at p) t ≡ true) (le : at ≤ length p) where
    rooted : covers (take at p) k ≡ true
    rooted = rw is at h

    deep : length k ≡ at + length (drop at k)
    deep = omega (arith, length-drop at k, long at p k le rooted)

    -- ---- the longest

    pub leaf_longest : covers k p ≡ true → IsLongestBelow at t (drop at p) (length k) b.value.value
    leaf_longest so = record {
      front = drop at k;
      depth = deep;
      covers_it = sym (over at p k le rooted) ∙ so;
      value = own;
      longest = λ q w found c. let e = either q in grind arith;
    }

    pub leaf_uncovered : covers k p ≡ false → IsUncovered at t (drop at p)
    leaf_uncovered not_so = record { none = λ q c. let e = either q in grind (arith, over at p k le rooted) }

    -- ---- the least specific hole

    pub leaf_short : (c : ℕ) → length k < c → IsHoleBelow at t (drop at p) c at
    leaf_short c lt = record {
      front = [];
      depth = omega arith;
      covers_it = refl;
      uncovered = λ q le o. let e = either q in grind (arith, deep);
      nothing = λ q le o. let e = either q in grind (arith, deep);
      filled = λ n l le. absurd (omega arith);
    }

    meets_as : overlaps k p ≡ overlaps (drop at k) (drop at p)
    meets_as = rw (over at p k le rooted, under at p k le rooted)

    met_by : (c : ℕ) (y : List ℕ) → c ≤ length k → overlaps (drop at k) y ≡ true → IsMet at t y c
    met_by c y counts so =
        record { path = drop at k; value = b.value.value; found = own; counts = omega (arith, deep); meets = so }

    pub leaf_met : (c : ℕ) → c ≤ length k → overlaps k p ≡ true → IsMet at t (drop at p) c
    leaf_met c counts so = met_by c (drop at p) counts (sym meets_as ∙ so)

    module _ (not_so : overlaps k p ≡ false) where
      abbrev s : ℕ
      s = shared_len (drop at k) (drop at p)

      parted : (covers (drop at k) (drop at p) ≡ false) × (covers (drop at p) (drop at k) ≡ false)
      parted = or_parts (covers (drop at k) (drop at p)) (covers (drop at p) (drop at k)) (sym meets_as ∙ not_so)

      turned : shared_len (drop at p) (drop at k) ≡ s
      turned = shared_len-sym (drop at p) (drop at k)

      in_path : s < length (drop at p)
      in_path = omega (arith, turned, shares_less (drop at p) (drop at k) parted.1)

      -- the path and the leaf's prefix have s digits in common
      fronts : (n : ℕ) → n ≤ s + 1 → covers (take n (drop at p)) (drop at k) ≡ nat_le n s
      fronts n le =
          covers-front n (drop at p) (drop at k) (omega (arith, in_path))
          ∙ rw turned (let less = shares_less (drop at k) (drop at p) parted.0 in grind (arith, nat_tests))

      pub leaf_hole : (c : ℕ) → c ≤ length k → IsHoleBelow at t (drop at p) c (shared_len k p + 1)
      leaf_hole c counts =
          let tall : length (take (s + 1) (drop at p)) ≡ s + 1 = length-take-le (s + 1) (drop at p) (omega (arith, in_path)) in
          record {
            front = take (s + 1) (drop at p);
            depth = omega (arith, tall, shared at p k le rooted);
            covers_it = front_covered (s + 1) (drop at p);
            uncovered = λ q le o. let e = either q in grind (arith, parted);
            nothing = λ q le o. let e = either q in let f = fronts (s + 1) in grind (arith, nat_tests);
            filled = λ n lt le. met_by c (take n (drop at p)) counts (let f = fronts n in grind (arith, nat_tests));
          }

module _ {V : Type 0} {t : Tree V} {b : Box (TreeEntry V) Global} (is : t ≡ Leaf b) (test : V → Bool → Type 0) where
  dropped : (c : Bool) → test b.value.value false → IsKept test (cond c (Some b.value.value) None) None
  dropped c not_so = grind arith

  kept : (c : Bool) → test b.value.value true → IsKept test (cond c (Some b.value.value) None) (cond c (Some b.value.value) None)
  kept c so = grind arith

  pub leaf_dropped : test b.value.value false → HasKept test t Empty
  leaf_dropped not_so = record { at = λ at q. rw is (dropped (is_same_path q (drop at b.value.prefix)) not_so) }

  pub leaf_kept : test b.value.value true → HasKept test t t
  leaf_kept so = record { at = λ at q. rw is (kept (is_same_path q (drop at b.value.prefix)) so) }
