-- Where a path first leaves a tree, and what is free there.
use Rattle.std.proofs.Common.{◌≡◌, ℕ, zero, suc, ◌+◌, ◌-◌, ◌<◌, ◌≤◌, Bool, true, false, List, [], ◌∷◌, length, take, drop, Some, None, refl, sym, ◌∙◌, arith}
use Rattle.std.specs.Prelude.{◌&&◌, not, IsTrue, find, max}
use Rattle.std.specs.List.{list_any}
use Rattle.std.specs.FinMap.{FinMap, keys, contains_key, contains_key-keys}
use Rattle.ddt_path.specs.declared.xeid.Xeid.{Xeid}
use Rattle.ddt_path.specs.Path.{xeid_path}
use Rattle.ddt_path.specs.Covers.{covers, overlaps, is_strictly_below}
use Rattle.ddt_path.specs.Free.{free, lengthened, parts_from, overlaps_none}
use Rattle.ddt_path.specs.laws.Cover.{covers_trans, front_covered, length-covered, take-covered, fronts_overlap}
use Rattle.ddt_path.specs.laws.End.{overlaps_whole}
use Rattle.ddt_path.specs.laws.Front.{shorter_front, below_parts, longer_below, overlaps_front}
use Rattle.ddt_path.specs.laws.PathTest.{is_path-xeid_path}
use Rattle.ddt_path.specs.laws.Hole.{parts_from_fits, parts_from_next, member_covers_none}
use Rattle.ddt_trie.specs.declared.tree.Tree.{Tree}
use Rattle.ddt_trie.specs.PrefixMap.{path_cmp, keys_below}
use Rattle.ddt_trie.specs.Tree.{content_of, IsMet, IsHoleBelow, HasPaths}
use Rattle.ddt_trie.specs.laws.Entry.{tied}
use Rattle.ddt_trie.specs.laws.Key.{all_from_members, member_passes, any_kept, any_same}
use Rattle.ddt_trie.proofs.ContentLemmas.{get-content, entry}

-- ---- the keys that count

-- Among the keys of a map s has those that pass a test. A key that overlaps the prefix passes it from the length c on, and
-- none that is shorter does.
pub record Counts {V : Type 0} (m : FinMap path_cmp V) (from : List ℕ) (c : ℕ) (s : List (List ℕ)) : Type 0 where
  pub near : c ≤ length from + 1
  pub test : List ℕ → Bool
  pub members : (p : List ℕ) → list_any (tied p) s ≡ (contains_key m p && test p)
  pub passes : (p : List ℕ) → overlaps p from ≡ true → c ≤ length p → test p ≡ true
  pub only : (p : List ℕ) → test p ≡ true → c ≤ length p

-- all the keys count for what is free
pub counts_all : {V : Type 0} (m : FinMap path_cmp V) (from : List ℕ) → Counts m from 0 (keys m)
counts_all m from = record {
  near = omega arith;
  test = λ p. true;
  members = λ p. let is = contains_key-keys m p in grind arith;
  passes = λ p o le. refl;
  only = λ p h. omega arith;
}

-- the keys strictly below a prefix count for what is free below it
pub counts_below : {V : Type 0} (m : FinMap path_cmp V) (from : List ℕ) (n : ℕ) → n ≡ length from
    → Counts m from (n + 1) (keys_below m from)
counts_below m from n is = record {
  near = omega arith;
  test = λ p. is_strictly_below p from;
  members = λ p. any_kept (λ k. is_strictly_below k from) (keys m) p ∙ rw (contains_key-keys m p);
  passes = λ p o le. longer_below p from o (omega arith);
  only = λ p h. omega (arith, (below_parts p from h).1);
}

module _ {V : Type 0} {m : FinMap path_cmp V} {from : List ℕ} {c : ℕ} {s : List (List ℕ)} (h : Counts m from c s) where
  -- a prefix that no key that counts overlaps is free
  all_clear : (q : List ℕ) → ((p : List ℕ) → contains_key m p ≡ true → c ≤ length p → overlaps p q ≡ true → ⊥)
      → overlaps_none s q ≡ true
  all_clear q clear = all_from_members (λ p. not (overlaps p q)) s (λ p is.
      let member = h.members p in
      let long = h.only p in
      let apart = clear p in
      grind arith)

  is_member : (p : List ℕ) → contains_key m p ≡ true → c ≤ length p → overlaps p from ≡ true
      → list_any (tied p) s ≡ true
  is_member p key le o = let member = h.members p in let pass = h.passes p o le in grind arith

  -- and one that some such key overlaps isn't
  taken : (q p : List ℕ) → covers from q ≡ true → contains_key m p ≡ true → c ≤ length p → overlaps p q ≡ true
      → overlaps_none s q ≡ false
  taken q p inside key le o =
      let turned : overlaps q p ≡ true = grind arith in
      let above : overlaps p from ≡ true = let a = overlaps_front from q p inside turned in grind arith in
      let free = λ (none : overlaps_none s q ≡ true). member_passes (λ k. not (overlaps k q)) s p none (is_member p key le above) in
      grind arith

  pub covered_none : (x p : List ℕ) → covers from x ≡ true → contains_key m p ≡ true → c ≤ length p → covers p x ≡ true
      → free from s x ≡ None
  covered_none x p inside key le over =
      member_covers_none from s x p (any_same p s ∙ is_member p key le (fronts_overlap p from x over inside)) over

first_free : (test : List ℕ → Bool) (front rest : List ℕ) → test front ≡ true
    → find test (lengthened front rest) ≡ Some front
first_free test front [] h = grind arith
first_free test front (d ∷ rest) h = grind arith

module _ {V : Type 0} {t : Tree V} where
  -- what an identifier meets is a key that covers it
  pub met_covers : (x : Xeid) {c : ℕ} → HasPaths (content_of t) → IsMet 0 t (xeid_path x) c
      → (p : List ℕ) × IsTrue (contains_key (content_of t) p) × (c ≤ length p) × IsTrue (covers p (xeid_path x))
  met_covers x h m =
      let key : IsTrue (contains_key (content_of t) m.path) = rw (get-content t m.path, m.found) in
      let whole = overlaps_whole (xeid_path x) m.path (is_path-xeid_path x) (h.are_paths m.path key) in
      (m.path, key, omega (arith, m.counts), sym whole ∙ m.meets)

  module _ {x : List ℕ} {c n : ℕ} (h : IsHoleBelow 0 t x c n) where
    front_taken : h.front ≡ take n x
    front_taken = let is : n ≡ length h.front = omega (arith, h.depth) in rw is (sym (take-covered h.front x h.covers_it))

    -- no key that counts covers x
    pub hole_not_covered : (p : List ℕ) → IsTrue (contains_key (content_of t) p) → c ≤ length p → IsTrue (covers p x) → ⊥
    hole_not_covered p key le over =
        let w = entry t p key in let none = h.uncovered p (omega arith) over in cc

    key_clear : (k : ℕ) → n ≤ k → (q : List ℕ) → IsTrue (contains_key (content_of t) q) → c ≤ length q
        → overlaps q (take k x) ≡ true → ⊥
    key_clear k le q key long o =
        let w = entry t q key in
        let above = λ (a : covers q (take k x) ≡ true). h.uncovered q (omega arith) (covers_trans q (take k x) x a (front_covered k x)) in
        let below = λ (a : covers (take k x) q ≡ true). h.nothing q (omega arith)
        (rw front_taken (covers_trans (take n x) (take k x) q (shorter_front n k x le) a)) in
        grind arith

    module _ {from : List ℕ} {s : List (List ℕ)} (inside : covers from x ≡ true) (counts : Counts (content_of t) from c s)
        {i l : ℕ} (is : i ≡ max n l) (len : l ≡ length from) where
      pub hole_within : i ≤ length x
      hole_within = omega (arith, h.depth, length-covered h.front x h.covers_it, length-covered from x inside)

      -- each front from the hole on is free, and no shorter one inside the prefix is
      part_free : (k : ℕ) → n ≤ k → overlaps_none s (take k x) ≡ true
      part_free k le = all_clear counts (take k x) (λ q key long o. key_clear k le q key long o)

      part_taken : (k : ℕ) → length from ≤ k → k < n → overlaps_none s (take k x) ≡ false
      part_taken k le lt =
          let m = h.filled k (omega (arith, h.depth)) (omega (arith, counts.near)) in
          let under : covers from (take k x) ≡ true = rw (take-covered from x inside) at (shorter_front (length from) k x le) in
          taken counts (take k x) m.path under (rw (get-content t m.path, m.found)) (omega (arith, m.counts)) m.meets

      walk : (j k : ℕ) → length from ≤ k → i ≡ k + j → find (overlaps_none s) (parts_from k x) ≡ Some (take i x)
      walk zero k below at =
          let same : i ≡ k = omega arith in
          rw (same, parts_from_fits k x (omega (arith, hole_within)))
          (first_free (overlaps_none s) (take k x) (drop k x) (part_free k (omega arith)))
      walk (suc j) k below at =
          rw (parts_from_next k x (omega (arith, hole_within)), part_taken k below (omega arith))
          (walk j (k + 1) (omega arith) (omega arith))

      -- the longer of the hole and the prefix is what is free
      pub hole_free : free from s x ≡ Some (take i x)
      hole_free = walk (i - length from) (length from) (omega arith) (omega arith)
