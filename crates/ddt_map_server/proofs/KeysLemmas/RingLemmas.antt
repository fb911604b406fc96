-- Keyrings in the order of their prefixes: those of a key's sites stand together.
use Rattle.std.proofs.Common.{◌≡◌, ℕ, suc, ◌+◌, ◌-◌, ◌<◌, ◌≤◌, Bool, true, false, cond, List, [], ◌∷◌, ◌++◌, length, get_or, set, take, drop, map, Ok, Err, refl, sym, ap, subst, ◌∙◌, arith, length-drop}
use Rattle.std.specs.Prelude.{◌==◌, ◌&&◌, ◌||◌, not}
use Rattle.std.specs.List.{list_any, slice_range, All}
use Rattle.std.specs.List.Sorted.{IsPartitionedBy, IsPartitionPoint}
use Rattle.std.specs.Ordering.{nat_cmp, is_lt}
use Rattle.std.specs.Cmp.Lexicographic.{slice_cmp, nat_list_cmp_total, nat_list_eq_equiv, bytes_decides}
use Rattle.std.proofs.lemmas.Bool.{true≢false, false_from_ne_true, ne_eqb}
use Rattle.std.proofs.lemmas.List.{get_or_default, get_or-drop, get_or-take, take_all, take-append-drop, map-append, length-map, length-take, get_or-append_right}
use Rattle.std.proofs.lemmas.List.Edits.{map_over_more}
use Rattle.std.proofs.Math.Bool.{or_comm}
use Rattle.std.proofs.lemmas.List.Folds.{list_any-append, list_any_none, drop_split, map_fixed}
use Rattle.std.proofs.lemmas.List.Sorted.{sorted_far, ranks_by}
use Rattle.ddt_path.specs.Covers.{covers, is_same_path}
use Rattle.ddt_path.specs.laws.Member.{any_in, contained}
use Rattle.ddt_path.specs.laws.PathOrder.{IsUpTo, covers-between, is_same_path-between, covers-up_to, not_below_itself, up_to_trans, lt_after, same_from_ties}
use Rattle.ddt_map_server.specs.declared.keys.site_key.SiteKey.{SiteKey}
use Rattle.ddt_map_server.specs.Keys.KeyedSites.{is_key_of, disagrees, is_second}
use Rattle.ddt_map_server.specs.Keys.Keyrings.{Ring, AreInOrder, IsRangeOf, with_key, given, judged_at, judged_among}
use Rattle.ddt_map_server.specs.declared.keys.fault.KeysFault.TheVariants.{NoSite, Disagree, Twice}

-- ---- what a key is of, in the order of prefixes

pub is_key-between : (k : SiteKey) (b c : List ℕ) → IsUpTo k.prefix b → IsUpTo b c → is_key_of c k ≡ true → is_key_of b k ≡ true
is_key-between k b c up down = go k.accepts_more_specifics
  where
    go : (accepts : Bool) → cond accepts (covers k.prefix c) (is_same_path k.prefix c) ≡ true → cond accepts (covers k.prefix b) (is_same_path k.prefix b) ≡ true
    go true e = covers-between k.prefix b c up down e
    go false e = is_same_path-between k.prefix b c up down (up_to_trans k.prefix b c up down) e

pub is_key-up_to : (k : SiteKey) (b : List ℕ) → is_key_of b k ≡ true → IsUpTo k.prefix b
is_key-up_to k b = go k.accepts_more_specifics
  where
    go : (accepts : Bool) → cond accepts (covers k.prefix b) (is_same_path k.prefix b) ≡ true → IsUpTo k.prefix b
    go true e = covers-up_to k.prefix b e
    go false e = not_below_itself b k.prefix (sym (nat_list_eq_equiv.symm k.prefix b) ∙ e)

-- ---- the parts of keyrings in order

le_of_not_lt : (n m : ℕ) → (n < m → ⊥) → m ≤ n
le_of_not_lt n m h = omega (arith, h)

module _ (rings : List Ring) (ordered : AreInOrder rings) where
  pub far : (i j : ℕ) (d : Ring) → i ≤ j → j < length rings → IsUpTo (get_or rings i d).prefix (get_or rings j d).prefix
  far i j d le inside = sorted_far (λ x y. is_lt (slice_cmp nat_cmp x.prefix y.prefix)) (ranks_by nat_list_cmp_total (λ (r : Ring). r.prefix)) rings ordered i j d le inside

  pub before-parted : (x : List ℕ) → IsPartitionedBy (λ r. is_lt (slice_cmp nat_cmp r.prefix x)) rings
  before-parted x = λ i j d le inside lt. lt_after (get_or rings i d).prefix (get_or rings j d).prefix x (far i j d le inside) lt

  module _ (k : SiteKey) (start : ℕ) (first : IsPartitionPoint (λ r. is_lt (slice_cmp nat_cmp r.prefix k.prefix) ≡ true) (λ r. is_lt (slice_cmp nat_cmp r.prefix k.prefix) ≡ false) rings start) where
    own_later : (i j : ℕ) (d : Ring) → start ≤ i → i ≤ j → j < length rings → is_key_of (get_or rings j d).prefix k ≡ true → is_key_of (get_or rings i d).prefix k ≡ true
    own_later i j d low le inside e =
        is_key-between k (get_or rings i d).prefix (get_or rings j d).prefix (first.1 i d low (omega arith)) (far i j d le inside) e

    drop-parted : IsPartitionedBy (λ r. is_key_of r.prefix k) (drop start rings)
    drop-parted = λ i j d le inside e.
        let low : start ≤ start + i = omega arith in
        let up : start + i ≤ start + j = omega arith in
        let there : start + j < length rings = omega (arith, length-drop start rings) in
        let at : ℕ → Bool = λ n. is_key_of (get_or (drop start rings) n d).prefix k in
        ap (λ (r : Ring). is_key_of r.prefix k) (get_or-drop start rings i d)
        ∙ own_later (start + i) (start + j) d low up there (sym (ap (λ (r : Ring). is_key_of r.prefix k) (get_or-drop start rings j d)) ∙ e)

    rest_is : slice_range rings start (length rings) ≡ drop start rings
    rest_is = take_all (length rings - start) (drop start rings) (omega (arith, length-drop start rings))

    pub own-parted : IsPartitionedBy (λ r. is_key_of r.prefix k) (slice_range rings start (length rings))
    own-parted = subst (IsPartitionedBy (λ (r : Ring). is_key_of r.prefix k)) (sym rest_is) drop-parted

    range_dropped : (count : ℕ) → start ≤ length rings → count ≤ length (drop start rings)
        → IsPartitionPoint (λ r. is_key_of r.prefix k ≡ true) (λ r. is_key_of r.prefix k ≡ false) (drop start rings) count
        → IsRangeOf k rings start (start + count)
    range_dropped count low up own = record {
      ordered = omega arith;
      bound = omega (arith, length-drop start rings);
      before = λ i d lt. false_from_ne_true (is_key_of (get_or rings i d).prefix k) (λ e.
          true≢false (sym (first.0 i d (omega arith) lt) ∙ is_key-up_to k (get_or rings i d).prefix e));
      inside = λ i d le lt. sym (at i d le) ∙ own.0 (i - start) d (omega arith) (omega arith);
      behind = λ i d le lt.
          let from : start ≤ i = omega arith in
          sym (at i d from) ∙ own.1 (i - start) d (omega arith) (omega (arith, length-drop start rings));
    }
      where
        at : (i : ℕ) (d : Ring) → start ≤ i → is_key_of (get_or (drop start rings) (i - start) d).prefix k ≡ is_key_of (get_or rings i d).prefix k
        at i d le =
            let same : start + (i - start) ≡ i = omega arith in
            ap (λ (r : Ring). is_key_of r.prefix k) (get_or-drop start rings (i - start) d ∙ ap (λ (n : ℕ). get_or rings n d) same)

    pub range_from : (count : ℕ) → start ≤ length rings → count ≤ length (slice_range rings start (length rings))
        → IsPartitionPoint (λ r. is_key_of r.prefix k ≡ true) (λ r. is_key_of r.prefix k ≡ false) (slice_range rings start (length rings)) count
        → IsRangeOf k rings start (start + count)
    range_from count low up own = range_dropped count low (subst (λ (l : List Ring). count ≤ length l) rest_is up)
        (subst (λ (l : List Ring). IsPartitionPoint (λ r. is_key_of r.prefix k ≡ true) (λ r. is_key_of r.prefix k ≡ false) l count) rest_is own)

  -- the first ring that doesn't stand before a prefix that is there is of it
  module _ (site : List ℕ) (start : ℕ) (first : IsPartitionPoint (λ r. is_lt (slice_cmp nat_cmp r.prefix site) ≡ true) (λ r. is_lt (slice_cmp nat_cmp r.prefix site) ≡ false) rings start)
      (there : list_any (λ r. is_same_path r.prefix site) rings ≡ true) where
    place_of : (j : ℕ) × (start ≤ j) × (j < length rings) × ((d : Ring) → is_same_path (get_or rings j d).prefix site ≡ true)
    place_of =
        let found = any_in (λ (r : Ring). is_same_path r.prefix site) rings there in
        let at = contained rings found.0 found.1 in
        let same : is_same_path (get_or rings at.0 found.0).prefix site ≡ true = ap (λ (r : Ring). is_same_path r.prefix site) at.2 ∙ found.2 in (
          at.0,
          le_of_not_lt at.0 start (λ lt. true≢false (sym (first.0 at.0 found.0 (omega arith) lt) ∙ not_below_itself (get_or rings at.0 found.0).prefix site same)),
          at.1,
          λ d. ap (λ (r : Ring). is_same_path r.prefix site) (get_or_default rings at.0 d found.0 at.1) ∙ same,
        )

    pub there_bound : start < length rings
    there_bound = let p = place_of in omega (arith, p.1, p.2)

    pub there_is : (d : Ring) → (get_or rings start d).prefix ≡ site
    there_is d =
        let p = place_of in
        let r = get_or rings start d in
        let other = get_or rings p.0 d in
        let last : other.prefix ≡ site = (bytes_decides other.prefix site).0 (p.3 d) in
        let up : IsUpTo site r.prefix = first.1 start d (omega arith) there_bound in
        let down : IsUpTo r.prefix site = subst (IsUpTo r.prefix) last (far start p.0 d p.1 p.2) in
        (bytes_decides r.prefix site).0 (same_from_ties r.prefix site down up)

-- ---- what stands against a key, by the keyrings of its sites

list_any-agree : {A : Type 0} (p q : A → Bool) (xs : List A) → All (λ x. p x ≡ q x) xs → list_any p xs ≡ list_any q xs
list_any-agree p q [] h = refl
list_any-agree p q (x ∷ xs) h =
    rw (h 0 x (omega arith), list_any-agree p q xs (λ i d lt. h (suc i) d (omega arith))) refl

any_there : {A : Type 0} (xs : List A) → not (list_any (λ x. true) xs) ≡ (length xs == 0)
any_there [] = refl
any_there (x ∷ xs) = sym (ne_eqb (length (x ∷ xs)) 0 (λ e. omega (arith, e)))

split : (rings : List Ring) (start «end» : ℕ) → start ≤ «end» → rings ≡ take start rings ++ (slice_range rings start «end» ++ drop «end» rings)
split rings start «end» le = sym (take-append-drop start rings) ∙ ap (λ (l : List Ring). take start rings ++ l) (drop_split rings start «end» le)

module _ (k : SiteKey) (rings : List Ring) (start «end» : ℕ) (range : IsRangeOf k rings start «end») where
  abbrev is_own : Ring → Bool
  is_own r = is_key_of r.prefix k

  before_at : (i : ℕ) (d : Ring) → i < length (take start rings) → is_own (get_or (take start rings) i d) ≡ false
  before_at i d lt =
      let low : i < start = omega (arith, length-take start rings) in
      ap is_own (get_or-take start rings i d low) ∙ range.before i d low

  inside_at : (i : ℕ) (d : Ring) → i < length (slice_range rings start «end») → is_own (get_or (slice_range rings start «end») i d) ≡ true
  inside_at i d lt =
      let low : i < «end» - start = omega (arith, length-take («end» - start) (drop start rings)) in
      ap is_own (get_or-take («end» - start) (drop start rings) i d low ∙ get_or-drop start rings i d) ∙ range.inside (start + i) d (omega arith) (omega arith)

  behind_at : (i : ℕ) (d : Ring) → i < length (drop «end» rings) → is_own (get_or (drop «end» rings) i d) ≡ false
  behind_at i d lt =
      ap is_own (get_or-drop «end» rings i d) ∙ range.behind («end» + i) d (omega arith) (omega (arith, length-drop «end» rings))

  -- what some ring of the key's sites passes, if no other passes it
  any_own : (p q : Ring → Bool) → ((r : Ring) → is_own r ≡ false → p r ≡ false) → ((r : Ring) → is_own r ≡ true → p r ≡ q r)
      → list_any p rings ≡ list_any q (slice_range rings start «end»)
  any_own p q other own =
      let front = take start rings in
      let mid = slice_range rings start «end» in
      let rest = drop «end» rings in
      ap (list_any p) (split rings start «end» range.ordered)
      ∙ list_any-append p front (mid ++ rest)
      ∙ ap (λ (b : Bool). b || list_any p (mid ++ rest)) (list_any_none p front (λ i d lt. other (get_or front i d) (before_at i d lt)))
      ∙ list_any-append p mid rest
      ∙ ap (λ (b : Bool). list_any p mid || b) (list_any_none p rest (λ i d lt. other (get_or rest i d) (behind_at i d lt)))
      ∙ or_comm (list_any p mid) false
      ∙ list_any-agree p q mid (λ i d lt. own (get_or mid i d) (inside_at i d lt))

  any_both : (q : Ring → Bool) → list_any (λ r. is_own r && q r) rings ≡ list_any q (slice_range rings start «end»)
  any_both q = any_own (λ r. is_own r && q r) q (λ r e. ap (λ (b : Bool). b && q r) e) (λ r e. ap (λ (b : Bool). b && q r) e)

  pub judged-own : judged_at k (slice_range rings start «end») ≡ judged_among k rings
  judged-own =
      let mid = slice_range rings start «end» in
      let none : not (list_any is_own rings) ≡ (length mid == 0) = ap not (any_own is_own (λ r. true) (λ r e. e) (λ r e. e)) ∙ any_there mid in
      λ i. cond (sym none i) (Err (NoSite k.prefix)) (cond (sym (any_both (λ r. disagrees k r.keys)) i) (Err (Disagree k.prefix))
      (cond (sym (any_both (λ r. is_second k r.keys)) i) (Err (Twice k.prefix)) (Ok tt)))

  -- only the rings of the key's sites are given it
  pub given-before : map (given k) (take start rings) ≡ take start rings
  given-before = map_fixed (given k) (take start rings) (λ i d lt.
      let r = get_or (take start rings) i d in
      ap (λ (b : Bool). cond b (with_key k r) r) (before_at i d lt))

  pub given-behind : map (given k) (drop «end» rings) ≡ drop «end» rings
  given-behind = map_fixed (given k) (drop «end» rings) (λ i d lt.
      let r = get_or (drop «end» rings) i d in
      ap (λ (b : Bool). cond b (with_key k r) r) (behind_at i d lt))

  pub given-init : rings ≡ map (given k) (take start rings) ++ drop start rings
  given-init = sym (ap (λ (l : List Ring). l ++ drop start rings) given-before ∙ take-append-drop start rings)

  pub given-end : map (given k) (take «end» rings) ++ drop «end» rings ≡ map (given k) rings
  given-end =
      sym (ap (map (given k)) (sym (take-append-drop «end» rings)) ∙ map-append (given k) (take «end» rings) (drop «end» rings)
      ∙ ap (λ (l : List Ring). map (given k) (take «end» rings) ++ l) given-behind)

  pub given-more : (now : List Ring) (at : ℕ) (x : Ring) → start ≤ at → at < «end» → now ≡ map (given k) (take at rings) ++ drop at rings
      → x ≡ get_or now at x → set now at (with_key k x) ≡ map (given k) (take (at + 1) rings) ++ drop (at + 1) rings
  given-more now at x low up so_far is =
      let lt : at < length rings = omega (arith, range.bound) in
      let len : length (map (given k) (take at rings)) ≡ at = omega (arith, length-map (take at rings) (given k), length-take at rings) in
      let same : at + (at - at) ≡ at = omega arith in
      let was : x ≡ get_or rings at x =
      is ∙ ap (λ (l : List Ring). get_or l at x) so_far ∙ get_or-append_right (map (given k) (take at rings)) (drop at rings) at at x len (omega arith)
      ∙ get_or-drop at rings (at - at) x ∙ ap (λ (n : ℕ). get_or rings n x) same in
      let own : is_own x ≡ true = ap is_own was ∙ range.inside at x low up in
      ap (λ (r : Ring). set now at r) (sym (ap (λ (b : Bool). cond b (with_key k x) x) own))
      ∙ map_over_more (given k) rings now at x lt so_far is
