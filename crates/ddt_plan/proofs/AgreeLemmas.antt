-- Where two registers have the same strictly below a prefix and around it, nothing changes inside it.
use Rattle.std.proofs.Common.{◌≡◌, ◌⊎◌, ℕ, ◌<◌, ◌≤◌, Bool, true, false, cond, not, List, [], ◌∷◌, ◌++◌, length, map, take, drop, get_or, IsPermutation, ◌-◌, ◌+◌, find, Option, Some, None, refl, sym, ap, subst, ◌∙◌, arith, inl, inr}
use Rattle.std.specs.List.{filter}
use Rattle.std.proofs.lemmas.Bool.{cases_lt, both_ways, false_from_ne_true, not_from_false, and_parts}
use Rattle.std.proofs.lemmas.List.{append_assoc, take-append-drop, take_more}
use Rattle.std.proofs.lemmas.List.Sorted.{IsPermutation-sym}
use Rattle.ddt_path.specs.declared.form.Form.{Form}
use Rattle.ddt_path.specs.declared.form.Form.TheVariants.{Range, Block}
use Rattle.ddt_path.specs.declared.locator.Locator.TheVariants.{V4}
use Rattle.ddt_path.specs.declared.xeid.Xeid.{Xeid}
use Rattle.ddt_path.specs.declared.matches.Preference.TheVariants.{Longest}
use Rattle.ddt_path.specs.Covers.{covers, is_strictly_below}
use Rattle.ddt_path.specs.Free.{parts_from}
use Rattle.ddt_path.specs.Matching.{longest_match}
use Rattle.ddt_path.specs.Path.{digits, path, xeid_path, family, address_digits, is_path, is_prefix_path}
use Rattle.ddt_path.specs.laws.Cover.{covers_trans, covers-append, front_covered, below_wider}
use Rattle.ddt_path.specs.laws.Front.{front_below, front_covers, one_front}
use Rattle.ddt_path.specs.laws.Hole.{parts_from_fits}
use Rattle.ddt_path.specs.laws.Filter.{filter_in}
use Rattle.ddt_path.specs.laws.Matching.{best_is, best_none, best_there, best_member, best_unbeaten, best_found}
use Rattle.ddt_path.specs.laws.Member.{IsIn, all_of, holds_at, iff_same, in_map, map_in, some_passes, moved_in}
use Rattle.ddt_path.specs.laws.PathTest.{is_path-xeid_path, form_of_prefix, prefix_that_covers}
use Rattle.ddt_register.specs.declared.register.Register.{Register}
use Rattle.ddt_check.specs.Assignment.{assignment}
use Rattle.ddt_check.specs.Rules.{IsAccepted}
use Rattle.ddt_check.specs.laws.Zone.{zone_prefix, site_prefix}
use Rattle.ddt_plan.specs.declared.outcomes.Reading.{Reading}
use Rattle.ddt_plan.specs.declared.sides.Delegation.{Delegation}
use Rattle.ddt_plan.specs.declared.sides.SiteState.{SiteState}
use Rattle.ddt_plan.specs.Blocks.{keys_of, is_undivided, block_of, pieces}
use Rattle.ddt_plan.specs.Changes.{change_at, changes_at, is_apart}
use Rattle.ddt_plan.specs.Differing.{AreMarked, AreMarkedAll, AreDifferences}
use Rattle.ddt_plan.specs.Fast.{delegation_of, delegations_of, delegation_at, state_of, states_of, state_at, outcome_from}
use Rattle.ddt_plan.proofs.AlikeLemmas.{in_first, in_second, assigned_as_block}
use Rattle.ddt_plan.proofs.ListingLemmas.{both_are_paths, undivided_parts, are_blocks}
use Rattle.ddt_plan.proofs.PieceLemmas.{piece_covered, piece_whole, piece_path}
use Rattle.ddt_plan.proofs.ReadOffLemmas.{front_among, block_covers, read_off}
use Rattle.ddt_plan.proofs.SameLemmas.{same_outcome_itself}
use Rattle.ddt_plan.proofs.SideLemmas.{delegation_prefix, state_prefix, one_delegation, one_state, in_keys, not_below}
use Rattle.ddt_plan.proofs.SliceLemmas.{kept_in_order}

-- ---- a narrower prefix

narrowed_items : {A : Type 0} (prefix : A → List ℕ) (items others : List A) (q h : List ℕ) (marked : List (List ℕ))
    → ((p : List ℕ) → is_strictly_below p h ≡ true → is_strictly_below p q ≡ true) → AreMarked prefix q items others marked
    → AreMarked prefix h items others (filter (λ p. is_strictly_below p h) marked)
narrowed_items prefix items others q h marked wider are = λ a k b. elim (are a k (wider (prefix a) b)) [
  | inl there ↦ inl there
  | inr m ↦ inr (filter_in (λ p. is_strictly_below p h) marked (prefix a) m b)
]

pub narrowed : (r s : Register) (q h : List ℕ) (marked result : List (List ℕ))
    → ((p : List ℕ) → is_strictly_below p h ≡ true → is_strictly_below p q ≡ true) → AreDifferences r s q marked
    → result ≡ filter (λ p. is_strictly_below p h) marked → AreDifferences r s h result
narrowed r s q h marked result wider are e =
    subst (AreDifferences r s h) (sym e) (record {
      zones_gone = narrowed_items delegation_prefix (delegations_of r) (delegations_of s) q h marked wider are.zones_gone;
      zones_new = narrowed_items delegation_prefix (delegations_of s) (delegations_of r) q h marked wider are.zones_new;
      sites_gone = narrowed_items state_prefix (states_of r) (states_of s) q h marked wider are.sites_gone;
      sites_new = narrowed_items state_prefix (states_of s) (states_of r) q h marked wider are.sites_new;
      in_order = kept_in_order (λ p. p) marked are.in_order h;
    })

-- ---- which are marked

in_either : {A : Type 0} (xs ys : List A) (a : A) → IsIn a (xs ++ ys) → IsIn a xs ⊎ IsIn a ys
in_either [] ys a k = inr k
in_either (x ∷ xs) ys a (inl same) = inl (inl same)
in_either (x ∷ xs) ys a (inr later) = elim (in_either xs ys a later) [ inl k ↦ inl (inr k) | inr k ↦ inr k ]

pub marked_more : {A : Type 0} (path : A → List ℕ) (items others : List A) (i : ℕ) (x : A) → i < length items → x ≡ get_or items i x
    → (marked more : List (List ℕ)) → ((p : List ℕ) → IsIn p marked → IsIn p more) → AreMarkedAll path (take i items) others marked
    → IsIn x others ⊎ IsIn (path x) more → AreMarkedAll path (take (i + 1) items) others more
marked_more path items others i x lt is marked more kept are here = λ a k.
    elim (in_either (take i items) (get_or items i x ∷ []) a (subst (IsIn a) (take_more items i x lt) k)) [
      | inl before ↦ elim (are a before) [ inl there ↦ inl there | inr m ↦ inr (kept (path a) m) ]
      | inr (inl same) ↦ subst (λ b. IsIn b others ⊎ IsIn (path b) more) (is ∙ sym same) here
      | inr (inr none) ↦ absurd none
    ]

-- these marks, and more, in another order
pub marked_moved : {A : Type 0} (path : A → List ℕ) (items xs others ys : List A) (marked more : List (List ℕ)) → IsPermutation items xs → IsPermutation others ys
    → ((p : List ℕ) → IsIn p marked → IsIn p more) → AreMarkedAll path xs ys marked → (q : List ℕ) → AreMarked path q items others more
marked_moved path items xs others ys marked more moved others_moved kept are q = λ a k below.
    elim (are a (moved_in items xs moved a k)) [
      | inl there ↦ inl (moved_in ys others (IsPermutation-sym others ys others_moved) a there)
      | inr m ↦ inr (kept (path a) m)
    ]

-- where nothing is marked, each item strictly below is among the others
pub unmarked : {A : Type 0} (prefix : A → List ℕ) (items others : List A) (q : List ℕ) (marked : List (List ℕ))
    → AreMarked prefix q items others marked → marked ≡ []
    → (a : A) → IsIn a items → is_strictly_below (prefix a) q ≡ true → IsIn a others
unmarked prefix items others q marked are e a k b = elim (are a k b) [
  | inl there ↦ there
  | inr m ↦ absurd (subst (IsIn (prefix a)) e m)
]

-- ---- the best match

module _ {A : Type 0} (prefix : A → List ℕ) (q b : List ℕ) (inside : covers q b ≡ true) where
  record IsMet (xs ys : List A) (a : A) : Type 0 where
    item : A
    here : IsIn item xs
    there : IsIn item ys
    over : covers (prefix item) b ≡ true
    longer : length (prefix a) ≤ length (prefix item)

  met : (xs ys : List A) → ((a : A) → IsIn a xs → is_strictly_below (prefix a) q ≡ true → IsIn a ys)
      → longest_match prefix xs q ≡ longest_match prefix ys q
      → (a : A) → IsIn a xs → covers (prefix a) b ≡ true → IsMet xs ys a
  met xs ys there same a k c = elim (cases_lt (length q) (length (prefix a))) [
    | inl lt ↦ record { item = a; here = k; there = there a k (front_below q (prefix a) b inside c lt); over = c; longer = omega arith }
    | inr le ↦
        let wide : covers (prefix a) q ≡ true = front_covers (prefix a) q b c inside le in
        let f = best_found Longest prefix q xs a k wide in
        let m = best_member Longest prefix q xs f.0 f.1 in
        let n = best_member Longest prefix q ys f.0 (sym same ∙ f.1) in
        record { item = f.0; here = m.0; there = n.0; over = covers_trans (prefix f.0) q b m.1 inside; longer = f.2 }
  ]

  module _ (xs ys : List A)
      (one_x : (a c : A) → IsIn a xs → IsIn c xs → prefix a ≡ prefix c → a ≡ c)
      (one_y : (a c : A) → IsIn a ys → IsIn c ys → prefix a ≡ prefix c → a ≡ c)
      (forth : (a : A) → IsIn a xs → is_strictly_below (prefix a) q ≡ true → IsIn a ys)
      (back : (a : A) → IsIn a ys → is_strictly_below (prefix a) q ≡ true → IsIn a xs)
      (same : longest_match prefix xs q ≡ longest_match prefix ys q) where
    best_case : (found : Option A) → longest_match prefix xs b ≡ found → longest_match prefix ys b ≡ found
    best_case None e = best_none Longest prefix b ys (λ c k. false_from_ne_true (covers (prefix c) b) (λ over.
        let m = met ys xs back (sym same) c k over in
        best_there Longest prefix b xs m.item e m.there m.over))
    best_case (Some a) e =
        let m = best_member Longest prefix b xs a e in
        let d = met xs ys forth same a m.0 m.1 in
        let most : length (prefix d.item) ≤ length (prefix a) = best_unbeaten Longest prefix b xs a d.item e d.here d.over in
        let is : a ≡ d.item = one_x a d.item m.0 d.here (one_front (prefix a) (prefix d.item) b m.1 d.over (let le = d.longer in omega (arith, le, most))) in
        let k : IsIn a ys = subst (λ (c : A). IsIn c ys) (sym is) d.there in
        best_is Longest prefix b ys a k m.1 (λ c j over.
        let u = met ys xs back (sym same) c j over in
        let le : length (prefix u.item) ≤ length (prefix a) = best_unbeaten Longest prefix b xs a u.item e u.there u.over in
        let up = u.longer in
        elim (cases_lt (length (prefix c)) (length (prefix a))) [
          | inl shorter ↦ inr shorter
          | inr ge ↦ inl (one_y c a j k (one_front (prefix c) (prefix a) b over m.1 (omega (arith, le, up, ge))))
        ])

    pub best_agrees : longest_match prefix xs b ≡ longest_match prefix ys b
    best_agrees = sym (best_case (longest_match prefix xs b) refl)

-- ---- lists

find_agrees : {A : Type 0} (f g : A → Bool) (xs : List A) → ((a : A) → IsIn a xs → f a ≡ g a) → find f xs ≡ find g xs
find_agrees f g [] h = refl
find_agrees f g (x ∷ xs) h =
    ap (λ (b : Bool). cond b (Some x) (find f xs)) (h x (inl refl))
    ∙ ap (λ (found : Option _). cond (g x) (Some x) found) (find_agrees f g xs (λ a k. h a (inr k)))

none_kept : {A : Type 0} (test : A → Bool) (xs : List A) → ((a : A) → IsIn a xs → test a ≡ false) → filter test xs ≡ []
none_kept test [] h = refl
none_kept test (x ∷ xs) h = rw (h x (inl refl)) (none_kept test xs (λ a k. h a (inr k)))

-- ---- an identifier in a prefix

identifier_in : (form : Form) → (x : List ℕ) × (is_path x ≡ true) × (covers (path form) x ≡ true)
identifier_in (Range iid len) =
    let x : Xeid = record { iid = iid; address = V4 0 } in
    (xeid_path x, is_path-xeid_path x, covers_trans (take len (digits 32 iid)) (digits 32 iid) (xeid_path x) (front_covered len (digits 32 iid)) (covers-append (digits 32 iid) _))
identifier_in (Block iid a len) =
    let x : Xeid = record { iid = iid; address = a } in
    let front = digits 32 iid ++ (family a ∷ take len (address_digits a)) in
    let whole : front ++ drop len (address_digits a) ≡ xeid_path x =
    append_assoc (digits 32 iid) (family a ∷ take len (address_digits a)) (drop len (address_digits a))
    ∙ ap (λ (ds : List ℕ). digits 32 iid ++ (family a ∷ ds)) (take-append-drop len (address_digits a)) in
    (xeid_path x, is_path-xeid_path x, subst (λ (l : List ℕ). covers front l ≡ true) whole (covers-append front (drop len (address_digits a))))

pub some_inside : (q : List ℕ) → is_prefix_path q ≡ true → (x : List ℕ) × (is_path x ≡ true) × (covers q x ≡ true)
some_inside q e =
    let f = form_of_prefix q e in
    let x = identifier_in f.0 in
    (x.0, x.1, subst (λ (p : List ℕ). covers p x.0 ≡ true) f.2 x.2)

-- ---- two registers

-- what is strictly below q in the one is in the other, and both have the same around q
pub record Agree (r s : Register) (q : List ℕ) : Type 0 where
  pub accepted : IsAccepted r
  pub zones : (z : Delegation) → IsIn z (delegations_of r) → is_strictly_below z.prefix q ≡ true → IsIn z (delegations_of s)
  pub sites : (m : SiteState) → IsIn m (states_of r) → is_strictly_below m.prefix q ≡ true → IsIn m (states_of s)
  pub zone : delegation_at r q ≡ delegation_at s q
  pub site : state_at r q ≡ state_at s q
  pub divided : is_undivided (keys_of r) q ≡ false

key_goes : (r s : Register) (q : List ℕ) → Agree r s q → (k : List ℕ) → IsIn k (keys_of r) → is_strictly_below k q ≡ true → IsIn k (keys_of s)
key_goes r s q agree k j below = elim (in_keys r k j) [
  | inl z ↦
      let t = agree.zones z.0 z.1 (subst (λ (l : List ℕ). is_strictly_below l q ≡ true) z.2 below) in
      let w = in_map (delegation_of s) s.zones z.0 t in
      subst (λ (l : List ℕ). IsIn l (keys_of s)) (sym (z.2 ∙ ap delegation_prefix w.2))
      (in_first (map zone_prefix s.zones) (map site_prefix s.sites) w.0.prefix (map_in zone_prefix s.zones w.0 w.1))
  | inr m ↦
      let t = agree.sites m.0 m.1 (subst (λ (l : List ℕ). is_strictly_below l q ≡ true) m.2 below) in
      let w = in_map state_of s.sites m.0 t in
      subst (λ (l : List ℕ). IsIn l (keys_of s)) (sym (m.2 ∙ ap state_prefix w.2))
      (in_second (map zone_prefix s.zones) (map site_prefix s.sites) w.0.prefix (map_in site_prefix s.sites w.0 w.1))
]

-- a front of a divided prefix is divided
front_divided : (r : Register) (q f : List ℕ) → is_undivided (keys_of r) q ≡ false → covers f q ≡ true → is_undivided (keys_of r) f ≡ false
front_divided r q f divided over =
    let k = some_passes (λ (k : List ℕ). is_strictly_below k q) (keys_of r) divided in
    false_from_ne_true (is_undivided (keys_of r) f) (λ e. both_ways (is_strictly_below k.0 f) (not_below r f e k.0 k.1) (below_wider k.0 q f over k.2))

undivided_goes : (r s : Register) (q : List ℕ) → Agree r s q → Agree s r q → (f x : List ℕ) → covers f x ≡ true → covers q x ≡ true
    → is_undivided (keys_of r) f ≡ true → is_undivided (keys_of s) f ≡ true
undivided_goes r s q to back f x over inside e = elim (cases_lt (length f) (length q)) [
  | inl lt ↦ absurd (both_ways (is_undivided (keys_of r) f) (front_divided r q f to.divided (front_covers f q x over inside (omega (arith, lt)))) e)
  | inr le ↦ all_of (λ (k : List ℕ). not (is_strictly_below k f)) (keys_of s) (λ k j. not_from_false (is_strictly_below k f) (false_from_ne_true (is_strictly_below k f) (λ below.
      let c : covers q f ≡ true = front_covers q f x inside over le in
      both_ways (is_strictly_below k f) (not_below r f e k (key_goes s r q back k j (below_wider k f q c below))) below)))
]

module _ (r s : Register) (q : List ℕ) (to : Agree r s q) (back : Agree s r q) where
  same_block : (x : List ℕ) → covers q x ≡ true → block_of (keys_of s) x ≡ block_of (keys_of r) x
  same_block x inside = find_agrees (is_undivided (keys_of s)) (is_undivided (keys_of r)) (parts_from 0 x) (λ f k.
      let over : covers f x ≡ true = front_among [] x f (subst (IsIn f) (parts_from_fits 0 x (omega arith)) k) in
      iff_same (is_undivided (keys_of s) f) (is_undivided (keys_of r) f)
      (undivided_goes s r q back to f x over inside) (undivided_goes r s q to back f x over inside))

  pub same_assigned : (x : List ℕ) → is_path x ≡ true → covers q x ≡ true → assignment r x ≡ assignment s x
  same_assigned x e inside =
      let are = are_blocks r [] in
      let block = are.all x e refl in
      let b = block.0.prefix in
      let here : block_of (keys_of r) x ≡ Some b = are.least block.0 x block.1 block.2 in
      let there : block_of (keys_of s) x ≡ Some b = same_block x inside ∙ here in
      let is = block_covers (keys_of r) x b here in
      let within : covers q b ≡ true = elim (cases_lt (length b) (length q)) [
        | inl lt ↦ absurd (both_ways (is_undivided (keys_of r) b) (front_divided r q b to.divided (front_covers b q x is.0 inside (omega (arith, lt)))) is.1)
        | inr le ↦ front_covers q b x inside is.0 le
      ] in
      let zone : delegation_at r b ≡ delegation_at s b =
      best_agrees delegation_prefix q b within (delegations_of r) (delegations_of s) (one_delegation r to.accepted) (one_delegation s back.accepted) to.zones back.zones to.zone in
      let site : state_at r b ≡ state_at s b =
      best_agrees state_prefix q b within (states_of r) (states_of s) (one_state r to.accepted) (one_state s back.accepted) to.sites back.sites to.site in
      read_off r to.accepted x b e here
      ∙ ap (λ (z : Option Delegation). outcome_from z (state_at r b) b) zone
      ∙ ap (λ (m : Option SiteState). outcome_from (delegation_at s b) m b) site
      ∙ sym (read_off s back.accepted x b e there)

  -- q itself is a prefix, since a key goes on from it
  itself_path : is_prefix_path q ≡ true
  itself_path =
      let k = some_passes (λ (k : List ℕ). is_strictly_below k q) (keys_of r ++ keys_of s) (false_from_ne_true (is_undivided (keys_of r ++ keys_of s) q) (λ e. both_ways (is_undivided (keys_of r) q) to.divided (undivided_parts r s q e).0)) in
      let x = some_inside k.0 (holds_at is_prefix_path (keys_of r ++ keys_of s) k.0 (both_are_paths r s) k.1) in
      prefix_that_covers q x.0 x.1 (covers_trans q k.0 x.0 (and_parts (covers q k.0) _ k.2).0 x.2)

  pub nothing_apart : (reading : Reading) → changes_at reading r s (pieces (161 - length q) (keys_of r ++ keys_of s) q) ≡ []
  nothing_apart reading =
      let keys = keys_of r ++ keys_of s in
      let paths = both_are_paths r s in
      let n = 161 - length q in
      none_kept (is_apart reading) (map (change_at r s) (pieces n keys q)) (λ c k.
      let p = in_map (change_at r s) (pieces n keys q) c k in
      let is = piece_path keys paths n q p.0 itself_path p.1 in
      let x = some_inside p.0 is in
      let whole = undivided_parts r s p.0 (piece_whole keys paths n q p.0 (omega arith) p.1) in
      let same : assignment r p.0 ≡ assignment s p.0 =
      sym (assigned_as_block r p.0 whole.0 x.0 x.2)
      ∙ same_assigned x.0 x.1 (covers_trans q p.0 x.0 (piece_covered keys n q p.0 p.1) x.2)
      ∙ assigned_as_block s p.0 whole.1 x.0 x.2 in
      ap (is_apart reading) p.2 ∙ ap (λ (b : Bool). not b) (same_outcome_itself reading (assignment r p.0) (assignment s p.0) same))
