-- What one register says at a prefix, carried down to its halves.
use Rattle.std.proofs.Common.{◌≡◌, ◌⊎◌, ℕ, ◌<◌, Bool, true, false, not, ◌==◌, List, [], ◌∷◌, ◌++◌, length, map, take, ◌-◌, find, IsPermutation, Option, Some, None, refl, sym, ap, subst, ◌∙◌, arith, inl, inr}
use Rattle.std.specs.List.{filter}
use Rattle.std.specs.Option.{option_or}
use Rattle.std.proofs.lemmas.Bool.{cases_lt, both_ways, eqb-true, eq-eqb, false_from_ne_true, not-true, not_from_false, and_from}
use Rattle.std.proofs.lemmas.Option.{same_Some}
use Rattle.std.proofs.lemmas.List.{map-append}
use Rattle.std.proofs.lemmas.List.Elements.{filter-append}
use Rattle.std.proofs.lemmas.List.Folds.{list_all-append}
use Rattle.std.proofs.lemmas.List.Sorted.{IsPermutation-sym}
use Rattle.ddt_path.specs.declared.xeid.Xeid.{Xeid}
use Rattle.ddt_path.specs.declared.record.Outcome.{Outcome}
use Rattle.ddt_path.specs.declared.matches.Preference.TheVariants.{Longest}
use Rattle.ddt_path.specs.Covers.{covers, is_same_path, is_strictly_below}
use Rattle.ddt_path.specs.Matching.{longest_match}
use Rattle.ddt_path.specs.Path.{xeid_path}
use Rattle.ddt_path.specs.laws.Cover.{covers_self, covers_trans, covers-append, covered_same, length-covered, same_path, path_itself, below_is, below_wider, front_covered}
use Rattle.ddt_path.specs.laws.Front.{front_below, front_covers, one_front}
use Rattle.ddt_path.specs.laws.Matching.{best_is, best_none, best_there, best_member, best_unbeaten}
use Rattle.ddt_path.specs.laws.Member.{IsIn, all_of, holds_at, in_map, map_in, some_passes, unfound, found_in, found_none, found_passes, iff_same, moved_in}
use Rattle.ddt_path.specs.laws.Filter.{filter_in}
use Rattle.ddt_path.specs.laws.PathTest.{is_path-xeid_path}
use Rattle.ddt_register.specs.declared.register.Register.{Register}
use Rattle.ddt_check.specs.Assignment.{assignment}
use Rattle.ddt_check.specs.Rules.{IsAccepted}
use Rattle.ddt_check.specs.laws.Kept.{one_zone, one_site}
use Rattle.ddt_check.specs.laws.Zone.{zone_prefix, site_prefix}
use Rattle.ddt_plan.specs.declared.sides.Delegation.{Delegation}
use Rattle.ddt_plan.specs.declared.sides.SiteState.{SiteState}
use Rattle.ddt_plan.specs.declared.sides.Division.{Division}
use Rattle.ddt_plan.specs.declared.sides.Side.{Side}
use Rattle.ddt_plan.specs.declared.sides.Side.TheVariants.{Settled, Divided}
use Rattle.ddt_plan.specs.declared.sides.Sides.{Sides}
use Rattle.ddt_plan.specs.Blocks.{keys_of, is_undivided, half, next_digit, pieces}
use Rattle.ddt_plan.specs.declared.outcomes.Reading.{Reading}
use Rattle.ddt_plan.specs.declared.change_list.Change.{Change}
use Rattle.ddt_plan.specs.Changes.{block_at, change_at, changes_at, is_apart}
use Rattle.ddt_plan.specs.declared.block_list.Block.{Block}
use Rattle.ddt_plan.specs.Fast.{delegation_of, delegations_of, delegation_at, delegations_below, state_of, states_of, state_at, states_below, outcome_from, AreBelow, IsSettled, IsDivision, IsSide, outcomes_settled, both_settled}
use Rattle.ddt_plan.specs.Differing.{AreSides, IsNext}
use Rattle.ddt_plan.proofs.AlikeLemmas.{in_first, in_second, best_match-alike, assigned_as_block}
use Rattle.ddt_plan.proofs.HalfLemmas.{length-half}
use Rattle.ddt_plan.proofs.ListingLemmas.{undivided_parts}
use Rattle.ddt_plan.proofs.NegativeLemmas.{block_is}
use Rattle.ddt_plan.proofs.PieceLemmas.{pieces_one}
use Rattle.ddt_plan.proofs.ReadOffLemmas.{read_off}
use Rattle.ddt_plan.proofs.SliceLemmas.{nothing_case, below_kept}

-- ---- the best match of a half

pub half_below : (upper : Bool) (whole h : List ℕ) → h ≡ half upper whole → is_strictly_below h whole ≡ true
half_below upper q h e =
    let c = covers-append q (next_digit 32 upper q ∷ []) in
    subst (λ (l : List ℕ). is_strictly_below l q ≡ true) (sym e)
    (front_below q (half upper q) (half upper q) c (covers_self (half upper q))
    (let n = length-half upper q in omega arith))

module _ {A : Type 0} (prefix : A → List ℕ) (items : List A) (one : (a b : A) → IsIn a items → IsIn b items → prefix a ≡ prefix b → a ≡ b) where
  abbrev at : List ℕ → A → Bool
  at h a = is_same_path (prefix a) h

  -- an item of this prefix is the best match
  found_here : (h : List ℕ) (a : A) → find (at h) items ≡ Some a → longest_match prefix items h ≡ Some a
  found_here h a e =
      let k = found_in (at h) items a e in
      let same : prefix a ≡ h = same_path (prefix a) h (found_passes (at h) items a e) in
      let c : covers (prefix a) h ≡ true = subst (λ (l : List ℕ). covers (prefix a) l ≡ true) same (covers_self (prefix a)) in
      best_is Longest prefix h items a k c (λ b j d. elim (cases_lt (length (prefix b)) (length (prefix a))) [
        | inl shorter ↦ inr shorter
        | inr ge ↦ inl (one b a j k (one_front (prefix b) (prefix a) h d c (let le = length-covered (prefix b) h d in let n : length (prefix a) ≡ length h = ap (λ (l : List ℕ). length l) same in omega arith)))
      ])

  -- what is found among items that have all of a prefix is found among all
  same_found : (h : List ℕ) (kept : List A) → ((a : A) → IsIn a kept → IsIn a items)
      → ((a : A) → IsIn a items → at h a ≡ true → IsIn a kept)
      → (found known : Option A) → find (at h) kept ≡ found → find (at h) items ≡ known → found ≡ known
  same_found h kept from all None None e f = refl
  same_found h kept from all None (Some b) e f =
      let s = found_passes (at h) items b f in
      absurd (both_ways (at h b) (unfound (at h) kept b e (all b (found_in (at h) items b f) s)) s)
  same_found h kept from all (Some a) None e f =
      let k = from a (found_in (at h) kept a e) in
      absurd (both_ways (at h a) (unfound (at h) items a f k) (found_passes (at h) kept a e))
  same_found h kept from all (Some a) (Some b) e f =
      ap (λ (x : A). Some x) (one a b (from a (found_in (at h) kept a e)) (found_in (at h) items b f)
      (same_path (prefix a) h (found_passes (at h) kept a e)
      ∙ sym (same_path (prefix b) h (found_passes (at h) items b f))))

  -- a prefix strictly below q, with no item between the two
  module _ (q h : List ℕ) (below : is_strictly_below h q ≡ true)
      (near : (a : A) → IsIn a items → covers (prefix a) h ≡ true → length q < length (prefix a) → prefix a ≡ h) where
    same_cover : find (at h) items ≡ None → (a : A) → IsIn a items → covers (prefix a) h ≡ covers (prefix a) q
    same_cover none a k =
        let c = (below_is h q below).0 in
        iff_same (covers (prefix a) h) (covers (prefix a) q)
        (λ d. elim (cases_lt (length q) (length (prefix a))) [
          | inl lt ↦ absurd (both_ways (at h a) (unfound (at h) items a none k) (path_itself (prefix a) h (near a k d lt)))
          | inr le ↦ front_covers (prefix a) q h d c le
        ])
        (λ d. covers_trans (prefix a) q h d c)

    -- where no item has it, it has the best match of q
    pub not_here : find (at h) items ≡ None → longest_match prefix items h ≡ longest_match prefix items q
    not_here none = best_match-alike Longest prefix items h q (same_cover none)

    found_case : (found : Option A) → find (at h) items ≡ found
        → longest_match prefix items h ≡ option_or found (longest_match prefix items q)
    found_case None e = not_here e
    found_case (Some a) e = found_here h a e

    pub best_at : (kept : List A) (above : Option A) → AreBelow prefix items q kept
        → above ≡ longest_match prefix items q
        → option_or (find (λ a. is_same_path (prefix a) h) kept) above ≡ longest_match prefix items h
    best_at kept above are f =
        let found : find (at h) kept ≡ find (at h) items = same_found h kept (λ a k. (are.from a k).0)
        (λ a k s. are.all a k (subst (λ (l : List ℕ). is_strictly_below l q ≡ true)
        (sym (same_path (prefix a) h s)) below)) (find (at h) kept) (find (at h) items) refl refl in
        ap (λ (o : Option A). option_or o above) found
        ∙ ap (option_or (find (at h) items)) f
        ∙ sym (found_case (find (at h) items) refl)

  -- in another order the best match is the same
  moved_case : (xs : List A) → IsPermutation items xs → (q : List ℕ) (found : Option A)
      → longest_match prefix items q ≡ found → longest_match prefix xs q ≡ found
  moved_case xs moved q None e =
      best_none Longest prefix q xs (λ b k. false_from_ne_true (covers (prefix b) q)
      (best_there Longest prefix q items b e (moved_in xs items (IsPermutation-sym items xs moved) b k)))
  moved_case xs moved q (Some a) e =
      let m = best_member Longest prefix q items a e in
      best_is Longest prefix q xs a (moved_in items xs moved a m.0) m.1 (λ b j d.
      let i = moved_in xs items (IsPermutation-sym items xs moved) b j in
      let le = best_unbeaten Longest prefix q items a b e i d in
      elim (cases_lt (length (prefix b)) (length (prefix a))) [
        | inl shorter ↦ inr shorter
        | inr ge ↦ inl (one b a i m.0 (one_front (prefix b) (prefix a) q d m.1 (omega (arith, le, ge))))
      ])

  pub best_moved : (xs : List A) → IsPermutation items xs → (q : List ℕ)
      → longest_match prefix xs q ≡ longest_match prefix items q
  best_moved xs moved q = moved_case xs moved q (longest_match prefix items q) refl

-- ---- an accepted register

abbrev pub delegation_prefix : Delegation → List ℕ
delegation_prefix z = z.prefix

abbrev pub state_prefix : SiteState → List ℕ
state_prefix s = s.prefix

module _ (r : Register) (accepted : IsAccepted r) where
  pub one_delegation : (a b : Delegation) → IsIn a (delegations_of r) → IsIn b (delegations_of r) → a.prefix ≡ b.prefix → a ≡ b
  one_delegation a b j k same =
      let s = in_map (delegation_of r) r.zones a j in
      let t = in_map (delegation_of r) r.zones b k in
      let e : s.0.prefix ≡ t.0.prefix = sym (ap delegation_prefix s.2) ∙ same ∙ ap delegation_prefix t.2 in
      s.2 ∙ ap (delegation_of r) (one_zone r accepted s.0 t.0 s.1 t.1 e) ∙ sym t.2

  pub one_state : (a b : SiteState) → IsIn a (states_of r) → IsIn b (states_of r) → a.prefix ≡ b.prefix → a ≡ b
  one_state a b j k same =
      let s = in_map state_of r.sites a j in
      let t = in_map state_of r.sites b k in
      let e : s.0.prefix ≡ t.0.prefix = sym (ap state_prefix s.2) ∙ same ∙ ap state_prefix t.2 in
      s.2 ∙ ap state_of (one_site r accepted s.0 t.0 s.1 t.1 e) ∙ sym t.2

module _ (r : Register) where
  -- ---- which keys are strictly below

  none_kept : {A : Type 0} (prefix : A → List ℕ) (q : List ℕ) (items : List A) → filter (λ a. is_strictly_below (prefix a) q) items ≡ [] → (a : A) → IsIn a items → is_strictly_below (prefix a) q ≡ false
  none_kept prefix q items e a k = false_from_ne_true (is_strictly_below (prefix a) q) (λ below.
      absurd (subst (IsIn a) e (filter_in (λ a. is_strictly_below (prefix a) q) items a k below)))

  pub in_keys : (k : List ℕ) → IsIn k (keys_of r) → ((z : Delegation) × IsIn z (delegations_of r) × (k ≡ z.prefix)) ⊎ ((m : SiteState) × IsIn m (states_of r) × (k ≡ m.prefix))
  in_keys k j = elim (either (map zone_prefix r.zones) (map site_prefix r.sites) k j) [
    | inl a ↦ let z = in_map zone_prefix r.zones k a in inl (delegation_of r z.0, map_in (delegation_of r) r.zones z.0 z.1, z.2)
    | inr b ↦ let s = in_map site_prefix r.sites k b in inr (state_of s.0, map_in state_of r.sites s.0 s.1, s.2)
  ]
    where
      either : (xs ys : List (List ℕ)) (a : List ℕ) → IsIn a (xs ++ ys) → IsIn a xs ⊎ IsIn a ys
      either [] ys a k = inr k
      either (x ∷ xs) ys a (inl same) = inl (inl same)
      either (x ∷ xs) ys a (inr later) = elim (either xs ys a later) [ inl k ↦ inl (inr k) | inr k ↦ inr k ]

  pub undivided_from : (q : List ℕ) → delegations_below r q ≡ [] → states_below r q ≡ [] → is_undivided (keys_of r) q ≡ true
  undivided_from q e f = all_of (λ (k : List ℕ). not (is_strictly_below k q)) (keys_of r) (λ k j. not_from_false (is_strictly_below k q) (elim (in_keys k j) [
    | inl z ↦ ap (λ (l : List ℕ). is_strictly_below l q) z.2 ∙ none_kept delegation_prefix q (delegations_of r) e z.0 z.1
    | inr m ↦ ap (λ (l : List ℕ). is_strictly_below l q) m.2 ∙ none_kept state_prefix q (states_of r) f m.0 m.1
  ]))

  -- an undivided prefix has nothing strictly below it
  pub not_below : (q : List ℕ) → is_undivided (keys_of r) q ≡ true → (k : List ℕ) → IsIn k (keys_of r) → is_strictly_below k q ≡ false
  not_below q e k j = not-true (is_strictly_below k q) (holds_at (λ (k : List ℕ). not (is_strictly_below k q)) (keys_of r) k e j)

  pub nothing_below : (q : List ℕ) → is_undivided (keys_of r) q ≡ true → (delegations_below r q ≡ []) × (states_below r q ≡ [])
  nothing_below q e = (
    nothing_case delegation_prefix q (delegations_of r) (λ z k.
        let s = in_map (delegation_of r) r.zones z k in
        ap (λ (z : Delegation). is_strictly_below z.prefix q) s.2
        ∙ not_below q e s.0.prefix (in_first (map zone_prefix r.zones) (map site_prefix r.sites) s.0.prefix (map_in zone_prefix r.zones s.0 s.1))),
    nothing_case state_prefix q (states_of r) (λ m k.
        let s = in_map state_of r.sites m k in
        ap (λ (m : SiteState). is_strictly_below m.prefix q) s.2
        ∙ not_below q e s.0.prefix (in_second (map zone_prefix r.zones) (map site_prefix r.sites) s.0.prefix (map_in site_prefix r.sites s.0 s.1))),
  )

  -- each front of a prefix that is divided is divided
  pub fronts_divided : (upper : Bool) (q : List ℕ) → is_undivided (keys_of r) q ≡ false → (f : List ℕ) → covers f (half upper q) ≡ true → length f < length (half upper q) → is_undivided (keys_of r) f ≡ false
  fronts_divided upper q divided f c lt =
      let k = some_passes (λ (k : List ℕ). is_strictly_below k q) (keys_of r) divided in
      let n = length-half upper q in
      let over : covers f q ≡ true = front_covers f q (half upper q) c (covers-append q (next_digit 32 upper q ∷ [])) (omega (arith, lt, n)) in
      false_from_ne_true (is_undivided (keys_of r) f) (λ e. both_ways (is_strictly_below k.0 f) (not_below f e k.0 k.1) (below_wider k.0 q f over k.2))

-- ---- a block

pub settled : (r : Register) → IsAccepted r → (q : List ℕ) (x : Xeid) (zone : Option Delegation) (site : Option SiteState) (o : Outcome) → take (length q) (xeid_path x) ≡ q → zone ≡ delegation_at r q → site ≡ state_at r q
    → delegations_below r q ≡ [] → states_below r q ≡ [] → ((f : List ℕ) → covers f q ≡ true → length f < length q → is_undivided (keys_of r) f ≡ false)
    → o ≡ outcome_from zone site q → IsSettled r q o
settled r accepted q x above site o front ez es nz ns fronts eo =
    let whole = undivided_from r q nz ns in
    let c : covers q (xeid_path x) ≡ true = subst (λ (l : List ℕ). covers l (xeid_path x) ≡ true) front (front_covered (length q) (xeid_path x)) in
    let block = block_is (keys_of r) q whole fronts (xeid_path x) c in
    let told = read_off r accepted (xeid_path x) q (is_path-xeid_path x) block in
    record {
      whole = whole;
      assigned = eo ∙ ap (λ (z : Option Delegation). outcome_from z site q) ez ∙ ap (λ (m : Option SiteState). outcome_from (delegation_at r q) m q) es ∙ sym told
          ∙ assigned_as_block r q whole (xeid_path x) c;
    }

-- what nothing is strictly below is assigned as an identifier that it covers
pub settled_at : (r : Register) (q : List ℕ) (x : Xeid) (o : Outcome) → take (length q) (xeid_path x) ≡ q → delegations_below r q ≡ [] → states_below r q ≡ []
    → o ≡ assignment r (xeid_path x) → IsSettled r q o
settled_at r q x o front nz ns eo =
    let whole = undivided_from r q nz ns in
    let c : covers q (xeid_path x) ≡ true = subst (λ (l : List ℕ). covers l (xeid_path x) ≡ true) front (front_covered (length q) (xeid_path x)) in
    record { whole = whole; assigned = eo ∙ assigned_as_block r q whole (xeid_path x) c }

-- where something is strictly below, the prefix is divided
pub divided_from : (r : Register) (q : List ℕ) → ((delegations_below r q ≡ []) × (states_below r q ≡ []) → ⊥) → is_undivided (keys_of r) q ≡ false
divided_from r q some = false_from_ne_true (is_undivided (keys_of r) q) (λ e. some (nothing_below r q e))

pub empty_is : {A : Type 0} (xs : List A) → (length xs == 0) ≡ true → xs ≡ []
empty_is [] e = refl
empty_is (x ∷ xs) e = absurd (let n : length (x ∷ xs) ≡ 0 = eqb-true (length (x ∷ xs)) 0 e in omega arith)

pub is_empty : {A : Type 0} (xs : List A) → xs ≡ [] → (length xs == 0) ≡ true
is_empty xs e = eq-eqb (length xs) 0 (ap (λ (ys : List _). length ys) e)

-- ---- a prefix strictly below q, with no key between the two

module _ (r : Register) (accepted : IsAccepted r) (q h : List ℕ) (below : is_strictly_below h q ≡ true)
    (near : (k : List ℕ) → IsIn k (keys_of r) → covers k h ≡ true → length q < length k → k ≡ h) where
  zone_key : (z : Delegation) → IsIn z (delegations_of r) → IsIn z.prefix (keys_of r)
  zone_key z k =
      let s = in_map (delegation_of r) r.zones z k in
      subst (λ (l : List ℕ). IsIn l (keys_of r)) (sym (ap delegation_prefix s.2))
      (in_first (map zone_prefix r.zones) (map site_prefix r.sites) s.0.prefix (map_in zone_prefix r.zones s.0 s.1))

  site_key : (m : SiteState) → IsIn m (states_of r) → IsIn m.prefix (keys_of r)
  site_key m k =
      let s = in_map state_of r.sites m k in
      subst (λ (l : List ℕ). IsIn l (keys_of r)) (sym (ap state_prefix s.2))
      (in_second (map zone_prefix r.zones) (map site_prefix r.sites) s.0.prefix (map_in site_prefix r.sites s.0 s.1))

  zone_near : (z : Delegation) → IsIn z (delegations_of r) → covers z.prefix h ≡ true
      → length q < length z.prefix → z.prefix ≡ h
  zone_near z k = near z.prefix (zone_key z k)

  site_near : (m : SiteState) → IsIn m (states_of r) → covers m.prefix h ≡ true
      → length q < length m.prefix → m.prefix ≡ h
  site_near m k = near m.prefix (site_key m k)

  pub zone_goes : (kept : List Delegation) (above result : Option Delegation)
      → AreBelow delegation_prefix (delegations_of r) q kept → above ≡ delegation_at r q
      → result ≡ option_or (find (λ z. is_same_path z.prefix h) kept) above → result ≡ delegation_at r h
  zone_goes kept above result f g answer =
      answer ∙ best_at delegation_prefix (delegations_of r) (one_delegation r accepted) q h below zone_near kept above f g

  pub site_goes : (kept : List SiteState) (above result : Option SiteState)
      → AreBelow state_prefix (states_of r) q kept → above ≡ state_at r q
      → result ≡ option_or (find (λ s. is_same_path s.prefix h) kept) above → result ≡ state_at r h
  site_goes kept above result f g answer =
      answer ∙ best_at state_prefix (states_of r) (one_state r accepted) q h below site_near kept above f g

  -- where no key has it, it has the zone and the site of q
  pub same_around : ((k : List ℕ) → IsIn k (keys_of r) → k ≡ h → ⊥)
      → (delegation_at r h ≡ delegation_at r q) × (state_at r h ≡ state_at r q)
  same_around none = (
    not_here delegation_prefix (delegations_of r) (one_delegation r accepted) q h below zone_near
        (found_none (λ (z : Delegation). is_same_path z.prefix h) (delegations_of r) (λ z k.
        false_from_ne_true (is_same_path z.prefix h) (λ e. none z.prefix (zone_key z k) (same_path z.prefix h e)))),
    not_here state_prefix (states_of r) (one_state r accepted) q h below site_near
        (found_none (λ (m : SiteState). is_same_path m.prefix h) (states_of r) (λ m k.
        false_from_ne_true (is_same_path m.prefix h) (λ e. none m.prefix (site_key m k) (same_path m.prefix h e)))),
  )

module _ (r : Register) (q h : List ℕ) (below : is_strictly_below h q ≡ true) where
  pub narrower : (p : List ℕ) → is_strictly_below p h ≡ true → is_strictly_below p q ≡ true
  narrower p b = below_wider p h q (below_is h q below).0 b

  pub zones_go : (kept result : List Delegation) → AreBelow delegation_prefix (delegations_of r) q kept
      → result ≡ filter (λ z. is_strictly_below z.prefix h) kept
      → AreBelow delegation_prefix (delegations_of r) h result
  zones_go kept result are answer =
      subst (AreBelow delegation_prefix (delegations_of r) h) (sym answer)
      (below_kept delegation_prefix (delegations_of r) kept q h are (λ z b. narrower z.prefix b))

  pub sites_go : (kept result : List SiteState) → AreBelow state_prefix (states_of r) q kept
      → result ≡ filter (λ s. is_strictly_below s.prefix h) kept → AreBelow state_prefix (states_of r) h result
  sites_go kept result are answer =
      subst (AreBelow state_prefix (states_of r) h) (sym answer)
      (below_kept state_prefix (states_of r) kept q h are (λ s b. narrower s.prefix b))

-- a half is next to the whole
pub next_half : (r : Register) (upper : Bool) (whole h : List ℕ) → h ≡ half upper whole
    → is_undivided (keys_of r) whole ≡ false → IsNext r whole h
next_half r upper whole h e divided =
    let n = length-half upper whole in
    let m : length h ≡ length (half upper whole) = ap (λ (l : List ℕ). length l) e in
    record {
      below = half_below upper whole h e;
      near = λ k j over lt. covered_same k h over (omega (arith, lt, n, m));
      fronts = λ f over lt. fronts_divided r upper whole divided f (subst (λ (l : List ℕ). covers f l ≡ true) e over)
          (subst (λ (l : List ℕ). length f < length l) e lt);
    }

-- what is settled of the whole is settled of each half
pub settled_goes : (r : Register) (upper : Bool) (whole : List ℕ) (o : Outcome) → IsSettled r whole o → IsSettled r (half upper whole) o
settled_goes r upper whole o is =
    let h = half upper whole in
    let c : covers whole h ≡ true = covers-append whole (next_digit 32 upper whole ∷ []) in
    record {
      whole = all_of (λ (k : List ℕ). not (is_strictly_below k h)) (keys_of r) (λ k j. not_from_false (is_strictly_below k h) (false_from_ne_true (is_strictly_below k h) (λ below.
          both_ways (is_strictly_below k whole) (not_below r whole is.whole k j) (below_wider k h whole c below))));
      assigned = is.assigned ∙ sym (assigned_as_block r whole is.whole h c);
    }

pub is_settled : (r : Register) (q : List ℕ) (side : Side) (o : Outcome) → IsSide r q side → side ≡ Settled o → IsSettled r q o
is_settled r q side o is e = subst (IsSide r q) e is

pub is_divided : (r : Register) (q : List ℕ) (side : Side) (d : Division) → IsSide r q side → side ≡ Divided d → IsDivision r q d
is_divided r q side d is e = subst (IsSide r q) e is

-- ---- a walk

-- what is settled is one block
pub one_block : (r : Register) (q : List ℕ) (o : Outcome) → IsSettled r q o
    → let made : Block = record { prefix = q; outcome = o } in made ∷ [] ≡ map (block_at r) (pieces (161 - length q) (keys_of r) q)
one_block r q o is =
    ap (λ (w : Outcome). let made : Block = record { prefix = q; outcome = w } in made ∷ []) is.assigned
    ∙ ap (map (block_at r)) (sym (pieces_one (161 - length q) (keys_of r) q is.whole))

-- ---- two registers

pub both_undivided : (r s : Register) (q : List ℕ) → is_undivided (keys_of r) q ≡ true → is_undivided (keys_of s) q ≡ true → is_undivided (keys_of r ++ keys_of s) q ≡ true
both_undivided r s q e f = list_all-append _ (keys_of r) (keys_of s) ∙ and_from (is_undivided (keys_of r) q) (is_undivided (keys_of s) q) e f

pub first_divided : (r s : Register) (q : List ℕ) → is_undivided (keys_of r) q ≡ false → is_undivided (keys_of r ++ keys_of s) q ≡ false
first_divided r s q e = false_from_ne_true (is_undivided (keys_of r ++ keys_of s) q) (λ f. both_ways (is_undivided (keys_of r) q) e (undivided_parts r s q f).0)

second_divided : (r s : Register) (q : List ℕ) → is_undivided (keys_of s) q ≡ false → is_undivided (keys_of r ++ keys_of s) q ≡ false
second_divided r s q e = false_from_ne_true (is_undivided (keys_of r ++ keys_of s) q) (λ f. both_ways (is_undivided (keys_of s) q) e (undivided_parts r s q f).1)

some_divided : (r s : Register) (q : List ℕ) (old new : Side) → IsSide r q old → IsSide s q new → outcomes_settled old new ≡ None → is_undivided (keys_of r ++ keys_of s) q ≡ false
some_divided r s q (Settled o) (Settled p) a b e = absurd cc
some_divided r s q (Settled o) (Divided d) a b e = second_divided r s q b.divided
some_divided r s q (Divided d) new a b e = first_divided r s q a.divided

pub sides_divided : (r s : Register) (q : List ℕ) (sides : Sides) → AreSides r s q sides → both_settled sides ≡ None → is_undivided (keys_of r ++ keys_of s) q ≡ false
sides_divided r s q sides are e = some_divided r s q sides.before sides.after are.before are.after e

record AreSettled (r s : Register) (q : List ℕ) (o p : Outcome) : Type 0 where
  old : IsSettled r q o
  new : IsSettled s q p

sides_settled : (r s : Register) (q : List ℕ) (old new : Side) (o p : Outcome) → IsSide r q old → IsSide s q new → outcomes_settled old new ≡ Some (o, p) → AreSettled r s q o p
sides_settled r s q (Settled w) (Settled v) o p a b e =
    let same = same_Some (w, v) (o, p) e in
    let first : w ≡ o = ap (λ (x : Outcome × Outcome). x.0) same in
    let second : v ≡ p = ap (λ (x : Outcome × Outcome). x.1) same in
    record { old = subst (IsSettled r q) first a; new = subst (IsSettled s q) second b }
sides_settled r s q (Settled w) (Divided d) o p a b e = absurd cc
sides_settled r s q (Divided d) new o p a b e = absurd cc

-- what both settle is one block of both, and at most one change
pub one_change : (reading : Reading) (r s : Register) (q : List ℕ) (o p : Outcome) (sides : Sides) → AreSides r s q sides → both_settled sides ≡ Some (o, p)
    → let made : Change = record { prefix = q; before = o; after = p } in
    filter (is_apart reading) (made ∷ []) ≡ changes_at reading r s (pieces (161 - length q) (keys_of r ++ keys_of s) q)
one_change reading r s q o p sides are e =
    let is = sides_settled r s q sides.before sides.after o p are.before are.after e in
    let made : Outcome → Outcome → Change = λ w v. record { prefix = q; before = w; after = v } in
    ap (λ (w : Outcome). filter (is_apart reading) (made w p ∷ [])) is.old.assigned
    ∙ ap (λ (v : Outcome). filter (is_apart reading) (made (assignment r q) v ∷ [])) is.new.assigned
    ∙ ap (changes_at reading r s) (sym (pieces_one (161 - length q) (keys_of r ++ keys_of s) q (both_undivided r s q is.old.whole is.new.whole)))

pub changes_split : (reading : Reading) (r s : Register) (xs ys : List (List ℕ)) → changes_at reading r s (xs ++ ys) ≡ changes_at reading r s xs ++ changes_at reading r s ys
changes_split reading r s xs ys = ap (filter (is_apart reading)) (map-append (change_at r s) xs ys) ∙ filter-append (is_apart reading) (map (change_at r s) xs) (map (change_at r s) ys)
