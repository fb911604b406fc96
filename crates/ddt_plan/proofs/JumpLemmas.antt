-- A prefix that covers all that is strictly below another: what is said there, and that nothing changes outside it.
use Rattle.std.proofs.Common.{◌≡◌, ℕ, zero, suc, ◌+◌, ◌-◌, ◌<◌, ◌≤◌, Bool, true, false, not, List, [], ◌∷◌, ◌++◌, length, Option, refl, sym, ap, subst, ◌∙◌, arith, inl, inr}
use Rattle.std.proofs.lemmas.Bool.{cases_lt, both_ways, false_from_ne_true, not_from_false}
use Rattle.std.proofs.lemmas.List.{append-nil}
use Rattle.ddt_path.specs.Covers.{covers, is_strictly_below}
use Rattle.ddt_path.specs.Path.{is_prefix_path}
use Rattle.ddt_path.specs.laws.Cover.{covers_self, covers_trans, covers-append, covered_same, length-covered, below_is, below_wider, next_digit}
use Rattle.ddt_path.specs.laws.Front.{front_below, one_front}
use Rattle.ddt_path.specs.laws.Member.{IsIn, all_of, holds_at, some_passes}
use Rattle.ddt_path.specs.laws.PathTest.{prefix_that_covers}
use Rattle.ddt_register.specs.declared.register.Register.{Register}
use Rattle.ddt_check.specs.Assignment.{assignment}
use Rattle.ddt_check.specs.Rules.{IsAccepted}
use Rattle.ddt_plan.specs.declared.outcomes.Reading.{Reading}
use Rattle.ddt_plan.specs.declared.change_list.Change.{Change}
use Rattle.ddt_plan.specs.declared.sides.Delegation.{Delegation}
use Rattle.ddt_plan.specs.declared.sides.Division.{Division}
use Rattle.ddt_plan.specs.declared.sides.SiteState.{SiteState}
use Rattle.ddt_plan.specs.Blocks.{keys_of, is_undivided, half, next_digit as digit_of, pieces}
use Rattle.ddt_plan.specs.Changes.{changes_at}
use Rattle.ddt_plan.specs.Fast.{delegation_at, state_at, outcome_from, IsDivision}
use Rattle.ddt_plan.specs.Differing.{IsNext}
use Rattle.ddt_plan.proofs.AgreeLemmas.{some_inside}
use Rattle.ddt_plan.proofs.AlikeLemmas.{assigned_as_block}
use Rattle.ddt_plan.proofs.HalfLemmas.{goes_on, length-half}
use Rattle.ddt_plan.proofs.ListingLemmas.{keys_are_paths, both_are_paths}
use Rattle.ddt_plan.proofs.NegativeLemmas.{block_is}
use Rattle.ddt_plan.proofs.PieceLemmas.{halves_apart, pieces_one, keys_go_on, two_parts}
use Rattle.ddt_plan.proofs.ReadOffLemmas.{read_off}
use Rattle.ddt_plan.proofs.SameLemmas.{same_outcome_itself}
use Rattle.ddt_plan.proofs.SideLemmas.{in_keys, not_below, fronts_divided, same_around, both_undivided, first_divided, changes_split}

-- c covers all keys strictly below q
abbrev pub CoversAll : Register → List ℕ → List ℕ → Type 0
CoversAll r q c = (k : List ℕ) → IsIn k (keys_of r) → is_strictly_below k q ≡ true → covers c k ≡ true

-- a longer path that a prefix covers is strictly below it
longer_below : (q k : List ℕ) → covers q k ≡ true → length q < length k → is_strictly_below k q ≡ true
longer_below q k c lt = front_below q k k c (covers_self k) lt

-- ---- one register

-- what covers the zones and the sites of a division covers the keys
pub covers_keys : (r : Register) (q c : List ℕ) (d : Division) → IsDivision r q d
    → ((z : Delegation) → IsIn z d.zones.now → covers c z.prefix ≡ true)
    → ((m : SiteState) → IsIn m d.sites.now → covers c m.prefix ≡ true) → CoversAll r q c
covers_keys r q c d is zones sites = λ k j below. elim (in_keys r k j) [
  | inl z ↦ subst (λ (l : List ℕ). covers c l ≡ true) (sym z.2) (zones z.0 (is.zones.all z.0 z.1 (subst (λ (l : List ℕ). is_strictly_below l q ≡ true) z.2 below)))
  | inr m ↦ subst (λ (l : List ℕ). covers c l ≡ true) (sym m.2) (sites m.0 (is.sites.all m.0 m.1 (subst (λ (l : List ℕ). is_strictly_below l q ≡ true) m.2 below)))
]

module _ (r : Register) (q c : List ℕ) (below : is_strictly_below c q ≡ true) (all : CoversAll r q c)
    (divided : is_undivided (keys_of r) q ≡ false) where
  -- each shorter front of c is divided
  fronts : (f : List ℕ) → covers f c ≡ true → length f < length c → is_undivided (keys_of r) f ≡ false
  fronts f over lt =
      let k = some_passes (λ (k : List ℕ). is_strictly_below k q) (keys_of r) divided in
      let d = all k.0 k.1 k.2 in
      let n = length-covered c k.0 d in
      false_from_ne_true (is_undivided (keys_of r) f) (λ e. both_ways (is_strictly_below k.0 f) (not_below r f e k.0 k.1)
      (longer_below f k.0 (covers_trans f c k.0 over d) (omega (arith, lt, n))))

  pub is_next : IsNext r q c
  is_next = record {
    below = below;
    near = λ k j over lt.
        let d = all k j (front_below q k c (below_is c q below).0 over lt) in
        covered_same k c over (length-covered c k d);
    fronts = fronts;
  }

-- what covers a key is a prefix
is_path_of : (r : Register) (q c : List ℕ) → CoversAll r q c → is_undivided (keys_of r) q ≡ false → is_prefix_path c ≡ true
is_path_of r q c all divided =
    let k = some_passes (λ (k : List ℕ). is_strictly_below k q) (keys_of r) divided in
    let x = some_inside k.0 (holds_at is_prefix_path (keys_of r) k.0 (keys_are_paths r) k.1) in
    prefix_that_covers c x.0 x.1 (covers_trans c k.0 x.0 (all k.0 k.1 k.2) x.2)

-- no path goes on in both halves
no_both : (q k : List ℕ) → covers (half false q) k ≡ true → covers (half true q) k ≡ true → ⊥
no_both q k low high =
    let same = one_front (half false q) (half true q) k low high (length-half false q ∙ sym (length-half true q)) in
    let n = next_digit q (digit_of 32 false q) (digit_of 32 true q ∷ [])
    (subst (λ (l : List ℕ). covers (half false q) l ≡ true) same (covers_self (half false q))) in
    let e : digit_of 32 true q ≡ digit_of 32 false q = cc in
    let lt = halves_apart q in
    absurd (omega (arith, e, lt))

-- a half that c is not in has no key, and is assigned as what is around q says
module _ (r : Register) (accepted : IsAccepted r) (q c : List ℕ) (all : CoversAll r q c)
    (divided : is_undivided (keys_of r) q ≡ false) (upper : Bool) (path : is_prefix_path (half upper q) ≡ true)
    (other : (k : List ℕ) → covers (half upper q) k ≡ true → covers c k ≡ true → ⊥) where
  none_in : (k : List ℕ) → IsIn k (keys_of r) → covers (half upper q) k ≡ true → ⊥
  none_in k j over =
      let h = half upper q in
      let n = length-covered h k over in
      let m = length-half upper q in
      let inside = covers_trans q h k (covers-append q (digit_of 32 upper q ∷ [])) over in
      other k over (all k j (longer_below q k inside (omega (arith, n, m))))

  pub empty_whole : is_undivided (keys_of r) (half upper q) ≡ true
  empty_whole = all_of (λ (k : List ℕ). not (is_strictly_below k (half upper q))) (keys_of r) (λ k j.
      not_from_false (is_strictly_below k (half upper q)) (false_from_ne_true (is_strictly_below k (half upper q)) (λ b.
      none_in k j (below_is k (half upper q) b).0)))

  pub empty_assigned : assignment r (half upper q) ≡ outcome_from (delegation_at r q) (state_at r q) (half upper q)
  empty_assigned =
      let h = half upper q in
      let x = some_inside h path in
      let m = length-half upper q in
      let around = same_around r accepted q h (longer_below q h (covers-append q (digit_of 32 upper q ∷ [])) (omega (arith, m)))
      (λ k j over lt. covered_same k h over (omega (arith, lt, m)))
      (λ k j e. none_in k j (subst (λ (l : List ℕ). covers h l ≡ true) (sym e) (covers_self h))) in
      sym (assigned_as_block r h empty_whole x.0 x.2)
      ∙ read_off r accepted x.0 h x.1 (block_is (keys_of r) h empty_whole (fronts_divided r upper q divided) x.0 x.2)
      ∙ ap (λ (z : Option Delegation). outcome_from z (state_at r h) h) around.0
      ∙ ap (λ (m : Option SiteState). outcome_from (delegation_at r q) m h) around.1

-- a half on the way to c, and shorter than it
module _ (r : Register) (accepted : IsAccepted r) (q c : List ℕ) (all : CoversAll r q c)
    (divided : is_undivided (keys_of r) q ≡ false) (upper : Bool) (over : covers (half upper q) c ≡ true)
    (shorter : length (half upper q) < length c) where
  way_covers : CoversAll r (half upper q) c
  way_covers k j below = all k j (below_wider k (half upper q) q (covers-append q (digit_of 32 upper q ∷ [])) below)

  way_divided : is_undivided (keys_of r) (half upper q) ≡ false
  way_divided =
      let k = some_passes (λ (k : List ℕ). is_strictly_below k q) (keys_of r) divided in
      let d = all k.0 k.1 k.2 in
      let n = length-covered c k.0 d in
      false_from_ne_true (is_undivided (keys_of r) (half upper q)) (λ e.
      both_ways (is_strictly_below k.0 (half upper q)) (not_below r (half upper q) e k.0 k.1)
      (longer_below (half upper q) k.0 (covers_trans (half upper q) c k.0 over d) (omega (arith, shorter, n))))

  way_around : (delegation_at r (half upper q) ≡ delegation_at r q) × (state_at r (half upper q) ≡ state_at r q)
  way_around =
      let h = half upper q in
      let m = length-half upper q in
      let below = longer_below q h (covers-append q (digit_of 32 upper q ∷ [])) (omega (arith, m)) in
      same_around r accepted q h below
      (λ k j over lt. covered_same k h over (omega (arith, lt, m)))
      (λ k j e.
      let n = length-covered c k (all k j (subst (λ (l : List ℕ). is_strictly_below l q ≡ true) (sym e) below)) in
      let same : length k ≡ length h = ap (λ (l : List ℕ). length l) e in
      absurd (omega (arith, n, same, shorter)))

-- ---- two registers

pub record IsJump (r s : Register) (q c : List ℕ) : Type 0 where
  pub old : IsAccepted r
  pub new : IsAccepted s
  pub zone : delegation_at r q ≡ delegation_at s q
  pub site : state_at r q ≡ state_at s q
  pub inside : covers q c ≡ true
  pub old_all : CoversAll r q c
  pub new_all : CoversAll s q c
  pub old_divided : is_undivided (keys_of r) q ≡ false
  pub new_divided : is_undivided (keys_of s) q ≡ false

module _ (reading : Reading) (r s : Register) where
  abbrev changes_in : List ℕ → List Change
  changes_in q = changes_at reading r s (pieces (161 - length q) (keys_of r ++ keys_of s) q)

  -- nothing changes in the other half
  nothing_there : (q c : List ℕ) → IsJump r s q c → (upper : Bool) → is_prefix_path (half upper q) ≡ true
      → ((k : List ℕ) → covers (half upper q) k ≡ true → covers c k ≡ true → ⊥) → changes_in (half upper q) ≡ []
  nothing_there q c j upper path other =
      let h = half upper q in
      let same : assignment r h ≡ assignment s h =
      empty_assigned r j.old q c j.old_all j.old_divided upper path other
      ∙ ap (λ (z : Option Delegation). outcome_from z (state_at r q) h) j.zone
      ∙ ap (λ (m : Option SiteState). outcome_from (delegation_at s q) m h) j.site
      ∙ sym (empty_assigned s j.new q c j.new_all j.new_divided upper path other) in
      ap (changes_at reading r s) (pieces_one (161 - length h) (keys_of r ++ keys_of s) h
      (both_undivided r s h (empty_whole r j.old q c j.old_all j.old_divided upper path other)
      (empty_whole s j.new q c j.new_all j.new_divided upper path other)))
      ∙ rw (same_outcome_itself reading (assignment r h) (assignment s h) same) refl

  further : (q c : List ℕ) → IsJump r s q c → (upper : Bool) → covers (half upper q) c ≡ true
      → length (half upper q) < length c → IsJump r s (half upper q) c
  further q c j upper over lt =
      let old = way_around r j.old q c j.old_all j.old_divided upper over lt in
      let new = way_around s j.new q c j.new_all j.new_divided upper over lt in
      record {
        old = j.old;
        new = j.new;
        zone = old.0 ∙ j.zone ∙ sym new.0;
        site = old.1 ∙ j.site ∙ sym new.1;
        inside = over;
        old_all = way_covers r j.old q c j.old_all j.old_divided upper over lt;
        new_all = way_covers s j.new q c j.new_all j.new_divided upper over lt;
        old_divided = way_divided r j.old q c j.old_all j.old_divided upper over lt;
        new_divided = way_divided s j.new q c j.new_all j.new_divided upper over lt;
      }

  half_inside : (n : ℕ) (q c : List ℕ) (upper : Bool) → length c ≤ length q + suc n → IsJump r s q c
      → ((h : List ℕ) → length c ≤ length h + n → IsJump r s h c → changes_in h ≡ changes_in c)
      → covers (half upper q) c ≡ true → changes_in (half upper q) ≡ changes_in c
  half_inside n q c upper le j ih over =
      let m = length-half upper q in
      elim (cases_lt (length (half upper q)) (length c)) [
        | inl lt ↦ ih (half upper q) (omega (arith, le, m)) (further q c j upper over lt)
        | inr ge ↦ ap changes_in (covered_same (half upper q) c over ge)
      ]

  all_inside : (n : ℕ) (q c : List ℕ) → length c ≤ length q + n → IsJump r s q c → changes_in q ≡ changes_in c
  all_inside zero q c le j = ap changes_in (covered_same q c j.inside (omega (arith, le)))
  all_inside (suc n) q c le j = elim (cases_lt (length q) (length c)) [
    | inr ge ↦ ap changes_in (covered_same q c j.inside ge)
    | inl lt ↦
        let divided = first_divided r s q j.old_divided in
        let keys = keys_of r ++ keys_of s in
        let goes = goes_on q c (is_path_of r q c j.old_all j.old_divided) j.inside lt in
        let parts = two_parts (changes_at reading r s) (changes_split reading r s) keys q divided
        (keys_go_on keys (both_are_paths r s) q divided).1 in
        elim goes.1 [
          | inl low ↦
              let none = nothing_there q c j true (goes.0 true) (λ k high d. no_both q k (covers_trans (half false q) c k low d) high) in
              sym parts ∙ ap (λ (l : List Change). changes_in (half false q) ++ l) none ∙ append-nil (changes_in (half false q))
              ∙ half_inside n q c false le j (λ h few k. all_inside n h c few k) low
          | inr high ↦
              let none = nothing_there q c j false (goes.0 false) (λ k low d. no_both q k low (covers_trans (half true q) c k high d)) in
              sym parts ∙ ap (λ (l : List Change). l ++ changes_in (half true q)) none
              ∙ half_inside n q c true le j (λ h few k. all_inside n h c few k) high
        ]
  ]

  pub nothing_outside : (q c : List ℕ) → IsJump r s q c → changes_in q ≡ changes_in c
  nothing_outside q c j = all_inside (length c) q c (omega arith) j
