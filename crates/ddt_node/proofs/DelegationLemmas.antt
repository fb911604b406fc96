-- The children that are kept are those of the authority.
use Rattle.std.proofs.Common.{◌≡◌, ℕ, zero, suc, ◌<◌, List, [], ◌∷◌, ◌++◌, length, get_or, map, Some, refl, sym, ap, ◌∙◌, arith}
use Rattle.std.specs.Prelude.{slice_get}
use Rattle.std.specs.List.{All, AllZip}
use Rattle.std.proofs.lemmas.List.{length-map, get_or_default}
use Rattle.std.proofs.lemmas.List.Elements.{All-nil, All-cons}
use Rattle.std.proofs.lemmas.Option.{none-some, same_Some, slice_get_within, get_or_from_slice_get}
use Rattle.ddt_config.specs.declared.child.Child.{Child}
use Rattle.ddt_node.specs.declared.delegations.ReferralSet.{ReferralSet}
use Rattle.ddt_node.specs.Delegations.{set_of, no_set, child_of, children_of, AreKept}

-- the set of each child stands at the place that is told for it
abbrev pub AreAt : List ReferralSet → List ℕ → List Child → Type 0
AreAt sets = AllZip (λ k c. slice_get sets k ≡ Some (set_of c))

-- so it does where each set stays at its place, and for one child more
pub one_more : (old new : List ReferralSet) (k : ℕ) (c : Child) → ((at : ℕ) (s : ReferralSet) → slice_get old at ≡ Some s → slice_get new at ≡ Some s)
    → slice_get new k ≡ Some (set_of c) → (ks : List ℕ) (cs : List Child) → AreAt old ks cs → AreAt new (ks ++ k ∷ []) (cs ++ c ∷ [])
one_more old new k c stay at [] [] z = (at, tt)
one_more old new k c stay at [] (b ∷ cs) z = absurd z
one_more old new k c stay at (j ∷ ks) [] z = absurd z
one_more old new k c stay at (j ∷ ks) (b ∷ cs) z = (stay j (set_of b) z.0, one_more old new k c stay at ks cs z.1)

child_is : (sets : List ReferralSet) (k : ℕ) (c : Child) → slice_get sets k ≡ Some (set_of c) → child_of sets c.prefix k ≡ c
child_is sets k c at =
    ap (λ (s : ReferralSet). let b : Child = record { prefix = c.prefix; role = s.role; locators = s.locators } in b) (get_or_from_slice_get sets k (set_of c) no_set at)

pub children_are : (sets : List ReferralSet) (ks : List ℕ) (cs : List Child) → AreAt sets ks cs → children_of sets (map (λ (c : Child). c.prefix) cs) ks ≡ cs
children_are sets [] [] z = refl
children_are sets [] (b ∷ cs) z = absurd z
children_are sets (k ∷ ks) [] z = absurd z
children_are sets (k ∷ ks) (b ∷ cs) z = rw (child_is sets k b z.0, children_are sets ks cs z.1) refl

are_paired : (sets : List ReferralSet) (ks : List ℕ) (cs : List Child) → AreAt sets ks cs → length cs ≡ length ks
are_paired sets [] [] z = refl
are_paired sets [] (b ∷ cs) z = absurd z
are_paired sets (k ∷ ks) [] z = absurd z
are_paired sets (k ∷ ks) (b ∷ cs) z = ap suc (are_paired sets ks cs z.1)

are_within : (sets : List ReferralSet) (ks : List ℕ) (cs : List Child) → AreAt sets ks cs → All (λ k. k < length sets) ks
are_within sets [] [] z = All-nil _
are_within sets [] (b ∷ cs) z = absurd z
are_within sets (k ∷ ks) [] z = absurd z
are_within sets (k ∷ ks) (b ∷ cs) z = All-cons (λ (j : ℕ). j < length sets) k ks (slice_get_within sets k (set_of b) z.0) (are_within sets ks cs z.1)

pub are_kept : (sets : List ReferralSet) (ks : List ℕ) (cs : List Child) → AreAt sets ks cs → AreKept sets (map (λ (c : Child). c.prefix) cs) ks
are_kept sets ks cs z = record { paired = length-map cs (λ c. c.prefix) ∙ are_paired sets ks cs z; within = are_within sets ks cs z }

-- ---- what is read

pub same_prefixes : (sets : List ReferralSet) (ps : List (List ℕ)) (ks : List ℕ) → length ps ≡ length ks → ps ≡ map (λ (c : Child). c.prefix) (children_of sets ps ks)
same_prefixes sets [] ks n = refl
same_prefixes sets (p ∷ ps) [] n = absurd (omega (arith, n))
same_prefixes sets (p ∷ ps) (k ∷ ks) n = ap (λ (qs : List (List ℕ)). p ∷ qs) (same_prefixes sets ps ks (omega (arith, n)))

pub place_within : (sets : List ReferralSet) (ps : List (List ℕ)) (ks : List ℕ) (i : ℕ) → i < length (children_of sets ps ks) → i < length ks
place_within sets [] ks i lt = absurd (omega (arith, lt))
place_within sets (p ∷ ps) [] i lt = absurd (omega (arith, lt))
place_within sets (p ∷ ps) (k ∷ ks) zero lt = omega arith
place_within sets (p ∷ ps) (k ∷ ks) (suc i) lt = let h = place_within sets ps ks i (omega (arith, lt)) in omega (arith, h)

pub set_within : (sets : List ReferralSet) (ps : List (List ℕ)) (ks : List ℕ) (i k : ℕ) → AreKept sets ps ks → i < length (children_of sets ps ks) → k ≡ get_or ks i k → k < length sets
set_within sets ps ks i k kept lt read = rw read (kept.within i k (place_within sets ps ks i lt))

child_at : (sets : List ReferralSet) (ps : List (List ℕ)) (ks : List ℕ) (i k : ℕ) (c : Child) → slice_get (children_of sets ps ks) i ≡ Some c → k ≡ get_or ks i k → set_of c ≡ get_or sets k no_set
child_at sets [] ks i k c is read = absurd (none-some c is)
child_at sets (p ∷ ps) [] i k c is read = absurd (none-some c is)
child_at sets (p ∷ ps) (j ∷ ks) zero k c is read = rw read (ap set_of (sym (same_Some (child_of sets p j) c is)))
child_at sets (p ∷ ps) (j ∷ ks) (suc i) k c is read = child_at sets ps ks i k c is read

pub set_read : (sets : List ReferralSet) (ps : List (List ℕ)) (ks : List ℕ) (i k : ℕ) (s : ReferralSet) (c : Child) → AreKept sets ps ks → k ≡ get_or ks i k → s ≡ get_or sets k s
    → slice_get (children_of sets ps ks) i ≡ Some c → s ≡ set_of c
set_read sets ps ks i k s c kept read read_set is =
    let within = set_within sets ps ks i k kept (slice_get_within (children_of sets ps ks) i c is) read in
    read_set ∙ get_or_default sets k s no_set within ∙ sym (child_at sets ps ks i k c is read)
