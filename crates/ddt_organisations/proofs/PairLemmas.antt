-- The pairs of organisations that meet, one organisation after another.
use Rattle.std.proofs.Common.{◌≡◌, ℕ, ◌+◌, ◌<◌, ◌≤◌, true, List, [], ◌∷◌, ◌++◌, length, map, sym, ap, subst, ◌∙◌, arith, inl, inr}
use Rattle.std.specs.Prelude.{Contains, ◌==◌, slice_get}
use Rattle.std.specs.List.{list_any}
use Rattle.std.specs.Ordering.{nat_cmp}
use Rattle.std.specs.BTreeSet.{BTreeSet, contains}
use Rattle.std.proofs.lemmas.Bool.{cases_lt}
use Rattle.std.proofs.lemmas.List.{append_assoc}
use Rattle.std.proofs.lemmas.Option.{same_Some, slice_get_within}
use Rattle.ddt_path.specs.laws.Member.{IsIn, contained, in_contained, in_map, map_in}
use Rattle.ddt_register.specs.declared.zone.Zone.{Zone}
use Rattle.ddt_organisations.specs.declared.organisation as code
use Rattle.ddt_organisations.specs.declared.delegations.Delegations.{Delegations}
use Rattle.ddt_organisations.specs.Meets.{seen, meets}
use Rattle.ddt_organisations.specs.Found.{IsNumber, HaveRunners, AreDelegations}
use Rattle.ddt_organisations.specs.Faults.{DoMeet, AreSeams, pair_with}
use Rattle.ddt_organisations.proofs.ToldLemmas.{in_front, in_behind, in_either}
use Rattle.ddt_organisations.proofs.RunnerLemmas.{number_in, in_number}
use Rattle.ddt_organisations.proofs.FaultLemmas.{meet_is, do_meet}

-- one more pair, and so many fewer that are left
pub pair_more : (n m : ℕ) (before old new : List (ℕ × ℕ)) (all left : List ℕ) → all ≡ m ∷ left
    → old ++ map (pair_with n) all ≡ before → new ≡ old ++ (n, m) ∷ [] → new ++ map (pair_with n) left ≡ before
pair_more n m before old new all left is so_far step =
    ap (λ (l : List (ℕ × ℕ)). l ++ map (pair_with n) left) step
    ∙ append_assoc old ((n, m) ∷ []) (map (pair_with n) left)
    ∙ ap (λ (l : List ℕ). old ++ map (pair_with n) l) (sym is)
    ∙ so_far

-- the pairs of the first so many organisations
pub record AreSeamsBelow (all : List code.Organisation.Organisation) (i : ℕ) (pairs : List (ℕ × ℕ)) : Type 0 where
  pub they_meet : (n m : ℕ) → Contains pairs (n, m) → DoMeet all n m
  pub each : (n m : ℕ) (o other : code.Organisation.Organisation) → n < i → IsNumber all n o → IsNumber all m other
      → meets (seen o) (seen other) ≡ true → Contains pairs (n, m)

pub pairs_first : (all : List code.Organisation.Organisation) (pairs : List (ℕ × ℕ)) → pairs ≡ []
    → AreSeamsBelow all 0 pairs
pairs_first all pairs none = record {
  they_meet = λ n m k. absurd (subst (IsIn (n, m)) none (in_contained pairs (n, m) k));
  each = λ n m o other lt. absurd (omega arith);
}

module _ (all : List code.Organisation.Organisation) (i : ℕ) (o : code.Organisation.Organisation)
    (number : IsNumber all i o) (numbers : List ℕ → List ℕ) (runners : HaveRunners all numbers) (d : Delegations)
    (are : AreDelegations (seen o) d) (others : BTreeSet ℕ)
    (is : (m : ℕ) → contains nat_cmp others m
    ≡ list_any (λ (z : Zone). list_any (λ (k : ℕ). k == m) (numbers z.group)) d.zones.items)
    (old new : List (ℕ × ℕ)) (so_far : AreSeamsBelow all i old)
    (step : new ≡ old ++ map (pair_with i) others.keys) where
  new_meet : (n m : ℕ) → IsIn (n, m) (map (pair_with i) others.keys) → DoMeet all n m
  new_meet n m k =
      let f = in_map (pair_with i) others.keys (n, m) k in
      let first : n ≡ i = ap (λ (p : ℕ × ℕ). p.0) f.2 in
      let second : m ≡ f.0 = ap (λ (p : ℕ × ℕ). p.1) f.2 in
      subst (λ (a : ℕ). DoMeet all a m) (sym first)
      (subst (λ (b : ℕ). DoMeet all i b) (sym second)
      (do_meet all i o number numbers runners d are (contains nat_cmp others) is f.0 (in_number others f.0 f.1)))

  new_each : (n m : ℕ) (p other : code.Organisation.Organisation) → n ≡ i → IsNumber all n p → IsNumber all m other
      → meets (seen p) (seen other) ≡ true → IsIn (n, m) (map (pair_with i) others.keys)
  new_each n m p other same at theirs meet =
      let one : p ≡ o = same_Some p o (sym at ∙ ap (slice_get all) same ∙ number) in
      let e : contains nat_cmp others m ≡ true =
      meet_is all i o number numbers runners d are (contains nat_cmp others) is m other theirs
      ∙ subst (λ (c : code.Organisation.Organisation). meets (seen c) (seen other) ≡ true) one meet in
      subst (λ (a : ℕ). IsIn (a, m) (map (pair_with i) others.keys)) (sym same)
      (map_in (pair_with i) others.keys m (number_in others m e))

  pub pairs_on : AreSeamsBelow all (i + 1) new
  pairs_on = record {
    they_meet = λ n m k. elim (in_either old (map (pair_with i) others.keys) (n, m)
        (subst (IsIn (n, m)) step (in_contained new (n, m) k))) [
          | inl there ↦ so_far.they_meet n m (contained old (n, m) there)
          | inr there ↦ new_meet n m there
        ];
    each = λ n m p other lt at theirs meet. contained new (n, m) (subst (IsIn (n, m)) (sym step)
        (elim (cases_lt n i) [
          | inl below ↦ in_front old (map (pair_with i) others.keys) (n, m)
              (in_contained old (n, m) (so_far.each n m p other below at theirs meet))
          | inr le ↦ in_behind old (map (pair_with i) others.keys) (n, m)
              (new_each n m p other (omega arith) at theirs meet)
        ]));
  }

pub pairs_all : (all : List code.Organisation.Organisation) (i : ℕ) (pairs : List (ℕ × ℕ)) → length all ≤ i
    → AreSeamsBelow all i pairs → AreSeams all pairs
pairs_all all i pairs le told = record {
  they_meet = told.they_meet;
  each = λ n m o other at theirs meet.
      let lt = slice_get_within all n o at in
      told.each n m o other (omega arith) at theirs meet;
}
