-- What is told so far, as items are looked at one by one.
use Rattle.std.proofs.Common.{◌≡◌, ◌⊎◌, ℕ, ◌+◌, ◌<◌, ◌≤◌, Bool, true, false, cond, List, [], ◌∷◌, ◌++◌, length, take, get_or, map, Some, refl, sym, ap, subst, ◌∙◌, arith, inl, inr}
use Rattle.std.specs.Prelude.{Contains, slice_get}
use Rattle.std.specs.List.{filter}
use Rattle.std.proofs.lemmas.Bool.{cond-true, cond-false, both_ways, cases_lt}
use Rattle.std.proofs.lemmas.List.{append_assoc, append-nil, map-append}
use Rattle.std.proofs.lemmas.List.Elements.{filter_more}
use Rattle.std.proofs.lemmas.Option.{same_Some, slice_get-get_or, slice_get_within}
use Rattle.ddt_path.specs.laws.Member.{IsIn, contained, in_contained}
use Rattle.ddt_organisations.specs.declared.organisation as code
use Rattle.ddt_organisations.specs.declared.faults.TreeFault.{TreeFault}
use Rattle.ddt_organisations.specs.declared.faults.TreeFault.TheVariants.{RootNotRun}
use Rattle.ddt_organisations.specs.Tree.{Organisation}
use Rattle.ddt_organisations.specs.Found.{IsNumber}
use Rattle.ddt_organisations.specs.Faults.{first_runs_root, IsTrueFault, IsSeamTold, IsToldOf, AreTreeFaults, AreMore}

-- ---- items that pass a test

module _ {A : Type 0} (p : A → Bool) (xs : List A) (i : ℕ) (x : A) (lt : i < length xs) (is : x ≡ get_or xs i x) where
  one_more : filter p (take (i + 1) xs) ≡ filter p (take i xs) ++ cond (p x) (x ∷ []) []
  one_more =
      filter_more p xs i x lt
      ∙ ap (λ (y : A). filter p (take i xs) ++ cond (p y) (y ∷ []) []) (sym is)

  pub kept_more : (new old : List A) → old ≡ filter p (take i xs) → p x ≡ true → new ≡ old ++ x ∷ []
      → new ≡ filter p (take (i + 1) xs)
  kept_more new old before e step =
      step
      ∙ ap (λ (l : List A). l ++ x ∷ []) before
      ∙ ap (λ (l : List A). filter p (take i xs) ++ l) (sym (cond-true (p x) (x ∷ []) [] e))
      ∙ sym one_more

  pub left_more : (old : List A) → old ≡ filter p (take i xs) → p x ≡ false → old ≡ filter p (take (i + 1) xs)
  left_more old before e =
      before
      ∙ sym (append-nil (filter p (take i xs)))
      ∙ ap (λ (l : List A). filter p (take i xs) ++ l) (sym (cond-false (p x) (x ∷ []) [] e))
      ∙ sym one_more

  pub told_more : {B : Type 0} (f : A → B) (first new old : List B) → old ≡ first ++ map f (filter p (take i xs))
      → p x ≡ true → new ≡ old ++ f x ∷ [] → new ≡ first ++ map f (filter p (take (i + 1) xs))
  told_more {B} f first new old before e step =
      step
      ∙ ap (λ (l : List B). l ++ f x ∷ []) before
      ∙ append_assoc first (map f (filter p (take i xs))) (f x ∷ [])
      ∙ ap (λ (l : List B). first ++ l) (sym (map-append f (filter p (take i xs)) (x ∷ []))
      ∙ ap (map f) (ap (λ (l : List A). filter p (take i xs) ++ l) (sym (cond-true (p x) (x ∷ []) [] e))
      ∙ sym one_more))

  pub untold_more : {B : Type 0} (f : A → B) (first old : List B) → old ≡ first ++ map f (filter p (take i xs))
      → p x ≡ false → old ≡ first ++ map f (filter p (take (i + 1) xs))
  untold_more {B} f first old before e =
      before ∙ ap (λ (l : List A). first ++ map f l) (left_more (filter p (take i xs)) refl e)

-- ---- what is told grows

pub in_front : {A : Type 0} (xs ys : List A) (a : A) → IsIn a xs → IsIn a (xs ++ ys)
in_front [] ys a k = absurd k
in_front (x ∷ xs) ys a (inl same) = inl same
in_front (x ∷ xs) ys a (inr later) = inr (in_front xs ys a later)

pub in_behind : {A : Type 0} (xs ys : List A) (a : A) → IsIn a ys → IsIn a (xs ++ ys)
in_behind [] ys a k = k
in_behind (x ∷ xs) ys a k = inr (in_behind xs ys a k)

pub in_either : {A : Type 0} (xs ys : List A) (a : A) → IsIn a (xs ++ ys) → IsIn a xs ⊎ IsIn a ys
in_either [] ys a k = inr k
in_either (x ∷ xs) ys a (inl same) = inl (inl same)
in_either (x ∷ xs) ys a (inr later) = elim (in_either xs ys a later) [ inl k ↦ inl (inr k) | inr k ↦ inr k ]

module _ (all : List code.Organisation.Organisation) where
  pub more_refl : (faults : List TreeFault) → AreMore all faults faults
  more_refl faults = record { kept = λ f k. k; fresh = λ f k. inl k }

  pub more_trans : (a b c : List TreeFault) → AreMore all a b → AreMore all b c → AreMore all a c
  more_trans a b c m n = record {
    kept = λ f k. n.kept f (m.kept f k);
    fresh = λ f k. elim (n.fresh f k) [ inl there ↦ m.fresh f there | inr fact ↦ inr fact ];
  }

  -- what is behind is true
  pub more_by : (before added faults : List TreeFault) → faults ≡ before ++ added
      → ((f : TreeFault) → IsIn f added → IsTrueFault all f) → AreMore all before faults
  more_by before added faults is each = record {
    kept = λ f k. contained faults f
        (subst (IsIn f) (sym is) (in_front before added f (in_contained before f k)));
    fresh = λ f k. elim (in_either before added f (subst (IsIn f) is (in_contained faults f k))) [
      | inl there ↦ inl (contained before f there)
      | inr new ↦ inr (each f new)
    ];
  }

  pub seam_kept : (o other : Organisation) (n m : ℕ) (before faults : List TreeFault) → AreMore all before faults
      → IsSeamTold o other n m before → IsSeamTold o other n m faults
  seam_kept o other n m before faults more (inl good) = inl good
  seam_kept o other n m before faults more (inr told) = inr (told.0, more.kept told.0 told.1, told.2)

  pub told_kept : (n : ℕ) (o : code.Organisation.Organisation) (before faults : List TreeFault)
      → AreMore all before faults → IsToldOf all n o before → IsToldOf all n o faults
  told_kept n o before faults more told = record {
    inside = λ z k e. more.kept _ (told.inside z k e);
    not_run = λ z k e none. more.kept _ (told.not_run z k e none);
    seams = λ m other is meet. seam_kept _ _ n m before faults more (told.seams m other is meet);
  }

-- ---- numbers

pub number_at : (all : List code.Organisation.Organisation) (n : ℕ) (o : code.Organisation.Organisation)
    → n < length all → o ≡ get_or all n o → IsNumber all n o
number_at all n o lt is = slice_get-get_or all n o lt ∙ ap (λ (c : _). Some c) (sym is)

-- ---- what is told of the first organisations

-- what is told is true, and all that is wrong with the root and with so many organisations is told
pub record AreToldBelow (all : List code.Organisation.Organisation) (i : ℕ) (faults : List TreeFault) : Type 0 where
  pub are_true : (f : TreeFault) → Contains faults f → IsTrueFault all f
  pub root : first_runs_root all ≡ false → Contains faults RootNotRun
  pub each : (n : ℕ) (o : code.Organisation.Organisation) → n < i → IsNumber all n o → IsToldOf all n o faults

module _ (all : List code.Organisation.Organisation) where
  pub told_root : (faults : List TreeFault) → first_runs_root all ≡ false → faults ≡ RootNotRun ∷ []
      → AreToldBelow all 0 faults
  told_root faults not is = record {
    are_true = λ f k. elim (subst (IsIn f) is (in_contained faults f k)) [
      | inl same ↦ subst (IsTrueFault all) (sym same) not
      | inr none ↦ absurd none
    ];
    root = λ _. contained faults RootNotRun (subst (IsIn RootNotRun) (sym is) (inl refl));
    each = λ n o lt. absurd (omega arith);
  }

  pub told_nothing : (faults : List TreeFault) → first_runs_root all ≡ true → faults ≡ [] → AreToldBelow all 0 faults
  told_nothing faults runs is = record {
    are_true = λ f k. absurd (subst (IsIn f) is (in_contained faults f k));
    root = λ not. absurd (both_ways (first_runs_root all) not runs);
    each = λ n o lt. absurd (omega arith);
  }

  module _ (i : ℕ) (o : code.Organisation.Organisation) (is : IsNumber all i o) (before faults : List TreeFault)
      (so_far : AreToldBelow all i before) (more : AreMore all before faults) (now : IsToldOf all i o faults) where
    at_last : (n : ℕ) (p : code.Organisation.Organisation) → n ≡ i → IsNumber all n p → IsToldOf all n p faults
    at_last n p same number =
        let one : o ≡ p = same_Some o p (sym is ∙ ap (slice_get all) (sym same) ∙ number) in
        subst (λ (m : ℕ). IsToldOf all m p faults) (sym same)
        (subst (λ (c : code.Organisation.Organisation). IsToldOf all i c faults) one now)

    pub told_on : AreToldBelow all (i + 1) faults
    told_on = record {
      are_true = λ f k. elim (more.fresh f k) [ inl there ↦ so_far.are_true f there | inr fact ↦ fact ];
      root = λ not. more.kept RootNotRun (so_far.root not);
      each = λ n p lt number. elim (cases_lt n i) [
        | inl below ↦ told_kept all n p before faults more (so_far.each n p below number)
        | inr le ↦ at_last n p (omega arith) number
      ];
    }

  pub told_all : (i : ℕ) (faults : List TreeFault) → length all ≤ i → AreToldBelow all i faults
      → AreTreeFaults all faults
  told_all i faults le told = record {
    are_true = told.are_true;
    root = told.root;
    each = λ n o number. let lt = slice_get_within all n o number in told.each n o (omega arith) number;
  }
