-- What is found of the seam of two that meet.
use Rattle.std.proofs.Common.{◌≡◌, ◌⊎◌, ℕ, ◌<◌, Bool, true, false, List, [], ◌∷◌, ◌++◌, Option, Some, None, refl, sym, ap, subst, ◌∙◌, inl, inr}
use Rattle.std.specs.Prelude.{slice_get, MatchOption}
use Rattle.std.specs.Option.{option_copied}
use Rattle.std.specs.Slice.{IsItemAt}
use Rattle.std.specs.Ordering.{nat_cmp}
use Rattle.std.specs.BTreeSet.{BTreeSet, contains}
use denote.Ref.{Bor}
use Rattle.std.proofs.lemmas.Bool.{false≢true}
use Rattle.std.proofs.lemmas.Option.{same_Some, slice_get_past, slice_get-get_or}
use Rattle.ddt_path.specs.laws.Member.{IsIn, contained}
use Rattle.ddt_register.specs.Rows.{most_rows}
use Rattle.ddt_organisations.specs.declared.seam.seam_report.SeamReport.{SeamReport}
use Rattle.ddt_organisations.specs.Seam.Joined.{joined_rows}
use Rattle.ddt_organisations.specs.Seam.Verdict.{IsSaid}
use Rattle.ddt_organisations.specs.declared.organisation as code
use Rattle.ddt_organisations.specs.declared.faults.TreeFault.{TreeFault}
use Rattle.ddt_organisations.specs.Tree.{Organisation, HaveGoodSeam}
use Rattle.ddt_organisations.specs.Meets.{seen, meets}
use Rattle.ddt_organisations.specs.Found.{IsNumber}
use Rattle.ddt_organisations.specs.Faults.{HaveBadSeam, IsTrueFault, AreMore, IsSeamFault, IsPairTold, AreSeamsTold}
use Rattle.ddt_organisations.proofs.ToldLemmas.{in_behind, more_refl, more_trans, more_by, seam_kept}
use Rattle.ddt_organisations.proofs.RunnerLemmas.{number_in, in_number}

pub good_seam : (o other : Organisation) → IsSaid other.runs o.register other.register true → HaveGoodSeam o other
good_seam o other said = record {
  joined = said.0;
  is_joined = said.1;
  is_accepted = (said.2.0 refl).0;
  is_good = (said.2.0 refl).1;
}

pub bad_seam : (o other : Organisation) → meets o other ≡ true → IsSaid other.runs o.register other.register false
    → HaveBadSeam o other
bad_seam o other meet said = record {
  they_meet = meet;
  joined = said.0;
  is_joined = said.1;
  is_bad = λ both. false≢true (said.2.1 both);
}

-- ---- what is said of it

module _ (o other : Organisation) (found : Option SeamReport)
    (said : MatchOption found (most_rows < joined_rows o.register other.register)
    (λ (told : SeamReport). IsSaid other.runs o.register other.register told.is_good)) where
  pub too_many : found ≡ None → most_rows < joined_rows o.register other.register
  too_many none = subst (λ (f : Option SeamReport). MatchOption f (most_rows < joined_rows o.register other.register)
      (λ (told : SeamReport). IsSaid other.runs o.register other.register told.is_good)) none said

  pub said_when : (told : SeamReport) (good : Bool) → found ≡ Some told → told.is_good ≡ good
      → IsSaid other.runs o.register other.register good
  said_when told good is e = subst (λ (b : Bool). IsSaid other.runs o.register other.register b) e
      (subst (λ (f : Option SeamReport). MatchOption f (most_rows < joined_rows o.register other.register)
      (λ (t : SeamReport). IsSaid other.runs o.register other.register t.is_good)) is said)

-- a number is that of one organisation
pub good_at : (all : List code.Organisation.Organisation) (n m : ℕ) (a b : code.Organisation.Organisation)
    → IsNumber all n a → IsNumber all m b → HaveGoodSeam (seen a) (seen b) → IsSeamFault all n m None
good_at all n m a b first second good o other is are =
    subst (λ (c : code.Organisation.Organisation). HaveGoodSeam (seen c) (seen other)) (same_Some a o (sym first ∙ is))
    (subst (λ (c : code.Organisation.Organisation). HaveGoodSeam (seen a) (seen c)) (same_Some b other (sym second ∙ are)) good)

module _ (all : List code.Organisation.Organisation) (n m : ℕ) (before : List TreeFault) where
  pub told_none : IsSeamFault all n m None → IsPairTold all n m before
  told_none good o other is are = inl (good o other is are)

  pub told_some : (f : TreeFault) (faults : List TreeFault) → IsSeamFault all n m (Some f) → faults ≡ before ++ f ∷ []
      → IsPairTold all n m faults
  told_some f faults fault is o other _ _ = inr (
    f,
    contained faults f (subst (IsIn f) (sym is) (in_behind before (f ∷ []) f (inl refl))),
    fault.1,
  )

  pub more_some : (f : TreeFault) (faults : List TreeFault) → IsSeamFault all n m (Some f) → faults ≡ before ++ f ∷ []
      → AreMore all before faults
  more_some f faults fault is = more_by all before (f ∷ []) faults is
      (λ g k. elim k [ inl same ↦ subst (IsTrueFault all) (sym same) fault.0 | inr none ↦ absurd none ])

-- ---- the seams with others, one by one

-- what is told once all seams but those with some are looked at
pub record AreSeamsSoFar (all : List code.Organisation.Organisation) (n : ℕ) (others : ℕ → Bool)
    (before : List TreeFault) (left : List ℕ) (faults : List TreeFault) : Type 0 where
  pub rest : (m : ℕ) → IsIn m left → others m ≡ true
  pub more : AreMore all before faults
  pub told : (m : ℕ) → others m ≡ true → IsIn m left ⊎ IsPairTold all n m faults

pub seams_first : (all : List code.Organisation.Organisation) (n : ℕ) (others : BTreeSet ℕ) (before : List TreeFault)
    (left : List ℕ) → left ≡ others.keys
    → AreSeamsSoFar all n (contains nat_cmp others) before left before
seams_first all n others before left is = record {
  rest = λ m k. in_number others m (subst (IsIn m) is k);
  more = more_refl all before;
  told = λ m e. inl (subst (IsIn m) (sym is) (number_in others m e));
}

module _ (all : List code.Organisation.Organisation) (n : ℕ) (others : ℕ → Bool) (before : List TreeFault)
    (whole left : List ℕ) (old new : List TreeFault) (so_far : AreSeamsSoFar all n others before whole old) where
  pub seams_more : (m : ℕ) → whole ≡ m ∷ left → AreMore all old new → IsPairTold all n m new
      → AreSeamsSoFar all n others before left new
  seams_more m is grown now = record {
    rest = λ k j. so_far.rest k (subst (IsIn k) (sym is) (inr j));
    more = more_trans all before old new so_far.more grown;
    told = λ k e. elim (so_far.told k e) [
      | inl j ↦ ahead k (subst (IsIn k) is j)
      | inr there ↦ inr (λ o other a b. seam_kept all (seen o) (seen other) n k old new grown (there o other a b))
    ];
  }
    where
      ahead : (k : ℕ) → IsIn k (m ∷ left) → IsIn k left ⊎ IsPairTold all n k new
      ahead k (inl same) = inr (subst (λ (j : ℕ). IsPairTold all n j new) (sym same) now)
      ahead k (inr later) = inl later

  pub seams_all : whole ≡ [] → AreSeamsTold all n others old
  seams_all none m e = elim (so_far.told m e) [ inl k ↦ absurd (subst (IsIn m) none k) | inr there ↦ there ]

-- ---- what stands at a number

pub got : {A : Type 0} (xs : List A) (n : ℕ) (r : Option (Bor A)) → IsItemAt xs n r → option_copied r ≡ slice_get xs n
got xs n None is = sym (slice_get_past xs n is.3)
got xs n (Some x) is = ap (λ (y : _). Some y) is.1 ∙ sym (slice_get-get_or xs n x.now is.3.0)
