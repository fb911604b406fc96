-- The numbers of those that run a group.
use Rattle.std.proofs.Common.{◌≡◌, ◌⊎◌, ℕ, zero, suc, ◌+◌, ◌<◌, Bool, true, false, cond, List, [], ◌∷◌, ◌++◌, length, take, get_or, Some, refl, sym, ap, subst, ◌∙◌, arith, inl, inr}
use Rattle.std.specs.Prelude.{◌==◌, ◌||◌, slice_get, not}
use Rattle.std.specs.List.{list_any}
use Rattle.std.specs.Ordering.{nat_cmp, eq_by_cmp}
use Rattle.std.specs.BTreeSet.{BTreeSet, contains}
use Rattle.std.specs.Cmp.Lexicographic.{slice_cmp, texts_ties}
use Rattle.std.proofs.lemmas.Bool.{eq-eqb, eqb-true, false_from_ne_true}
use Rattle.std.proofs.lemmas.Bool.Decides.{nat_tests}
use Rattle.std.proofs.lemmas.List.{take_more, length-take-le}
use Rattle.std.proofs.lemmas.Option.{same_Some}
use Rattle.ddt_path.specs.laws.Cover.{same_path, path_itself}
use Rattle.ddt_path.specs.laws.Member.{IsIn, contained, in_contained, in_get, get_in, none_of, any_in, in_any, iff_same}
use Rattle.ddt_register.specs.declared.zone.Zone.{Zone}
use Rattle.ddt_organisations.specs.declared.organisation as code
use Rattle.ddt_organisations.specs.Tree.{Organisation}
use Rattle.ddt_organisations.specs.Meets.{seen, is_run_by_some, delegated_zones, meets}
use Rattle.ddt_organisations.specs.Found.{IsNumber, HaveRunners, AreRunnersAnd}
use Rattle.ddt_organisations.proofs.ToldLemmas.{in_front, in_behind, in_either}

-- ---- a number at a name

module _ (old new : List ℕ → List ℕ) (own : List ℕ) (number : ℕ) (here : new own ≡ old own ++ number ∷ [])
    (elsewhere : (k : List ℕ) → eq_by_cmp (slice_cmp nat_cmp) own k ≡ false → new k ≡ old k) where
  pub still_at : (name : List ℕ) (n : ℕ) → IsIn n (old name) → IsIn n (new name)
  still_at name n k = go (eq_by_cmp (slice_cmp nat_cmp) own name) refl
    where
      go : (b : Bool) → eq_by_cmp (slice_cmp nat_cmp) own name ≡ b → IsIn n (new name)
      go true e =
          let same : own ≡ name = same_path own name (texts_ties own name ∙ e) in
          subst (λ (q : List ℕ). IsIn n (old q) → IsIn n (new q)) same
          (λ j. subst (IsIn n) (sym here) (in_front (old own) (number ∷ []) n j)) k
      go false e = subst (IsIn n) (sym (elsewhere name e)) k

  pub now_at : IsIn number (new own)
  now_at = subst (IsIn number) (sym here) (in_behind (old own) (number ∷ []) number (inl refl))

  pub from_either : (name : List ℕ) (n : ℕ) → IsIn n (new name) → IsIn n (old name) ⊎ ((n ≡ number) × (own ≡ name))
  from_either name n k = go (eq_by_cmp (slice_cmp nat_cmp) own name) refl
    where
      go : (b : Bool) → eq_by_cmp (slice_cmp nat_cmp) own name ≡ b
          → IsIn n (old name) ⊎ ((n ≡ number) × (own ≡ name))
      go true e =
          let same : own ≡ name = same_path own name (texts_ties own name ∙ e) in
          elim (in_either (old own) (number ∷ []) n (subst (IsIn n) (ap new (sym same) ∙ here) k)) [
            | inl there ↦ inl (subst (λ (q : List ℕ). IsIn n (old q)) same there)
            | inr (inl it) ↦ inr (it, same)
            | inr (inr none) ↦ absurd none
          ]
      go false e = inl (subst (IsIn n) (elsewhere name e) k)

-- ---- one more organisation

slice_get_front : {A : Type 0} (xs : List A) (y : A) (n : ℕ) (x : A) → slice_get xs n ≡ Some x
    → slice_get (xs ++ y ∷ []) n ≡ Some x
slice_get_front [] y n x e = absurd cc
slice_get_front (z ∷ xs) y zero x e = e
slice_get_front (z ∷ xs) y (suc n) x e = slice_get_front xs y n x e

slice_get_last : {A : Type 0} (xs : List A) (y : A) → slice_get (xs ++ y ∷ []) (length xs) ≡ Some y
slice_get_last [] y = refl
slice_get_last (z ∷ xs) y = slice_get_last xs y

slice_get_either : {A : Type 0} (xs : List A) (y : A) (n : ℕ) (x : A) → slice_get (xs ++ y ∷ []) n ≡ Some x
    → (slice_get xs n ≡ Some x) ⊎ ((n ≡ length xs) × (x ≡ y))
slice_get_either [] y zero x e = inr (refl, sym (same_Some y x e))
slice_get_either [] y (suc n) x e = absurd cc
slice_get_either (z ∷ xs) y zero x e = inl e
slice_get_either (z ∷ xs) y (suc n) x e =
    elim (slice_get_either xs y n x e) [ inl there ↦ inl there | inr last ↦ inr (ap (λ (k : ℕ). suc k) last.0, last.1) ]

pub runners_first : (numbers : List ℕ → List ℕ) → ((name : List ℕ) → numbers name ≡ []) → HaveRunners [] numbers
runners_first numbers none name n = (
  λ k. absurd (subst (IsIn n) (none name) (in_contained (numbers name) n k)),
  λ f. absurd (in_get [] n f.0 f.1),
)

module _ (all : List code.Organisation.Organisation) (i : ℕ) (o : code.Organisation.Organisation) (lt : i < length all)
    (is : o ≡ get_or all i o) (old new : List ℕ → List ℕ) (before : HaveRunners (take i all) old)
    (now : AreRunnersAnd old (seen o) i new) where
  len_front : length (take i all) ≡ i
  len_front = length-take-le i all (omega arith)

  all_so_far : take (i + 1) all ≡ take i all ++ o ∷ []
  all_so_far = take_more all i o lt ∙ ap (λ (c : code.Organisation.Organisation). take i all ++ c ∷ []) (sym is)

  pub runners_more : HaveRunners (take (i + 1) all) new
  runners_more name n = (
    λ k. elim ((now name n).0 k) [
      | inl there ↦
          let f = (before name n).0 there in (
            f.0,
            subst (λ (l : List code.Organisation.Organisation). slice_get l n ≡ Some f.0) (sym all_so_far)
                (slice_get_front (take i all) o n f.0 f.1),
            f.2,
          )
      | inr it ↦ (
        o,
        subst (λ (l : List code.Organisation.Organisation). slice_get l n ≡ Some o) (sym all_so_far)
            (ap (slice_get (take i all ++ o ∷ [])) (it.0 ∙ sym len_front) ∙ slice_get_last (take i all) o),
        it.1,
      )
    ],
    λ f. elim (slice_get_either (take i all) o n f.0
        (subst (λ (l : List code.Organisation.Organisation). slice_get l n ≡ Some f.0) all_so_far f.1)) [
          | inl there ↦ (now name n).1 (inl ((before name n).1 (f.0, there, f.2)))
          | inr last ↦ (now name n).1 (inr (
            last.0 ∙ len_front,
            subst (λ (c : code.Organisation.Organisation). (seen c).runs name ≡ true) last.1 f.2,
          ))
        ],
  )

-- ---- what follows of the numbers

some_length : (n : ℕ) (ns : List ℕ) → (length (n ∷ ns) == 0) ≡ false
some_length n ns = false_from_ne_true (length (n ∷ ns) == 0) (λ e.
    let none = eqb-true (length (n ∷ ns)) 0 e in
    absurd (omega arith))

module _ (all : List code.Organisation.Organisation) (numbers : List ℕ → List ℕ) (runners : HaveRunners all numbers) where
  pub nobody_is : (name : List ℕ) → (length (numbers name) == 0) ≡ not (is_run_by_some all name)
  nobody_is name = go (numbers name) refl
    where
      go : (ns : List ℕ) → numbers name ≡ ns → (length ns == 0) ≡ not (is_run_by_some all name)
      go [] e = sym (ap not (none_of (λ (o : code.Organisation.Organisation). (seen o).runs name) all (λ o k.
          let at = get_in all o k in
          elim ((seen o).runs name) as (λ b. (seen o).runs name ≡ b → b ≡ false) [
            | false ↦ λ run. refl
            | true ↦ λ run. absurd (subst (IsIn at.0) e
                (in_contained (numbers name) at.0 ((runners name at.0).1 (o, at.2, run))))
          ] refl)))
      go (n ∷ ns) e =
          let found = (runners name n).0 (contained (numbers name) n (subst (IsIn n) (sym e) (inl refl))) in
          some_length n ns
          ∙ sym (ap not (in_any (λ (o : code.Organisation.Organisation). (seen o).runs name) all found.0
          (in_get all n found.0 found.1) found.2))

  pub others_meet : (o : Organisation) (m : ℕ) (other : code.Organisation.Organisation) → IsNumber all m other
      → list_any (λ (z : Zone). list_any (λ k. k == m) (numbers z.group)) (delegated_zones o) ≡ meets o (seen other)
  others_meet o m other is = any_alike (delegated_zones o) (λ z.
      iff_same (list_any (λ k. k == m) (numbers z.group)) ((seen other).runs z.group)
      (λ e.
      let k = any_in (λ (k : ℕ). k == m) (numbers z.group) e in
      let found = (runners z.group m).0
      (contained (numbers z.group) m (subst (λ (j : ℕ). IsIn j (numbers z.group)) (eqb-true k.0 m k.2) k.1)) in
      subst (λ (c : code.Organisation.Organisation). (seen c).runs z.group ≡ true)
      (same_Some found.0 other (sym found.1 ∙ is)) found.2)
      (λ e. in_any (λ (k : ℕ). k == m) (numbers z.group) m
      (in_contained (numbers z.group) m ((runners z.group m).1 (other, is, e))) (eq-eqb m m refl)))
    where
      any_alike : {p q : Zone → Bool} (zones : List Zone) → ((z : Zone) → p z ≡ q z) → list_any p zones ≡ list_any q zones
      any_alike [] h = refl
      any_alike (z ∷ zones) h = rw (h z, any_alike zones h) refl

-- ---- the keys of a set

pub key_in : (groups : BTreeSet (List ℕ)) (q : List ℕ) → contains (slice_cmp nat_cmp) groups q ≡ true → IsIn q groups.keys
key_in groups q e =
    let k = any_in (λ (key : List ℕ). eq_by_cmp (slice_cmp nat_cmp) q key) groups.keys e in
    subst (λ (p : List ℕ). IsIn p groups.keys) (sym (same_path q k.0 (texts_ties q k.0 ∙ k.2))) k.1

pub in_key : (groups : BTreeSet (List ℕ)) (q : List ℕ) → IsIn q groups.keys → contains (slice_cmp nat_cmp) groups q ≡ true
in_key groups q k =
    in_any (λ (key : List ℕ). eq_by_cmp (slice_cmp nat_cmp) q key) groups.keys q k
    (sym (texts_ties q q) ∙ path_itself q q refl)

pub number_ties : (a b : ℕ) → eq_by_cmp nat_cmp a b ≡ (a == b)
number_ties a b = grind (arith, nat_tests)

pub number_in : (others : BTreeSet ℕ) (n : ℕ) → contains nat_cmp others n ≡ true → IsIn n others.keys
number_in others n e =
    let k = any_in (λ (key : ℕ). eq_by_cmp nat_cmp n key) others.keys e in
    subst (λ (m : ℕ). IsIn m others.keys) (sym (eqb-true n k.0 (sym (number_ties n k.0) ∙ k.2))) k.1

pub in_number : (others : BTreeSet ℕ) (n : ℕ) → IsIn n others.keys → contains nat_cmp others n ≡ true
in_number others n k =
    in_any (λ (key : ℕ). eq_by_cmp nat_cmp n key) others.keys n k (number_ties n n ∙ eq-eqb n n refl)

-- ---- the groups of an organisation, one by one

-- what is at each name once all but some groups are added
pub record AreAdded (groups : List ℕ → Bool) (number : ℕ) (before : List ℕ → List ℕ) (left : List (List ℕ))
    (numbers : List ℕ → List ℕ) : Type 0 where
  pub rest : (q : List ℕ) → IsIn q left → groups q ≡ true
  pub kept : (q : List ℕ) (n : ℕ) → IsIn n (before q) → IsIn n (numbers q)
  pub fresh : (q : List ℕ) (n : ℕ) → IsIn n (numbers q) → IsIn n (before q) ⊎ ((n ≡ number) × (groups q ≡ true))
  pub done : (q : List ℕ) → groups q ≡ true → IsIn q left ⊎ IsIn number (numbers q)

pub added_first : (groups : BTreeSet (List ℕ)) (number : ℕ) (before : List ℕ → List ℕ) (left : List (List ℕ))
    → left ≡ groups.keys → AreAdded (contains (slice_cmp nat_cmp) groups) number before left before
added_first groups number before left is = record {
  rest = λ q k. in_key groups q (subst (IsIn q) is k);
  kept = λ q n k. k;
  fresh = λ q n k. inl k;
  done = λ q e. inl (subst (IsIn q) (sym is) (key_in groups q e));
}

module _ (groups : List ℕ → Bool) (number : ℕ) (before : List ℕ → List ℕ) (all left : List (List ℕ))
    (old new : List ℕ → List ℕ) (so_far : AreAdded groups number before all old) where
  pub added_more : (name : List ℕ) → all ≡ name ∷ left → new name ≡ old name ++ number ∷ []
      → ((k : List ℕ) → eq_by_cmp (slice_cmp nat_cmp) name k ≡ false → new k ≡ old k)
      → AreAdded groups number before left new
  added_more name is here elsewhere =
      let still = still_at old new name number here elsewhere in
      record {
        rest = λ q k. so_far.rest q (subst (IsIn q) (sym is) (inr k));
        kept = λ q n k. still q n (so_far.kept q n k);
        fresh = λ q n k. elim (from_either old new name number here elsewhere q n k) [
          | inl there ↦ so_far.fresh q n there
          | inr it ↦ inr (
            it.0,
            subst (λ (p : List ℕ). groups p ≡ true) it.1
                (so_far.rest name (subst (IsIn name) (sym is) (inl refl))),
          )
        ];
        done = λ q e. elim (so_far.done q e) [
          | inl k ↦ ahead q (subst (IsIn q) is k)
          | inr there ↦ inr (still q number there)
        ];
      }
    where
      ahead : (q : List ℕ) → IsIn q (name ∷ left) → IsIn q left ⊎ IsIn number (new q)
      ahead q (inl same) = inr (subst (λ (p : List ℕ). IsIn number (new p)) (sym same)
          (now_at old new name number here elsewhere))
      ahead q (inr later) = inl later

  pub added_all : (o : Organisation) → o.runs ≡ groups → all ≡ [] → AreRunnersAnd before o number old
  added_all o is none = subst (λ (runs : List ℕ → Bool). AreRunnersAnd before (record { register = o.register; runs = runs }) number old)
      (sym is) go
    where
      go : AreRunnersAnd before (record { register = o.register; runs = groups }) number old
      go name n = (
        λ k. elim (so_far.fresh name n (in_contained (old name) n k)) [
          | inl there ↦ inl (contained (before name) n there)
          | inr it ↦ inr it
        ],
        λ either. contained (old name) n (elim either [
          | inl there ↦ so_far.kept name n (in_contained (before name) n there)
          | inr it ↦ subst (λ (m : ℕ). IsIn m (old name)) (sym it.0) (elim (so_far.done name it.1) [
            | inl left ↦ absurd (subst (IsIn name) none left)
            | inr there ↦ there
          ])
        ]),
      )

-- ---- numbers that are put into a set

pub or_false : (b : Bool) → b ≡ (b || false)
or_false true = refl
or_false false = refl

pub or_more : (first before now : Bool) → cond now true (first || before) ≡ (first || (before || now))
or_more true before true = refl
or_more true before false = refl
or_more false true true = refl
or_more false true false = refl
or_more false false true = refl
or_more false false false = refl
