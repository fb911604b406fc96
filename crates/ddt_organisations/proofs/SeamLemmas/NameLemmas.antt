-- The names of the groups that change, as a loop puts them into a set.
use Rattle.std.proofs.Common.{◌≡◌, ℕ, Bool, true, false, ◌||◌, cond, ◌+◌, ◌<◌, List, length, get_or, take, Option, Some, None, refl, sym, ap, ◌∙◌, subst}
use Rattle.std.specs.Prelude.{is_some}
use Rattle.std.specs.Ordering.{nat_cmp, is_eq}
use Rattle.std.specs.Cmp.Lexicographic.{slice_cmp, texts_ties}
use Rattle.std.specs.List.{list_any}
use Rattle.std.proofs.lemmas.Bool.{false≢true}
use Rattle.std.proofs.lemmas.List.Folds.{list_any_more}
use Rattle.ddt_path.specs.Covers.{is_same_path}
use Rattle.ddt_path.specs.Names.{is_same_name}
use Rattle.ddt_path.specs.laws.Cover.{same_path, path_itself, same_path-flips}
use Rattle.ddt_path.specs.laws.Member.{IsIn, iff_same, any_in, in_any, contained, in_contained}
use Rattle.ddt_register.specs.declared.register.Register.{Register}
use Rattle.ddt_plan.specs.declared.groups.GroupChange.{GroupChange}
use Rattle.ddt_plan.specs.declared.groups.GroupChangeKind.{GroupChangeKind}
use Rattle.ddt_plan.specs.Groups.{change_of_group, AreGroupChanges}

-- one more name is in a set
pub inserted_now : (p q : List ℕ) (before : Bool)
    → cond (is_eq (slice_cmp nat_cmp q p)) true before ≡ (before || is_same_path p q)
inserted_now p q before =
    ap (λ (b : Bool). cond b true before) (sym (texts_ties q p) ∙ same_flips q p)
    ∙ go (is_same_path p q) before
  where
    go : (b t : Bool) → cond b true t ≡ (t || b)
    go true true = refl
    go true false = refl
    go false true = refl
    go false false = refl

    same_flips : (p q : List ℕ) → is_same_path p q ≡ is_same_path q p
    same_flips p q = iff_same (is_same_path p q) (is_same_path q p) (same_path-flips p q) (same_path-flips q p)

-- one more change, whose name says whether it passes
pub names_more : (test : GroupChange → Bool) (changes : List GroupChange) (i : ℕ) (x : GroupChange)
    → i < length changes → x ≡ get_or changes i x
    → (before mark : Bool) → before ≡ list_any test (take i changes) → mark ≡ test x
    → (before || mark) ≡ list_any test (take (i + 1) changes)
names_more test changes i x lt is before mark so_far now =
    ap (λ (b : Bool). b || mark) so_far
    ∙ ap (λ (b : Bool). list_any test (take i changes) || b) (now ∙ ap test is)
    ∙ sym (list_any_more test changes i x lt)

module _ (r s : Register) (changes : List GroupChange) (are : AreGroupChanges r s changes) (name : List ℕ) where
  abbrev named : GroupChange → Bool
  named c = is_same_name name c.name

  some_from : (o : Option GroupChangeKind) (k : GroupChangeKind) → o ≡ Some k → is_some o ≡ true
  some_from None k e = absurd cc
  some_from (Some j) k e = refl

  from_some : (o : Option GroupChangeKind) → is_some o ≡ true → (k : GroupChangeKind) × (o ≡ Some k)
  from_some None e = absurd (false≢true e)
  from_some (Some k) e = (k, refl)

  -- a name is listed if and only if its group changes
  pub listed_is : list_any named changes ≡ is_some (change_of_group r s name)
  listed_is = iff_same (list_any named changes) (is_some (change_of_group r s name))
      (λ e.
      let c = any_in named changes e in
      let same : name ≡ c.0.name = same_path name c.0.name c.2 in
      some_from (change_of_group r s name) c.0.kind
      (ap (change_of_group r s) same ∙ (are.exact c.0).0 (contained changes c.0 c.1)))
      (λ e.
      let k = from_some (change_of_group r s name) e in
      let c : GroupChange = record { name = name; kind = k.0 } in
      in_any named changes c (in_contained changes c ((are.exact c).1 k.1)) (path_itself name name refl))
