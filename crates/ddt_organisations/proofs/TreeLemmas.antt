-- What follows where nothing is wrong: a tree.
use Rattle.std.proofs.Common.{◌≡◌, ℕ, Bool, true, false, List, [], ◌∷◌, map, refl, sym, subst, inl, inr}
use Rattle.std.specs.Prelude.{Contains, Result, Ok, Err, IfOk, not, ◌||◌, ◌==◌, length}
use Rattle.std.specs.Global.{Vec}
use Rattle.std.proofs.lemmas.Bool.{both_ways, or_cases, not-true}
use Rattle.ddt_path.specs.Covers.{is_strictly_below}
use Rattle.ddt_path.specs.laws.Filter.{filter_in}
use Rattle.ddt_path.specs.laws.Member.{IsIn, contained, in_contained, holds_at, any_in, in_any, in_map, map_in, get_in, fails_at}
use Rattle.ddt_register.specs.declared.zone.Zone.{Zone}
use Rattle.ddt_check.specs.Rules.{IsAccepted, is_root}
use Rattle.ddt_organisations.specs.declared.organisation as code
use Rattle.ddt_organisations.specs.declared.faults.TreeFault.{TreeFault}
use Rattle.ddt_organisations.specs.Tree.{Organisation, IsDelegated, HaveGoodSeam, SaysNothingInside, IsTree}
use Rattle.ddt_organisations.specs.Meets.{seen, own_zones, is_delegated, delegated_zones, is_inside, is_run_by_some, runs_root}
use Rattle.ddt_organisations.specs.Faults.{AreTreeFaults, IsToldOf, MakeTree, IsFollowed}
use Rattle.ddt_organisations.specs.Laws.{WalksEndInCharge, SomeoneIsInCharge}

none_in : {A : Type 0} (xs : List A) (x : A) → xs ≡ [] → Contains xs x → ⊥
none_in xs x none k = subst (IsIn x) none (in_contained xs x k)

pub so_delegated : (o : Organisation) (z : Zone) → IsDelegated o z → is_delegated o z ≡ true
so_delegated o z d =
    let some = in_any (λ (y : Zone). is_strictly_below z.prefix y.prefix) (own_zones o) d.above
    (filter_in (λ (y : Zone). o.runs y.group) o.register.zones d.above
    (in_contained o.register.zones d.above d.is_above) d.is_run) d.is_below in
    rw (d.not_run, some) refl

pub is_there : (o : Organisation) (z : Zone) → IsDelegated o z → IsIn z (delegated_zones o)
is_there o z d = filter_in (is_delegated o) o.register.zones z (in_contained o.register.zones z d.is_zone) (so_delegated o z d)

module _ (top : code.Organisation.Organisation) (others : List code.Organisation.Organisation)
    (faults : List TreeFault) (are : AreTreeFaults (top ∷ others) faults) (none : faults ≡ []) where
  abbrev members : List code.Organisation.Organisation
  members = top ∷ others

  its : (o : Organisation) → Contains (map seen members) o
      → (c : code.Organisation.Organisation) × IsIn c members × (o ≡ seen c)
  its o k = in_map seen members o (in_contained (map seen members) o k)

  told : (c : code.Organisation.Organisation) → IsIn c members → (n : ℕ) × IsToldOf members n c faults
  told c k = let at = get_in members c k in (at.0, are.each at.0 c at.2)

  empty_inside : (c : code.Organisation.Organisation) → IsIn c members → SaysNothingInside (seen c)
  empty_inside c k z y d there = go (is_inside (seen c) y) refl
    where
      go : (b : Bool) → is_inside (seen c) y ≡ b → is_strictly_below y.prefix z.prefix ≡ false
      go true e = absurd (none_in faults _ none ((told c k).1.inside y there e))
      go false e = fails_at (λ (w : Zone). is_strictly_below y.prefix w.prefix) (delegated_zones (seen c)) z e
          (is_there (seen c) z d)

  taken : (c : code.Organisation.Organisation) → IsIn c members → (z : Zone) → IsDelegated (seen c) z
      → (other : Organisation) × Contains (map seen members) other × (other.runs z.group ≡ true)
  taken c k z d = go (is_run_by_some members z.group) refl
    where
      go : (b : Bool) → is_run_by_some members z.group ≡ b
          → (other : Organisation) × Contains (map seen members) other × (other.runs z.group ≡ true)
      go false e = absurd (none_in faults _ none
          ((told c k).1.not_run z d.is_zone (so_delegated (seen c) z d) e))
      go true e =
          let any = any_in (λ (o : code.Organisation.Organisation). (seen o).runs z.group) members e in
          (seen any.0, contained (map seen members) (seen any.0) (map_in seen members any.0 any.1), any.2)

  good : (c d : code.Organisation.Organisation) → IsIn c members → IsIn d members → (z : Zone) → IsDelegated (seen c) z
      → (seen d).runs z.group ≡ true → HaveGoodSeam (seen c) (seen d)
  good c d k j z delegated runs =
      let at = get_in members d j in
      let meet = in_any (λ (y : Zone). (seen d).runs y.group) (delegated_zones (seen c)) z
      (is_there (seen c) z delegated) runs in
      elim ((told c k).1.seams at.0 d at.2 meet) [
        | inl seam ↦ seam
        | inr fault ↦ absurd (none_in faults fault.0 none fault.1)
      ]

  root_is_run : runs_root (seen top) ≡ true
  root_is_run = go (runs_root (seen top)) refl
    where
      go : (b : Bool) → runs_root (seen top) ≡ b → b ≡ true
      go true e = refl
      go false e = absurd (none_in faults _ none (are.root e))

  pub makes_tree : IsTree (seen top) (map seen members)
  makes_tree = record {
    top_is_one = contained (map seen members) (seen top) (inl refl);
    accepted = λ o k. let c = its o k in subst (λ (p : Organisation). IsAccepted p.register) (sym c.2) c.0.accepted;
    root_is_run = λ z k e. run_of_root z k e;
    inside = λ o k. let c = its o k in
        subst (λ (p : Organisation). SaysNothingInside p) (sym c.2) (empty_inside c.0 c.1);
    each_is_run = λ o z k d. let c = its o k in
        taken c.0 c.1 z (subst (λ (p : Organisation). IsDelegated p z) c.2 d);
    seams = λ o other z k j d runs. let c = its o k in let e = its other j in
        subst (λ (p : Organisation). HaveGoodSeam p other) (sym c.2)
        (subst (HaveGoodSeam (seen c.0)) (sym e.2)
        (good c.0 e.0 c.1 e.1 z (subst (λ (p : Organisation). IsDelegated p z) c.2 d)
        (subst (λ (p : Organisation). p.runs z.group ≡ true) e.2 runs)));
  }
    where
      run_of_root : (z : Zone) → Contains top.register.zones z → z.prefix ≡ [] → (seen top).runs z.group ≡ true
      run_of_root z k e =
          elim (or_cases (not (is_root z)) ((seen top).runs z.group)
          (holds_at (λ (y : Zone). not (is_root y) || (seen top).runs y.group) top.register.zones z root_is_run
          (in_contained top.register.zones z k))) [
            | inl other ↦ absurd (both_ways (is_root z) (not-true (is_root z) other)
                (subst (λ (p : List ℕ). (length p == 0) ≡ true) (sym e) refl))
            | inr runs ↦ runs
          ]

pub make_tree : (all : List code.Organisation.Organisation) (faults : List TreeFault) → AreTreeFaults all faults
    → faults ≡ [] → MakeTree all
make_tree [] faults are none = none_in faults _ none (are.root refl)
make_tree (top ∷ others) faults are none = makes_tree top others faults are none

followed : WalksEndInCharge → SomeoneIsInCharge → (all : List code.Organisation.Organisation) → MakeTree all
    → IsFollowed all
followed walks someone [] tree = tree
followed walks someone (top ∷ others) tree = λ x.
    let all = map seen (top ∷ others) in
    let last = someone (seen top) all x tree in (
      last.0,
      last.1,
      last.2,
      λ reply end run walk. walks (seen top) last.0 all reply x end tree run walk last.2,
    )

pub tree_so : (all : List code.Organisation.Organisation) → {E : Type 0} (found : Result (Vec TreeFault) E)
    → IfOk found (λ faults. AreTreeFaults all faults.items)
    → IfOk found (λ faults. faults.items ≡ [] → MakeTree all)
tree_so all (Ok faults) are = λ none. make_tree all faults.items are none
tree_so all (Err e) are = are

pub followed_so : WalksEndInCharge → SomeoneIsInCharge → (all : List code.Organisation.Organisation) → {E : Type 0}
    (found : Result (Vec TreeFault) E) → IfOk found (λ faults. AreTreeFaults all faults.items)
    → IfOk found (λ faults. faults.items ≡ [] → IsFollowed all)
followed_so walks someone all (Ok faults) are = λ none.
    followed walks someone all (make_tree all faults.items are none)
followed_so walks someone all (Err e) are = are
