-- All that is told of one organisation.
use Rattle.std.proofs.Common.{◌≡◌, ℕ, Bool, true, false, List, ◌++◌, length, map, refl, sym, ap, subst, ◌∙◌}
use Rattle.std.specs.Prelude.{Contains, ◌==◌}
use Rattle.std.specs.List.{list_any, filter}
use Rattle.std.proofs.lemmas.Bool.{not-true, not_from_false}
use Rattle.std.proofs.lemmas.Option.{same_Some}
use Rattle.ddt_path.specs.laws.Filter.{in_filter, filter_in}
use Rattle.ddt_path.specs.laws.Member.{IsIn, contained, in_contained, in_map, map_in}
use Rattle.ddt_register.specs.declared.zone.Zone.{Zone}
use Rattle.ddt_organisations.specs.declared.organisation as code
use Rattle.ddt_organisations.specs.declared.delegations.Delegations.{Delegations}
use Rattle.ddt_organisations.specs.declared.faults.TreeFault.{TreeFault}
use Rattle.ddt_organisations.specs.Meets.{seen, is_delegated, is_inside, is_run_by_some, meets}
use Rattle.ddt_organisations.specs.Found.{IsNumber, HaveRunners, AreDelegations}
use Rattle.ddt_organisations.specs.Faults.{IsTrueFault, IsToldOf, AreMore, DoMeet, AreSeamsTold, inside_at, nobody_at}
use Rattle.ddt_organisations.proofs.ToldLemmas.{in_behind, more_by, more_trans}
use Rattle.ddt_organisations.proofs.RunnerLemmas.{nobody_is, others_meet}

module _ (all : List code.Organisation.Organisation) (n : ℕ) (o : code.Organisation.Organisation)
    (number : IsNumber all n o) (numbers : List ℕ → List ℕ) (runners : HaveRunners all numbers) (d : Delegations)
    (are : AreDelegations (seen o) d) where
  -- ---- whom it meets

  abbrev runs_one : ℕ → Zone → Bool
  runs_one m z = list_any (λ (k : ℕ). k == m) (numbers z.group)

  module _ (others : ℕ → Bool) (is : (m : ℕ) → others m ≡ list_any (runs_one m) d.zones.items) where
    pub meet_is : (m : ℕ) (other : code.Organisation.Organisation) → IsNumber all m other
        → others m ≡ meets (seen o) (seen other)
    meet_is m other at =
        is m
        ∙ ap (list_any (runs_one m)) are.zones
        ∙ others_meet all numbers runners (seen o) m other at

    pub do_meet : (m : ℕ) → others m ≡ true → DoMeet all n m
    do_meet m e p other first second =
        let one : o ≡ p = same_Some o p (sym number ∙ first) in
        subst (λ (c : code.Organisation.Organisation). meets (seen c) (seen other) ≡ true) one
        (sym (meet_is m other second) ∙ e)

  -- ---- what is told of its zones

  abbrev nobody_at_all : Zone → Bool
  nobody_at_all z = length (numbers z.group) == 0

  module _ (f0 f1 f2 : List TreeFault)
      (inside : f1 ≡ f0 ++ map (inside_at n) (filter (is_inside (seen o)) o.register.zones))
      (nobody : f2 ≡ f1 ++ map (nobody_at n) (filter nobody_at_all d.zones.items)) where
    more_inside : AreMore all f0 f1
    more_inside = more_by all f0 (map (inside_at n) (filter (is_inside (seen o)) o.register.zones)) f1 inside (λ f k.
        let y = in_map (inside_at n) (filter (is_inside (seen o)) o.register.zones) f k in
        let p = in_filter (is_inside (seen o)) o.register.zones y.0 y.1 in
        subst (IsTrueFault all) (sym y.2) (o, y.0, number, contained o.register.zones y.0 p.0, refl, p.1))

    more_nobody : AreMore all f1 f2
    more_nobody = more_by all f1 (map (nobody_at n) (filter nobody_at_all d.zones.items)) f2 nobody (λ f k.
        let y = in_map (nobody_at n) (filter nobody_at_all d.zones.items) f k in
        let p = in_filter nobody_at_all d.zones.items y.0 y.1 in
        let q = in_filter (is_delegated (seen o)) o.register.zones y.0 (subst (IsIn y.0) are.zones p.0) in
        let none : is_run_by_some all y.0.group ≡ false =
        not-true (is_run_by_some all y.0.group) (sym (nobody_is all numbers runners y.0.group) ∙ p.1) in
        subst (IsTrueFault all) (sym y.2) (o, y.0, number, contained o.register.zones y.0 q.0, refl, (q.1, none)))

    pub more_zones : AreMore all f0 f2
    more_zones = more_trans all f0 f1 f2 more_inside more_nobody

    told_inside : (z : Zone) → Contains o.register.zones z → is_inside (seen o) z ≡ true
        → Contains f2 (inside_at n z)
    told_inside z k e =
        let kept = filter_in (is_inside (seen o)) o.register.zones z (in_contained o.register.zones z k) e in
        let told = map_in (inside_at n) (filter (is_inside (seen o)) o.register.zones) z kept in
        more_nobody.kept (inside_at n z)
        (contained f1 (inside_at n z) (subst (IsIn (inside_at n z)) (sym inside)
        (in_behind f0 (map (inside_at n) (filter (is_inside (seen o)) o.register.zones)) (inside_at n z) told)))

    told_nobody : (z : Zone) → Contains o.register.zones z → is_delegated (seen o) z ≡ true
        → is_run_by_some all z.group ≡ false → Contains f2 (nobody_at n z)
    told_nobody z k e none =
        let delegated = filter_in (is_delegated (seen o)) o.register.zones z (in_contained o.register.zones z k) e in
        let there = subst (IsIn z) (sym are.zones) delegated in
        let kept = filter_in nobody_at_all d.zones.items z there
        (nobody_is all numbers runners z.group ∙ not_from_false (is_run_by_some all z.group) none) in
        let told = map_in (nobody_at n) (filter nobody_at_all d.zones.items) z kept in
        contained f2 (nobody_at n z) (subst (IsIn (nobody_at n z)) (sym nobody)
        (in_behind f1 (map (nobody_at n) (filter nobody_at_all d.zones.items)) (nobody_at n z) told))

    module _ (f3 : List TreeFault) (more : AreMore all f2 f3) (others : ℕ → Bool)
        (is : (m : ℕ) → others m ≡ list_any (runs_one m) d.zones.items) (seams : AreSeamsTold all n others f3) where
      pub more_of_one : AreMore all f0 f3
      more_of_one = more_trans all f0 f2 f3 more_zones more

      pub told_of_one : IsToldOf all n o f3
      told_of_one = record {
        inside = λ z k e. more.kept (inside_at n z) (told_inside z k e);
        not_run = λ z k e none. more.kept (nobody_at n z) (told_nobody z k e none);
        seams = λ m other at meet. seams m (meet_is others is m other at ∙ meet) o other number at;
      }
