-- Whose register is in charge, asked from one organisation after another.
use Rattle.std.proofs.Common.{◌≡◌, ℕ, ◌-◌, ◌<◌, ◌≤◌, true, false, List, [], ◌∷◌, length, map, Option, Some, None, refl, sym, subst, ◌∙◌, arith}
use Rattle.std.specs.Prelude.{Contains, IfSome, IfNone, slice_get}
use Rattle.std.proofs.lemmas.Bool.{both_ways}
use Rattle.std.proofs.lemmas.Option.{same_Some, none-some}
use Rattle.ddt_path.specs.laws.Cover.{length-covered}
use Rattle.ddt_path.specs.laws.Member.{in_get, in_map, in_any, contained, in_contained, map_in}
use Rattle.ddt_register.specs.declared.zone.Zone.{Zone}
use Rattle.ddt_check.specs.Zones.{zone_of}
use Rattle.ddt_organisations.specs.declared.organisation as code
use Rattle.ddt_organisations.specs.Tree.{Organisation}
use Rattle.ddt_organisations.specs.Charge as charge
use Rattle.ddt_organisations.specs.Charge.{IsInCharge, IsOwn}
use Rattle.ddt_organisations.specs.Laws.{TreesHandOn}
use Rattle.ddt_organisations.specs.Meets.{seen, is_run_by_some}
use Rattle.ddt_organisations.specs.Found.{IsNumber}
use Rattle.ddt_organisations.specs.Faults.{MakeTree}
use Rattle.ddt_organisations.specs.Asked.{IsInChargeAt, IsRunner, LeadsNowhere}

module _ (all : List code.Organisation.Organisation) (x : List ℕ) (n : ℕ) (o : code.Organisation.Organisation)
    (is : IsNumber all n o) (z : Zone) (its : zone_of o.register x ≡ Some z) where
  pub by_itself : (seen o).runs z.group ≡ true → IsInChargeAt all x n n
  by_itself runs = (o, o, is, is, charge.itself z its runs)

  pub by_another : (m last : ℕ) → (seen o).runs z.group ≡ false → IsRunner all z.group m
      → IsInChargeAt all x m last → IsInChargeAt all x n last
  by_another m last not next more =
      let k = contained (map seen all) (seen next.0) (map_in seen all next.0 (in_get all m next.0 next.1)) in
      let one : next.0 ≡ more.0 = same_Some next.0 more.0 (sym next.1 ∙ more.2) in (
        o,
        more.1,
        is,
        more.3,
        charge.another z (seen next.0) its not k next.2
            (subst (λ (c : code.Organisation.Organisation). IsInCharge (map seen all) x (seen c) (seen more.1)) (sym one)
            more.4),
      )

  pub handed_on : (m : ℕ) → (seen o).runs z.group ≡ false → IsRunner all z.group m → (found : Option ℕ)
      → IfSome found (IsInChargeAt all x m) → IfSome found (IsInChargeAt all x n)
  handed_on m not next None more = more
  handed_on m not next (Some last) more = by_another m last not next more

-- ---- nobody

pub if_none : {A P : Type 0} (found : Option A) → P → IfNone found P
if_none None holds = holds
if_none (Some x) holds = tt

pub not_there : (all : List code.Organisation.Organisation) (x : List ℕ) (n hops : ℕ) → slice_get all n ≡ None
    → LeadsNowhere all x n hops
not_there all x n hops none top o z tree is own lt = absurd (none-some o (sym none ∙ is))

is_one : (all : List code.Organisation.Organisation) (n : ℕ) (o : code.Organisation.Organisation) → IsNumber all n o
    → Contains (map seen all) (seen o)
is_one all n o is = contained (map seen all) (seen o) (map_in seen all o (in_get all n o is))

module _ (laws : TreesHandOn) (all : List code.Organisation.Organisation) (x : List ℕ) (n hops : ℕ)
    (o : code.Organisation.Organisation) (is : IsNumber all n o) where
  same_one : (p : code.Organisation.Organisation) → IsNumber all n p → p ≡ o
  same_one p at = same_Some p o (sym at ∙ is)

  pub no_zone : zone_of o.register x ≡ None → LeadsNowhere all x n hops
  no_zone none top p z tree at own lt =
      let v = (laws top (map seen all) x tree).longest (seen o) (is_one all n o is) in
      absurd (none-some v.0 (sym none ∙ v.1))

  module _ (v : Zone) (its : zone_of o.register x ≡ Some v) (not : (seen o).runs v.group ≡ false) where
    its_own : (p : code.Organisation.Organisation) (z : Zone) → IsNumber all n p → IsOwn (seen p) x z
        → IsOwn (seen o) x z
    its_own p z at own = subst (λ (c : code.Organisation.Organisation). IsOwn (seen c) x z) (same_one p at) own

    pub no_hops : hops ≡ 0 → LeadsNowhere all x n hops
    no_hops none top p z tree at own lt =
        let on = laws top (map seen all) x tree in
        let mine = its_own p z at own in
        let some = on.somebody (seen o) z v (is_one all n o is) mine its not in
        let y = on.longer (seen o) some.0 z v (is_one all n o is) some.1 mine its not some.2 in
        let le = length-covered y.0.prefix x y.1.covers_it in
        let longer = y.2 in
        omega arith

    pub nobody_runs : is_run_by_some all v.group ≡ false → LeadsNowhere all x n hops
    nobody_runs none top p z tree at own lt =
        let some = (laws top (map seen all) x tree).somebody (seen o) z v (is_one all n o is) (its_own p z at own) its not in
        let c = in_map seen all some.0 (in_contained (map seen all) some.0 some.1) in
        both_ways (is_run_by_some all v.group) none
        (in_any (λ (q : code.Organisation.Organisation). (seen q).runs v.group) all c.0 c.1
        (subst (λ (q : Organisation). q.runs v.group ≡ true) c.2 some.2))

    pub nowhere_on : (m : ℕ) → IsRunner all v.group m → 0 < hops → LeadsNowhere all x m (hops - 1)
        → LeadsNowhere all x n hops
    nowhere_on m next positive more top p z tree at own lt =
        let y = (laws top (map seen all) x tree).longer (seen o) (seen next.0) z v (is_one all n o is)
        (is_one all m next.0 next.1) (its_own p z at own) its not next.2 in
        let longer = y.2 in
        more top next.0 y.0 tree next.1 y.1 (omega arith)

    pub nowhere_if : (m : ℕ) → IsRunner all v.group m → 0 < hops → (found : Option ℕ)
        → IfNone found (LeadsNowhere all x m (hops - 1)) → IfNone found (LeadsNowhere all x n hops)
    nowhere_if m next positive None more = nowhere_on m next positive more
    nowhere_if m next positive (Some last) more = more

nowhere : TreesHandOn → (all : List code.Organisation.Organisation) (x : List ℕ) → length x ≤ 161
    → LeadsNowhere all x 0 162 → MakeTree all → ⊥
nowhere laws [] x few leads tree = tree
nowhere laws (top ∷ others) x few leads tree =
    let z = (laws (seen top) (map seen (top ∷ others)) x tree).root in
    leads (seen top) top z.0 tree refl z.1 (omega arith)

pub nowhere_from : TreesHandOn → (all : List code.Organisation.Organisation) (x : List ℕ) → length x ≤ 161
    → (found : Option ℕ) → IfNone found (LeadsNowhere all x 0 162) → IfNone found (MakeTree all → ⊥)
nowhere_from laws all x few None leads = nowhere laws all x few leads
nowhere_from laws all x few (Some last) leads = leads
