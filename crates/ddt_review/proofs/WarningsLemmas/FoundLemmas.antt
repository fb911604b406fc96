-- What is found of an item, by what it has.
use Rattle.std.proofs.Common.{◌≡◌, ℕ, zero, suc, Bool, true, false, ◌+◌, ◌<◌, List, [], ◌∷◌, length, get_or, take, find, arith, Option, Some, None, refl, sym, ◌∙◌, subst}
use Rattle.std.specs.Prelude.{◌&&◌, is_some, IfSome}
use Rattle.std.specs.Fn.{FnReturnsAt}
use denote.Ref.{Bor}
use denote.Param.Members.{Shared}
use Rattle.std.specs.List.{list_any}
use Rattle.std.specs.Bool.{then_some}
use Rattle.std.proofs.lemmas.Bool.{or_from, or_parts, and_parts, and_from, both_ways, false≢true, false_from_ne_true}
use Rattle.std.proofs.lemmas.List.Folds.{list_any_more}
use Rattle.std.proofs.lemmas.List.Elements.{Contains-get_or}
use Rattle.ddt_path.specs.declared.locator.Locator.{Locator}
use Rattle.ddt_path.specs.Covers.{covers}
use Rattle.ddt_path.specs.declared.matches.Preference.TheVariants.{Longest}
use Rattle.ddt_path.specs.laws.Member.{none_of, in_any, any_in, iff_same, contained, in_contained}
use Rattle.ddt_path.specs.laws.Matching.{best_member, best_there}
use Rattle.ddt_register.specs.declared.site.Site.{Site}
use Rattle.ddt_register.specs.declared.register.Register.{Register}
use Rattle.ddt_check.specs.Zones.{site_of}
use Rattle.ddt_check.specs.laws.Zone.{site_prefix}
use Rattle.ddt_review.specs.declared.warnings.kind.Kind.{Kind}
use Rattle.ddt_review.specs.declared.warnings.warning.Finding.{Finding}
use Rattle.ddt_review.specs.Warnings.Found.{IsWarningFound, IsFoundFirst, AreNeighbours, HasNone}
use Rattle.ddt_review.specs.Warnings.Findings.{kind_of}
use Rattle.ddt_review.specs.Warnings.Warnings.{is_next, is_in_other_region, are_near, is_odd}

-- a finding that is told if a test holds
pub found_then : (has b : Bool) (kind : Kind) (f : Finding) (result : Option Finding) → result ≡ then_some b f
    → kind_of f ≡ kind → b ≡ has → IsWarningFound has kind result
found_then has true kind f result is same e = subst (IsWarningFound has kind) (sym is) (sym e, same)
found_then has false kind f result is same e = subst (IsWarningFound has kind) (sym is) (sym e)

-- what is found at one locator of a list is found of the list
pub first_is : (has : Locator → Bool) (kind : Kind) (ls : List Locator) (i : ℕ) (d : Locator) (found : Option Finding)
    → i < length ls → IsWarningFound (has (get_or ls i d)) kind found → is_some found ≡ true → IsWarningFound (list_any has ls) kind found
first_is has kind ls i d None lt here some = absurd (false≢true some)
first_is has kind ls i d (Some f) lt here some = (
  in_any has ls (get_or ls i d) (in_contained ls (get_or ls i d) (Contains-get_or ls i d lt)) here.0,
  here.1,
)

none_here : (has : Bool) (kind : Kind) (found : Option Finding) → IsWarningFound has kind found → is_some found ≡ false → has ≡ false
none_here has kind None here none = here
none_here has kind (Some f) here none = absurd (false≢true (sym none))

pub none_more : (has : Locator → Bool) (kind : Kind) (ls : List Locator) (i : ℕ) (d : Locator) (found : Option Finding)
    → i < length ls → IsWarningFound (has (get_or ls i d)) kind found → is_some found ≡ false
    → list_any has (take i ls) ≡ false → list_any has (take (i + 1) ls) ≡ false
none_more has kind ls i d found lt here none before =
    list_any_more has ls i d lt ∙ or_from (list_any has (take i ls)) (has (get_or ls i d)) before
    (none_here (has (get_or ls i d)) kind found here none)

-- what is found at the first locator that has it
find_first : (has : Locator → Bool) (ls : List Locator) (i : ℕ) (d : Locator) → i < length ls
    → list_any has (take i ls) ≡ false → has (get_or ls i d) ≡ true → find has ls ≡ Some (get_or ls i d)
find_first has [] i d lt none here = absurd (omega arith)
find_first has (l ∷ ls) zero d lt none here = rw here refl
find_first has (l ∷ ls) (suc i) d lt none here =
    let p = or_parts (has l) (list_any has (take i ls)) none in
    rw p.0 (find_first has ls i d (omega arith) p.1 here)

module _ {F : Type 0} (calls : Shared F (Bor Locator × Unit {0}) (Option Finding)) (f : F) (has : Locator → Bool)
    (ls : List Locator) where
  pub first_at : (kind : Kind) (i : ℕ) (d : Locator) (found : Option Finding) → i < length ls
      → FnReturnsAt calls f (get_or ls i d) found → IsWarningFound (has (get_or ls i d)) kind found
      → list_any has (take i ls) ≡ false → IfSome found (IsFoundFirst calls f has ls)
  first_at kind i d None lt says here none = tt
  first_at kind i d (Some w) lt says here none = (get_or ls i d, find_first has ls i d lt none here.0, says)

  -- a fact of each finding at that locator
  pub first_so : (P : Finding → Type 0) (found : Option Finding) → IfSome found (IsFoundFirst calls f has ls)
      → ((l : Locator) (w : Finding) → find has ls ≡ Some l → FnReturnsAt calls f l (Some w) → P w) → IfSome found P
  first_so P None first so = tt
  first_so P (Some w) first so = so first.0 w first.1 first.2

-- a site covers a path if and only if one is found
pub covered_none : (r : Register) (x : List ℕ) → site_of r x ≡ None → list_any (λ s. covers s.prefix x) r.sites ≡ false
covered_none r x e = none_of (λ (s : Site). covers s.prefix x) r.sites (λ s k. false_from_ne_true (covers s.prefix x) (λ c.
    best_there Longest site_prefix x r.sites s e k c))

pub covered_some : (r : Register) (x : List ℕ) (s : Site) → site_of r x ≡ Some s → list_any (λ t. covers t.prefix x) r.sites ≡ true
covered_some r x s e =
    let m = best_member Longest site_prefix x r.sites s e in
    in_any (λ (t : Site). covers t.prefix x) r.sites s m.0 m.1

-- ---- a site and its neighbours

module _ (r : Register) (s : Site) where
  abbrev is_other : Site → Site → Bool
  is_other a b = are_near r s a b && is_odd r s a b

  abbrev behind_other : Site → Site → Bool
  behind_other a b = is_next r s b && is_other a b

  pub no_region : HasNone r s → is_in_other_region r s ≡ false
  no_region none = none_of (λ (a : Site). is_next r a s && list_any (behind_other a) r.sites) r.sites (λ a j.
      false_from_ne_true (is_next r a s && list_any (behind_other a) r.sites) (λ e.
      let p = and_parts (is_next r a s) (list_any (behind_other a) r.sites) e in
      let b = any_in (behind_other a) r.sites p.1 in
      let q = and_parts (is_next r s b.0) (is_other a b.0) b.2 in
      both_ways (is_next r a s && is_next r s b.0) (none a b.0 (contained r.sites a j) (contained r.sites b.0 b.1))
      (and_from (is_next r a s) (is_next r s b.0) p.0 q.0)))

  pub region_is : (a b : Site) → AreNeighbours r s a b → is_other a b ≡ is_in_other_region r s
  region_is a b beside =
      iff_same (is_other a b) (is_in_other_region r s)
      (λ e. in_any (λ (y : Site). is_next r y s && list_any (behind_other y) r.sites) r.sites a
      (in_contained r.sites a beside.before_in)
      (and_from (is_next r a s) (list_any (behind_other a) r.sites) beside.before
      (in_any (behind_other a) r.sites b (in_contained r.sites b beside.behind_in)
      (and_from (is_next r s b) (is_other a b) beside.behind e))))
      (λ e.
      let f = any_in (λ (y : Site). is_next r y s && list_any (behind_other y) r.sites) r.sites e in
      let p = and_parts (is_next r f.0 s) (list_any (behind_other f.0) r.sites) f.2 in
      let g = any_in (behind_other f.0) r.sites p.1 in
      let q = and_parts (is_next r s g.0) (is_other f.0 g.0) g.2 in
      subst (λ (y : Site). is_other y b ≡ true) (beside.one_before f.0 (contained r.sites f.0 f.1) p.0)
      (subst (λ (y : Site). is_other f.0 y ≡ true) (beside.one_behind g.0 (contained r.sites g.0 g.1) q.0) q.1))
