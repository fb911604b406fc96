-- A referral across a good seam: the other organisation runs a zone of the same prefix, at the servers that are named.
use Rattle.std.proofs.Common.{◌≡◌, Bool, true, false, cond, [], Option, Some, None, refl, sym, ap, subst, ◌∙◌, inl, inr}
use Rattle.std.specs.Prelude.{not, is_some, ◌&&◌}
use Rattle.std.specs.List.{filter, list_any, list_all}
use Rattle.std.specs.Option.{option_map}
use Rattle.std.proofs.lemmas.Bool.{false≢true, both_ways, and_parts}
use Rattle.ddt_path.specs.Covers.{is_same_path}
use Rattle.ddt_path.specs.laws.Cover.{same_path, path_itself}
use Rattle.ddt_path.specs.laws.Filter.{in_filter, filter_in}
use Rattle.ddt_path.specs.laws.Member.{IsIn, contained, holds_at, any_in, in_map, map_in}
use Rattle.ddt_register.specs.declared.zone.Zone.{Zone}
use Rattle.ddt_register.specs.declared.group.Group.{Group}
use Rattle.ddt_register.specs.declared.register.Register.{Register}
use Rattle.ddt_check.specs.Rules.{IsAccepted}
use Rattle.ddt_check.specs.Zones.{group_named, locators_of, is_served_by, is_same_role}
use Rattle.ddt_check.specs.laws.Kept.{group_of_zone}
use Rattle.ddt_check.specs.laws.Served.{locators_of_zone}
use Rattle.ddt_check.specs.laws.Statements.{EachIdentifierHasOneZone, EachZoneHasServers, EachLocatorIsOfOneGroup, TheRootIsServed, ServersReferDownwards, ReferralsAreToZones, FinalAnswersAreTheAssignment}
use Rattle.ddt_config.specs.declared.authority.Authority.{Authority}
use Rattle.ddt_config.specs.Table.{Outline}
use Rattle.ddt_compile.specs.GroupConfig.{group_config, config_named, authority_of}
use Rattle.ddt_compile.specs.laws.Statements.{AnswersHonestly}
use Rattle.ddt_plan.specs.declared.groups.GroupChangeKind.TheVariants.{Changed}
use Rattle.ddt_plan.specs.Changes.{are_same_servers}
use Rattle.ddt_plan.specs.Groups.{are_alike, is_same_authority, is_same_content, is_same_config, change_of_config}
use Rattle.ddt_organisations.specs.Seam.Laws.{SidesAnswerAsJoined, GoodSeamsAreRun}
use Rattle.ddt_organisations.specs.Seam.Seam.{is_run_from}
use Rattle.ddt_organisations.specs.Tree.{Organisation, HaveGoodSeam}
use Rattle.ddt_organisations.proofs.GroupLemmas.{named, is_group, config_is, zone_there, group_there}

-- what the laws of an accepted register promise
pub record RegisterLaws (r : Register) : Type 0 where
  pub one_zone : EachIdentifierHasOneZone r
  pub root : TheRootIsServed r
  pub one_group : EachLocatorIsOfOneGroup r
  pub served : EachZoneHasServers r
  pub downwards : ServersReferDownwards r
  pub to_zones : ReferralsAreToZones r
  pub decided : FinalAnswersAreTheAssignment r

-- what is known of all registers, and of two
pub record AllLaws : Type 0 where
  pub register : (r : Register) → IsAccepted r → RegisterLaws r
  pub honest : AnswersHonestly
  pub sides : SidesAnswerAsJoined
  pub run : GoodSeamsAreRun

-- ---- a zone of a configuration that doesn't change

both_alike : (c d : Outline) (b : Bool) → is_same_config c d ≡ b
    → not (is_some (cond b None (Some Changed))) ≡ true → is_same_config c d ≡ true
both_alike c d true e unchanged = e
both_alike c d false e unchanged = absurd (false≢true unchanged)

module _ (side joined : Register) (accepted : IsAccepted joined) (g : Group) (k : IsIn g joined.groups) (c : Outline)
    (compiled : config_named side g.name ≡ Some c) (run : is_run_from side joined g ≡ true) where
  found : group_named joined g.name ≡ Some g
  found = group_of_zone joined accepted g (record { prefix = []; kind = g.kind; group = g.name; row = 0 }) k
      (path_itself g.name g.name refl)

  alike : is_same_config c (group_config joined g) ≡ true
  alike = both_alike c (group_config joined g) (is_same_config c (group_config joined g)) refl (
      subst (λ (b : Option Outline). not (is_some (change_of_config b (Some (group_config joined g)))) ≡ true) compiled
      (subst (λ (f : Option Group). not (is_some (change_of_config (config_named side g.name) (option_map (group_config joined) f))) ≡ true)
      found run))

  authorities : list_all (λ (b : Authority). list_any (λ (a : Authority). is_same_authority a b) c.authorities)
      (group_config joined g).authorities ≡ true
  authorities =
      let d = group_config joined g in
      let p = and_parts (is_same_role c.role d.role)
      (are_same_servers c.locators d.locators && are_alike is_same_authority c.authorities d.authorities) alike in
      let q = and_parts (are_same_servers c.locators d.locators) (are_alike is_same_authority c.authorities d.authorities) p.1 in
      (and_parts (list_all (λ (a : Authority). list_any (λ (b : Authority). is_same_authority a b) d.authorities) c.authorities)
      _ q.1).1

  -- the side's own group of that name, with its locators and its zones
  module _ (h : Group) (is : c ≡ group_config side h) (z : Zone) (j : IsIn z joined.zones)
      (served : is_served_by g z ≡ true) where
    pub zone_of_side : (y : Zone) × IsIn y side.zones × (y.prefix ≡ z.prefix) × (is_served_by h y ≡ true)
    zone_of_side =
        let there = map_in (authority_of joined) (filter (is_served_by g) joined.zones) z
        (filter_in (is_served_by g) joined.zones z j served) in
        let any = any_in (λ (a : Authority). is_same_authority a (authority_of joined z)) c.authorities
        (holds_at (λ (b : Authority). list_any (λ (a : Authority). is_same_authority a b) c.authorities)
        (group_config joined g).authorities (authority_of joined z) authorities there) in
        let own = in_map (authority_of side) (filter (is_served_by h) side.zones) any.0
        (subst (λ (o : Outline). IsIn any.0 o.authorities) is any.1) in
        let kept = in_filter (is_served_by h) side.zones own.0 own.1 in
        let same = and_parts (is_same_path any.0.prefix z.prefix)
        (is_same_content any.0.content (authority_of joined z).content) any.2 in (
          own.0,
          kept.0,
          ap (λ (a : Authority). a.prefix) (sym own.2) ∙ same_path any.0.prefix z.prefix same.0,
          kept.1,
        )

-- ---- across a seam

module _ (laws : AllLaws) (o other : Organisation) (ours : IsAccepted o.register) (theirs : IsAccepted other.register)
    (seam : HaveGoodSeam o other) (z : Zone) (k : IsIn z o.register.zones) (theirs_run : other.runs z.group ≡ true) where
  there : (y : Zone) × IsIn y seam.joined.zones × (y.prefix ≡ z.prefix) × (y.group ≡ z.group)
  there = zone_there o.register other.register seam.joined seam.is_joined z k

  -- the zone's group by our register, and by the joined one
  of_ours : (g : Group) × (group_named o.register z.group ≡ Some g) × (locators_of o.register z.group ≡ g.locators)
  of_ours =
      let g = (laws.register o.register ours).served z (contained o.register.zones z k) in
      (g.0, g.1.its_group, g.1.its_servers)

  of_joined : (h : Group) × IsIn h seam.joined.groups × (h.name ≡ of_ours.0.name) × (h.locators ≡ of_ours.0.locators)
  of_joined = group_there o.register other.register seam.joined seam.is_joined of_ours.0
      (is_group o.register z.group of_ours.0 of_ours.1)

  joined_name : of_joined.0.name ≡ z.group
  joined_name = of_joined.2 ∙ named o.register z.group of_ours.0 of_ours.1

  served_there : is_served_by of_joined.0 there.0 ≡ true
  served_there = path_itself of_joined.0.name there.0.group (joined_name ∙ sym there.3)

  -- their register has the configuration of that group
  compiled : (c : Outline) × (config_named other.register of_joined.0.name ≡ Some c)
      × (is_run_from other.register seam.joined of_joined.0 ≡ true)
  compiled =
      let r = laws.run other.runs o.register other.register seam.joined of_joined.0 seam.is_accepted seam.is_good
      (contained seam.joined.groups of_joined.0 of_joined.1) in
      let side : r.0 ≡ other.register = elim r.1 [
        | inl same ↦ same
        | inr p ↦ absurd (both_ways (other.runs of_joined.0.name) p.1 (ap other.runs joined_name ∙ theirs_run))
      ] in (
        r.3,
        subst (λ (s : Register). config_named s of_joined.0.name ≡ Some r.3) side r.4,
        subst (λ (s : Register). is_run_from s seam.joined of_joined.0 ≡ true) side r.2,
      )

  of_theirs : (g : Group) × (group_named other.register of_joined.0.name ≡ Some g)
      × (compiled.0 ≡ group_config other.register g)
  of_theirs = config_is other.register of_joined.0.name compiled.0 compiled.1

  same_locators : locators_of o.register z.group ≡ of_theirs.0.locators
  same_locators =
      of_ours.2
      ∙ sym of_joined.3
      ∙ sym (laws.sides other.register seam.joined of_joined.0 compiled.0 theirs seam.is_accepted
      (contained seam.joined.groups of_joined.0 of_joined.1) compiled.2 compiled.1).1
      ∙ ap (λ (c : Outline). c.locators) of_theirs.2

  -- a zone that the other organisation runs, of the same prefix, at the same servers
  pub across : (y : Zone) × IsIn y other.register.zones × (y.prefix ≡ z.prefix) × (other.runs y.group ≡ true)
      × (locators_of o.register z.group ≡ locators_of other.register y.group)
  across =
      let y = zone_of_side other.register seam.joined seam.is_accepted of_joined.0 of_joined.1 compiled.0 compiled.1
      compiled.2 of_theirs.0 of_theirs.2 there.0 there.1 served_there in
      let g_in = is_group other.register of_joined.0.name of_theirs.0 of_theirs.1 in
      let g_name : of_theirs.0.name ≡ z.group =
      named other.register of_joined.0.name of_theirs.0 of_theirs.1 ∙ joined_name in
      let name_is : of_theirs.0.name ≡ y.0.group = same_path of_theirs.0.name y.0.group y.3 in (
        y.0,
        y.1,
        y.2 ∙ there.2,
        ap other.runs (sym name_is ∙ g_name) ∙ theirs_run,
        same_locators ∙ sym (locators_of_zone other.register theirs of_theirs.0 y.0 g_in y.3),
      )
