-- A server that says of an identifier that it is registered is one of those of its assignment.
use Rattle.std.proofs.Common.{◌≡◌, ℕ, ◌==◌, Bool, true, false, cond, List, length, Option, Some, None, refl, sym, ◌∙◌}
use Rattle.std.specs.Option.{option_map_or}
use Rattle.ddt_path.specs.declared.locator.Locator.{Locator}
use Rattle.ddt_path.specs.declared.action.Action.TheVariants.{MsAck}
use Rattle.ddt_path.specs.declared.record.Role.{Role}
use Rattle.ddt_path.specs.declared.record.Role.TheVariants.{Node, Ms}
use Rattle.ddt_path.specs.declared.record.Outcome.TheVariants.{Registered, NotRegistered, Hole}
use Rattle.ddt_path.specs.Covers.{covers}
use Rattle.ddt_path.specs.Free.{hole_of}
use Rattle.ddt_path.specs.Records.{record_of, referral_action, not_authoritative}
use Rattle.ddt_path.specs.Locators.{lists}
use Rattle.ddt_path.specs.Matching.{longest_match}
use Rattle.ddt_path.specs.declared.matches.Preference.TheVariants.{Longest}
use Rattle.ddt_path.specs.laws.Filter.{in_filter}
use Rattle.ddt_path.specs.laws.Matching.{best_member}
use Rattle.ddt_path.specs.laws.Member.{IsIn}
use Rattle.ddt_register.specs.declared.zone.Zone.{Zone}
use Rattle.ddt_register.specs.declared.site.Site.{Site}
use Rattle.ddt_register.specs.declared.register.Register.{Register}
use Rattle.ddt_check.specs.Rules.{IsAccepted}
use Rattle.ddt_check.specs.Zones.{locators_of, served_zones, site_of}
use Rattle.ddt_check.specs.Assignment.{assignment, assigned_in, assigned_site, part_of_site, prefixes_in}
use Rattle.ddt_check.specs.Says.{says, says_from, next_zone, referral_to}
use Rattle.ddt_check.specs.laws.Next.{assigned_here}
use Rattle.ddt_check.specs.laws.Zone.{zone_prefix}

-- what the register assigns to an identifier is registered, and this is one of the servers
pub record IsAssignedBy (r : Register) (x p : List ℕ) (servers : List Locator) (by_ : Locator) : Type 0 where
  pub registered : assignment r x ≡ Registered p servers
  pub among_them : lists servers by_ ≡ true

no_referral : (role : Role) → referral_action role ≡ MsAck → ⊥
no_referral Node e = cc e
no_referral Ms e = cc e

module _ (r : Register) (x q : List ℕ) (servers : List Locator) where
  -- what is registered in a zone has the servers of the zone
  module _ (z : Zone) where
    by_etrs : (none : Bool) (part own : List ℕ) → cond none (NotRegistered part (locators_of r z.group)) (Registered own (locators_of r z.group)) ≡ Registered q servers
        → servers ≡ locators_of r z.group
    by_etrs true part own is = absurd (cc is)
    by_etrs false part own is = cc is

    by_site : (hole : List ℕ) (found : Option Site) → option_map_or (λ s. assigned_site r z s x) found (Hole hole) ≡ Registered q servers → servers ≡ locators_of r z.group
    by_site hole None is = absurd (cc is)
    by_site hole (Some s) is = by_etrs (length s.etrs == 0) (part_of_site r s x) s.prefix is

    in_zone : (role : Role) → assigned_in r z role x ≡ Registered q servers → servers ≡ locators_of r z.group
    in_zone Node is = absurd (cc is)
    in_zone Ms is = by_site (hole_of z.prefix (prefixes_in r z Ms) x) (site_of r x) is

  module _ (accepted : IsAccepted r) (l : Locator) (is : assignment r x ≡ Registered q servers) where
    of_zone : (z : Zone) → IsIn z (served_zones r l) → covers z.prefix x ≡ true → (next : Option Zone) → next_zone r (length z.prefix) x ≡ next
        → (option_map_or (referral_to r) next (record_of (assignment r x))).action ≡ MsAck → lists servers l ≡ true
    of_zone z here covered (Some c) e acts = absurd (no_referral c.kind acts)
    of_zone z here covered None e acts =
        let both = in_filter (λ (y : Zone). lists (locators_of r y.group) l) r.zones z here in
        rw (in_zone z z.kind (sym (assigned_here r accepted z x both.0 covered e) ∙ is)) both.1

    of_longest : (found : Option Zone) → longest_match zone_prefix (served_zones r l) x ≡ found
        → (option_map_or (λ z. says_from r z x) found (not_authoritative x)).action ≡ MsAck → lists servers l ≡ true
    of_longest None e acts = absurd (cc acts)
    of_longest (Some z) e acts =
        let p = best_member Longest zone_prefix x (served_zones r l) z e in
        of_zone z p.0 p.1 (next_zone r (length z.prefix) x) refl acts

    pub acks_own : (says r l x).action ≡ MsAck → lists servers l ≡ true
    acks_own = of_longest (longest_match zone_prefix (served_zones r l) x) refl
