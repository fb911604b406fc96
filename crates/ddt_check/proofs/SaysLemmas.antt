-- What an honest server says: a referral to the next zone, or the record of the assignment.
use Rattle.std.proofs.Common.{◌≡◌, ◌≢◌, ℕ, ◌<◌, ◌≤◌, true, List, length, refl, ap, arith}
use Rattle.std.specs.Prelude.{Contains}
use Rattle.std.specs.Option.{option_map_or}
use Rattle.ddt_path.specs.declared.locator.Locator.{Locator}
use Rattle.ddt_path.specs.declared.record.Role.{Role}
use Rattle.ddt_path.specs.declared.action.Action.TheVariants.{NotAuthoritative}
use Rattle.ddt_path.specs.declared.record.Outcome.{Outcome}
use Rattle.ddt_path.specs.Records.{record_of, referral_action, not_authoritative}
use Rattle.ddt_path.specs.Actions.{IsReferral}
use Rattle.ddt_path.specs.Covers.{covers}
use Rattle.ddt_path.specs.Matching.{longest_match}
use Rattle.ddt_path.specs.Locators.{lists}
use Rattle.ddt_path.specs.laws.Cover.{covers_self}
use Rattle.ddt_path.specs.laws.Hole.{hole_covers}
use Rattle.ddt_path.specs.laws.Filter.{filter_in}
use Rattle.ddt_path.specs.laws.Member.{IsIn, contained}
use Rattle.ddt_path.specs.laws.Matching.{best_found}
use Rattle.ddt_path.specs.declared.matches.Preference.TheVariants.{Longest}
use Rattle.ddt_register.specs.declared.zone.Zone.{Zone}
use Rattle.ddt_register.specs.declared.register.Register.{Register}
use Rattle.ddt_check.specs.Zones.{locators_of, served_zones}
use Rattle.ddt_check.specs.Assignment.{assignment, prefixes_in, prefixes_below_site}
use Rattle.ddt_check.specs.Says.{referral_to, says_from, says}
use Rattle.ddt_check.specs.Rules.{IsAccepted}
use Rattle.ddt_check.specs.laws.Statements.{IsFinal, NamesServers, AreServers}
use Rattle.ddt_check.specs.laws.Kept.{servers_of_zone}
use Rattle.ddt_check.specs.laws.Zone.{zone_prefix}
use Rattle.ddt_check.proofs.CaseLemmas.{in_zone, in_site, assigned_cases, next_cases, said_cases}
use Rattle.ddt_check.proofs.RootLemmas.{served_alike}

not_final : (role : Role) → IsFinal (referral_action role) → ⊥
not_final role h = grind arith

in_charge : (role : Role) → referral_action role ≢ NotAuthoritative
in_charge role e = grind arith

outcome_in_charge : (o : Outcome) → (record_of o).action ≢ NotAuthoritative
outcome_in_charge o e = grind arith

outcome_refers_not : (o : Outcome) → IsReferral (record_of o).action → ⊥
outcome_refers_not o h = grind arith

module _ (r : Register) (accepted : IsAccepted r) (x : List ℕ) where
  pub assigned_covers : covers (record_of (assignment r x)).prefix x ≡ true
  assigned_covers = assigned_cases r x (λ o. covers (record_of o).prefix x ≡ true)
      (λ z role here kind. hole_covers z.prefix (prefixes_in r z role) x (in_zone r x z here).1)
      (λ z s here kind at silent. hole_covers s.prefix (prefixes_below_site r s) x (in_site r x s at).1)
      (λ z s here kind at. (in_site r x s at).1) accepted

  assigned_servers : NamesServers (record_of (assignment r x)).action → AreServers (record_of (assignment r x)).servers
  assigned_servers = assigned_cases r x (λ o. NamesServers (record_of o).action → AreServers (record_of o).servers)
      (λ z role here kind h. absurd (grind arith))
      (λ z s here kind at silent h. servers_of_zone r accepted z (in_zone r x z here).0)
      (λ z s here kind at h. servers_of_zone r accepted z (in_zone r x z here).0) accepted

  module _ (l : Locator) where
    pub refers_to_zone : IsReferral (says r l x).action
        → (w : Zone) × Contains r.zones w × (covers w.prefix x ≡ true) × (says r l x ≡ referral_to r w)
    refers_to_zone = said_cases r x
        (λ v. IsReferral v.action → (w : Zone) × Contains r.zones w × (covers w.prefix x ≡ true) × (v ≡ referral_to r w))
        (λ h. absurd (outcome_refers_not (assignment r x) h)) l (λ h. absurd (grind arith))
        (λ w k c h. (w, contained r.zones w k, c, refl))

    pub ends_with_assignment : IsFinal (says r l x).action → says r l x ≡ record_of (assignment r x)
    ends_with_assignment = said_cases r x (λ v. IsFinal v.action → v ≡ record_of (assignment r x)) (λ h. refl) l
        (λ h. absurd (grind arith)) (λ w k c h. absurd (not_final w.kind h))

    pub says_what_covers : covers (says r l x).prefix x ≡ true
    says_what_covers = said_cases r x (λ v. covers v.prefix x ≡ true) assigned_covers l (covers_self x) (λ w k c. c)

    pub says_servers : NamesServers (says r l x).action → AreServers (says r l x).servers
    says_servers = said_cases r x (λ v. NamesServers v.action → AreServers v.servers) assigned_servers l
        (λ h. absurd (grind arith)) (λ w k c h. servers_of_zone r accepted w k)

    -- a server of a zone that covers the identifier
    pub goes_down : (z : Zone) → IsIn z r.zones → covers z.prefix x ≡ true → lists (locators_of r z.group) l ≡ true
        → ((says r l x).action ≢ NotAuthoritative) × (IsReferral (says r l x).action → length z.prefix < length (says r l x).prefix)
    goes_down z k c here =
        let found = best_found Longest zone_prefix x (served_zones r l) z
        (filter_in (λ (y : Zone). lists (locators_of r y.group) l) r.zones z k here) c in
        let le : length z.prefix ≤ length found.0.prefix = found.2 in
        rw found.1 (next_cases r x
        (λ v. (v.action ≢ NotAuthoritative) × (IsReferral v.action → length z.prefix < length v.prefix))
        (outcome_in_charge (assignment r x), λ h. absurd (outcome_refers_not (assignment r x) h))
        (length found.0.prefix) (λ w j d lt. (in_charge w.kind, λ h. omega arith)))

  pub say_alike : (name : List ℕ) (l k : Locator) → lists (locators_of r name) l ≡ true
      → lists (locators_of r name) k ≡ true → says r l x ≡ says r k x
  say_alike name l k here there = ap (λ (zones : List Zone). option_map_or (λ z. says_from r z x)
      (longest_match zone_prefix zones x) (not_authoritative x)) (served_alike r accepted name l k here there)
