-- What a server that isn't unaware of an identifier says of it, by the zones of its register.
use Rattle.std.proofs.Common.{◌≡◌, ◌≢◌, ℕ, true, List, length, Option, Some, None, refl, sym, ap, subst, ◌∙◌, inl, inr}
use Rattle.std.specs.Option.{option_map_or}
use Rattle.ddt_path.specs.declared.action.Action.TheVariants.{NotAuthoritative}
use Rattle.ddt_path.specs.declared.locator.Locator.{Locator}
use Rattle.ddt_path.specs.declared.matches.Preference.TheVariants.{Longest}
use Rattle.ddt_path.specs.declared.record.Role.{Role}
use Rattle.ddt_path.specs.declared.record.Role.TheVariants.{Node, Ms}
use Rattle.ddt_path.specs.declared.record.ReferralRecord.{ReferralRecord}
use Rattle.ddt_path.specs.Actions.{IsReferral}
use Rattle.ddt_path.specs.Covers.{covers}
use Rattle.ddt_path.specs.Locators.{lists}
use Rattle.ddt_path.specs.Matching.{longest_match}
use Rattle.ddt_path.specs.Records.{record_of, referral_action, not_authoritative}
use Rattle.ddt_path.specs.laws.Filter.{in_filter}
use Rattle.ddt_path.specs.laws.Matching.{best_member}
use Rattle.ddt_path.specs.laws.Member.{IsIn}
use Rattle.ddt_register.specs.declared.zone.Zone.{Zone}
use Rattle.ddt_register.specs.declared.register.Register.{Register}
use Rattle.ddt_check.specs.Assignment.{assignment}
use Rattle.ddt_check.specs.Rules.{IsAccepted}
use Rattle.ddt_check.specs.Says.{says, says_from, next_zone, referral_to}
use Rattle.ddt_check.specs.Zones.{zone_of, locators_of, served_zones}
use Rattle.ddt_check.specs.laws.Next.{zone_is}
use Rattle.ddt_check.specs.laws.Zone.{zone_prefix}

refers : (role : Role) → IsReferral (referral_action role)
refers Node = inl refl
refers Ms = inr refl

module _ (r : Register) (l : Locator) (x : List ℕ) where
  -- a zone of the server that covers the identifier, from which it answers
  pub record IsFrom (z : Zone) : Type 0 where
    pub is_zone : IsIn z r.zones
    pub covers_it : covers z.prefix x ≡ true
    pub its_server : lists (locators_of r z.group) l ≡ true
    pub says_it : says r l x ≡ says_from r z x

  from_case : (found : Option Zone) → longest_match zone_prefix (served_zones r l) x ≡ found
      → ((says r l x).action ≢ NotAuthoritative) → (z : Zone) × IsFrom z
  from_case None e aware =
      absurd (aware (ap (λ (f : Option Zone). (option_map_or (λ (z : Zone). says_from r z x) f (not_authoritative x)).action) e))
  from_case (Some z) e aware =
      let m = best_member Longest zone_prefix x (served_zones r l) z e in
      let k = in_filter (λ (y : Zone). lists (locators_of r y.group) l) r.zones z m.0 in (
        z,
        record {
          is_zone = k.0;
          covers_it = m.1;
          its_server = k.1;
          says_it = ap (λ (f : Option Zone). option_map_or (λ (y : Zone). says_from r y x) f (not_authoritative x)) e;
        },
      )

  pub from_zone : ((says r l x).action ≢ NotAuthoritative) → (z : Zone) × IsFrom z
  from_zone aware = from_case (longest_match zone_prefix (served_zones r l) x) refl aware

  final_case : (z : Zone) → IsFrom z → IsAccepted r → ¬ IsReferral (says r l x).action → (next : Option Zone)
      → next_zone r (length z.prefix) x ≡ next → zone_of r x ≡ Some z
  final_case z from accepted final None e = zone_is r accepted z x from.is_zone from.covers_it e
  final_case z from accepted final (Some c) e =
      let said : says r l x ≡ referral_to r c =
      from.says_it ∙ ap (λ (f : Option Zone). option_map_or (referral_to r) f (record_of (assignment r x))) e in
      absurd (final (subst (λ (v : ReferralRecord). IsReferral v.action) (sym said) (refers c.kind)))

  -- where it doesn't refer, that is the identifier's own zone
  pub final_zone : (z : Zone) → IsFrom z → IsAccepted r → ¬ IsReferral (says r l x).action → zone_of r x ≡ Some z
  final_zone z from accepted final = final_case z from accepted final (next_zone r (length z.prefix) x) refl
