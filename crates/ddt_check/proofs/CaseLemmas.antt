-- The cases of an assignment, and of what an honest server says.
use Rattle.std.proofs.Common.{◌≡◌, ℕ, ◌<◌, true, ◌==◌, List, length, Option, Some, None, refl}
use Rattle.std.specs.Option.{option_map_or}
use Rattle.std.proofs.lemmas.Bool.{cond_both}
use Rattle.ddt_path.specs.declared.locator.Locator.{Locator}
use Rattle.ddt_path.specs.declared.record.Role.{Role}
use Rattle.ddt_path.specs.declared.record.Role.TheVariants.{Node, Ms}
use Rattle.ddt_path.specs.declared.record.Outcome.{Outcome}
use Rattle.ddt_path.specs.declared.record.Outcome.TheVariants.{Registered, NotRegistered, Hole}
use Rattle.ddt_path.specs.declared.record.ReferralRecord.{ReferralRecord}
use Rattle.ddt_path.specs.Records.{record_of, not_authoritative}
use Rattle.ddt_path.specs.Covers.{covers}
use Rattle.ddt_path.specs.Free.{hole_of}
use Rattle.ddt_path.specs.Matching.{longest_match}
use Rattle.ddt_path.specs.laws.Member.{IsIn}
use Rattle.ddt_path.specs.declared.matches.Preference.TheVariants.{Longest}
use Rattle.ddt_path.specs.laws.Matching.{best_member}
use Rattle.ddt_register.specs.declared.zone.Zone.{Zone}
use Rattle.ddt_register.specs.declared.site.Site.{Site}
use Rattle.ddt_register.specs.declared.register.Register.{Register}
use Rattle.ddt_check.specs.Zones.{zone_of, site_of, locators_of, served_zones}
use Rattle.ddt_check.specs.Assignment.{assignment, assigned_in, assigned_site, part_of_site, prefixes_in}
use Rattle.ddt_check.specs.Says.{referral_to, next_zone, says_from, says}
use Rattle.ddt_check.specs.Rules.{IsAccepted}
use Rattle.ddt_check.specs.laws.Next.{next_is}
use Rattle.ddt_check.specs.laws.Root.{zone_found}
use Rattle.ddt_check.specs.laws.Zone.{zone_prefix, site_prefix}

-- what holds of what is made of an option, by what the option is
pub option_cases : {A B : Type 0} (P : B → Type 0) (f : A → B) (d : B) (o : Option A) → (o ≡ None → P d)
    → ((a : A) → o ≡ Some a → P (f a)) → P (option_map_or f o d)
option_cases P f d None none some = none refl
option_cases P f d (Some a) none some = some a refl

module _ (r : Register) (x : List ℕ) where
  pub in_zone : (z : Zone) → zone_of r x ≡ Some z → IsIn z r.zones × (covers z.prefix x ≡ true)
  in_zone z = best_member Longest zone_prefix x r.zones z

  pub in_site : (s : Site) → site_of r x ≡ Some s → IsIn s r.sites × (covers s.prefix x ≡ true)
  in_site s = best_member Longest site_prefix x r.sites s

  -- what holds in each case of an assignment holds of it
  module _ (P : Outcome → Type 0)
      (hole : (z : Zone) (role : Role) → zone_of r x ≡ Some z → z.kind ≡ role
      → P (Hole (hole_of z.prefix (prefixes_in r z role) x)))
      (part : (z : Zone) (s : Site) → zone_of r x ≡ Some z → z.kind ≡ Ms → site_of r x ≡ Some s
      → (length s.etrs == 0) ≡ true → P (NotRegistered (part_of_site r s x) (locators_of r z.group)))
      (whole : (z : Zone) (s : Site) → zone_of r x ≡ Some z → z.kind ≡ Ms → site_of r x ≡ Some s
      → P (Registered s.prefix (locators_of r z.group)))
    where
      by_role : (z : Zone) (role : Role) → zone_of r x ≡ Some z → z.kind ≡ role → P (assigned_in r z role x)
      by_role z Node here kind = hole z Node here kind
      by_role z Ms here kind = option_cases P (λ s. assigned_site r z s x) (Hole (hole_of z.prefix (prefixes_in r z Ms) x))
          (site_of r x) (λ _. hole z Ms here kind) (λ s at. cond_both (length s.etrs == 0) _ _ P
          (part z s here kind at) (λ _. whole z s here kind at))

      pub assigned_cases : IsAccepted r → P (assignment r x)
      assigned_cases accepted = let found = zone_found r accepted x in
          rw found.1 (by_role found.0 found.0.kind found.1 refl)

  -- what holds of a referral and of the assignment's record holds of what is said
  module _ (P : ReferralRecord → Type 0) (assigned : P (record_of (assignment r x))) where
    pub next_cases : (n : ℕ) → ((w : Zone) → IsIn w r.zones → covers w.prefix x ≡ true → n < length w.prefix → P (referral_to r w))
        → P (option_map_or (referral_to r) (next_zone r n x) (record_of (assignment r x)))
    next_cases n refer = option_cases P (referral_to r) (record_of (assignment r x)) (next_zone r n x) (λ _. assigned)
        (λ w e. let p = next_is r n x w e in refer w p.0 p.2 p.1)

    pub said_cases : (l : Locator) → P (not_authoritative x)
        → ((w : Zone) → IsIn w r.zones → covers w.prefix x ≡ true → P (referral_to r w)) → P (says r l x)
    said_cases l nowhere refer = option_cases P (λ z. says_from r z x) (not_authoritative x)
        (longest_match zone_prefix (served_zones r l) x) (λ _. nowhere)
        (λ z _. next_cases (length z.prefix) (λ w k c _. refer w k c))
