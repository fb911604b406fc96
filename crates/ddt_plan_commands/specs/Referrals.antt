-- The referrals that caches hold. A Map-Resolver keeps a Map-Referral for its TTL (RFC 8111, section 6): NODE-REFERRAL
-- and MS-REFERRAL, which name the servers of a zone, for a day; MS-ACK, which names the Map-Servers of a site's zone,
-- for as long; DELEGATION-HOLE for 15 minutes and MS-NOT-REGISTERED for one. None of them names an ETR. Referrals to
-- the root are in no cache: its locators are configured in each Map-Resolver.
use Rattle.std.specs.Prelude.{ℕ, ◌≡◌, ◌==◌, Bool, true, false, ◌&&◌, not, List, length, find, Option, None, Some}
use Rattle.std.specs.List.{list_any}
use Rattle.std.specs.Option.{option_map}
use Rattle.std.specs.Ordering.{nat_cmp}
use Rattle.std.specs.Cmp.Lexicographic.{slice_cmp}
use Rattle.std.specs.BTreeMap.{BTreeMap, get}
use Rattle.ddt_path.specs.declared.locator.Locator.{Locator}
use Rattle.ddt_path.specs.Covers.{is_same_path}
use Rattle.ddt_register.specs.declared.register.Register.{Register}
use Rattle.ddt_check.specs.Zones.{locators_of}
use Rattle.ddt_plan.specs.Changes.{are_same_servers}

-- The locators that a referral to the zone of exactly this prefix names; None where there is no such zone.
abbrev pub zone_servers : Register → List ℕ → Option (List Locator)
zone_servers r p = option_map (λ z. locators_of r z.group) (find (λ z. is_same_path z.prefix p) r.zones)

-- a referral names other locators, or nothing is referred to any more; where nothing was, nothing is out of date
abbrev pub is_outdated : Option (List Locator) → Option (List Locator) → Bool
is_outdated None after = false
is_outdated (Some before) None = true
is_outdated (Some before) (Some after) = not (are_same_servers before after)

-- a zone of the earlier register, other than the root, of which a referral is out of date in the later one
abbrev pub is_outdated_at : Register → Register → List ℕ → Bool
is_outdated_at r s p = not (length p == 0) && is_outdated (zone_servers r p) (zone_servers s p)

-- Caches may hold a referral that the change puts out of date.
abbrev pub has_outdated : Register → Register → Bool
has_outdated r s = list_any (λ z. is_outdated_at r s z.prefix) r.zones

-- a table has at each prefix what a referral to the zone there names
abbrev pub HasZoneServers : BTreeMap (List ℕ) (List Locator) → Register → Type 0
HasZoneServers table r = (p : List ℕ) → get (slice_cmp nat_cmp) table p ≡ zone_servers r p
