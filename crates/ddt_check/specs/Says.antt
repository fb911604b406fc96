-- The honest record: what a server with a locator says of an identifier (RFC 8111, sections 6.1, 7.1 and 7.2).
use Rattle.std.specs.Prelude.{ℕ, List, length, nat_lt, Option}
use Rattle.std.specs.List.{filter}
use Rattle.std.specs.Option.{option_map_or}
use Rattle.ddt_path.specs.declared.locator.Locator.{Locator}
use Rattle.ddt_path.specs.declared.record.ReferralRecord.{ReferralRecord}
use Rattle.ddt_path.specs.Records.{referral, record_of, not_authoritative}
use Rattle.ddt_path.specs.Matching.{longest_match, shortest_match}
use Rattle.ddt_register.specs.declared.zone.Zone.{Zone}
use Rattle.ddt_register.specs.declared.register.Register.{Register}
use Rattle.ddt_check.specs.Zones.{served_zones, locators_of}
use Rattle.ddt_check.specs.Assignment.{assignment}

-- the referral to a child zone
abbrev pub referral_to : Register → Zone → ReferralRecord
referral_to r child = referral child.kind child.prefix (locators_of r child.group)

-- the shortest zone of those longer than n that cover a path
abbrev pub next_zone : Register → ℕ → List ℕ → Option Zone
next_zone r n x = shortest_match (λ z. z.prefix) (filter (λ z. nat_lt n (length z.prefix)) r.zones) x

-- From its longest zone: a referral to the next zone towards the identifier; where there is none, that zone is the
-- identifier's own, and the record is that of its assignment.
abbrev pub says_from : Register → Zone → List ℕ → ReferralRecord
says_from r z x = option_map_or (referral_to r) (next_zone r (length z.prefix) x) (record_of (assignment r x))

-- The record that an honest server at this locator sends: from the longest of its zones that cover the identifier.
-- Where none does, it is NOT-AUTHORITATIVE, for this identifier alone, with TTL 0 and the incomplete bit set.
abbrev pub says : Register → Locator → List ℕ → ReferralRecord
says r l x = option_map_or (λ z. says_from r z x) (longest_match (λ z. z.prefix) (served_zones r l) x)
    (not_authoritative x)
