-- What a configuration answers for an identifier (RFC 8111, sections 6.1, 7.1 and 7.2).
use Rattle.std.specs.Prelude.{ℕ, ◌==◌, if◌then◌else◌, List, length, map}
use Rattle.std.specs.List.{filter}
use Rattle.std.specs.Option.{option_map_or}
use Rattle.ddt_path.specs.declared.locator.Locator.{Locator}
use Rattle.ddt_path.specs.declared.record.Outcome.{Outcome}
use Rattle.ddt_path.specs.declared.record.Outcome.TheVariants.{Registered, NotRegistered, Hole}
use Rattle.ddt_path.specs.declared.record.ReferralRecord.{ReferralRecord}
use Rattle.ddt_path.specs.Records.{referral, record_of, not_authoritative}
use Rattle.ddt_path.specs.Covers.{is_strictly_below}
use Rattle.ddt_path.specs.Free.{hole_of}
use Rattle.ddt_path.specs.Matching.{longest_match}
use Rattle.ddt_config.specs.declared.child.Child.{Child}
use Rattle.ddt_config.specs.declared.site_entry.SiteEntry.{SiteEntry}
use Rattle.ddt_config.specs.declared.authority.Content.{Content}
use Rattle.ddt_config.specs.declared.authority.Content.TheVariants.{Children, Sites}
use Rattle.ddt_config.specs.Table.{Outline}

-- the referral to a child
abbrev pub referral_to : Child → ReferralRecord
referral_to c = referral c.role c.prefix c.locators

-- the prefixes strictly below another
abbrev pub strictly_below : List ℕ → List (List ℕ) → List (List ℕ)
strictly_below p prefixes = filter (λ q. is_strictly_below q p) prefixes

-- A site that has an ETR is registered as a whole, at the Map-Servers themselves. Of one that has none, only the part
-- around the identifier isn't registered that overlaps none of the sites inside it.
abbrev pub site_outcome : List Locator → List (List ℕ) → List ℕ → SiteEntry → Outcome
site_outcome servers sites x s =
    if length s.etrs == 0 then NotRegistered (hole_of s.prefix (strictly_below s.prefix sites) x) servers
    else Registered s.prefix servers

-- The answer from the authority that the identifier belongs to: that of the child, or the longest site, that covers it.
abbrev pub answer_in : List Locator → List ℕ → Content → List ℕ → ReferralRecord
answer_in servers authority (Children cs) x =
    let prefixes = map (λ c. c.prefix) cs in
    option_map_or referral_to (longest_match (λ c. c.prefix) cs x) (record_of (Hole (hole_of authority prefixes x)))
answer_in servers authority (Sites ss) x =
    let prefixes = map (λ s. s.prefix) ss in
    let site = longest_match (λ s. s.prefix) ss x in
    record_of (option_map_or (site_outcome servers prefixes x) site (Hole (hole_of authority prefixes x)))

-- from the longest authority that covers the identifier
abbrev pub answer : Outline → List ℕ → ReferralRecord
answer c x =
    let authority = longest_match (λ a. a.prefix) c.authorities x in
    option_map_or (λ a. answer_in c.locators a.prefix a.content x) authority (not_authoritative x)
