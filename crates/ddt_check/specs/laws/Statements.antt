-- What holds of every accepted register, whichever way it is looked up: the laws that following referrals from the root
-- stands on (RFC 8111, section 7.3). An identifier is a list that passes is_path.
use Rattle.std.specs.Prelude.{◌≡◌, ◌≢◌, ◌⊎◌, ℕ, ◌<◌, ◌≤◌, List, [], length, Option, None, Some, Contains, IsTrue, slice_get}
use Rattle.ddt_path.specs.declared.locator.Locator.{Locator}
use Rattle.ddt_path.specs.declared.record.Role.TheVariants.{Node}
use Rattle.ddt_path.specs.declared.action.Action.{Action}
use Rattle.ddt_path.specs.declared.action.Action.TheVariants.{MsAck, MsNotRegistered, DelegationHole, NotAuthoritative}
use Rattle.ddt_path.specs.declared.record.Outcome.{Outcome}
use Rattle.ddt_path.specs.declared.record.Outcome.TheVariants.{Registered, NotRegistered, Hole}
use Rattle.ddt_path.specs.declared.record.ReferralRecord.{ReferralRecord}
use Rattle.ddt_path.specs.Actions.{IsReferral}
use Rattle.ddt_path.specs.Covers.{covers}
use Rattle.ddt_path.specs.Free.{free}
use Rattle.ddt_path.specs.Locators.{lists, most_locators}
use Rattle.ddt_path.specs.Path.{is_path, is_prefix_path}
use Rattle.ddt_path.specs.Records.{positive_ttl, record_of}
use Rattle.ddt_register.specs.declared.zone.Zone.{Zone}
use Rattle.ddt_register.specs.declared.site.Site.{Site}
use Rattle.ddt_register.specs.declared.group.Group.{Group}
use Rattle.ddt_register.specs.declared.register.Register.{Register}
use Rattle.ddt_register.specs.Ranges.{are_locators}
use Rattle.ddt_check.specs.Zones.{zone_of, site_of, group_named, locators_of, first_locator, roots}
use Rattle.ddt_check.specs.Assignment.{assignment, prefixes_in, prefixes_below_site}
use Rattle.ddt_check.specs.Says.{referral_to, says}

-- ---- what is said of a record

-- an action that ends a lookup
abbrev pub IsFinal : Action → Type 0
IsFinal action = (action ≡ MsAck) ⊎ (action ≡ MsNotRegistered) ⊎ (action ≡ DelegationHole)

-- an action that comes with servers
abbrev pub NamesServers : Action → Type 0
NamesServers action = IsReferral action ⊎ (action ≡ MsAck) ⊎ (action ≡ MsNotRegistered)

-- a set of servers has 1 to 8 locators
abbrev pub AreServers : List Locator → Type 0
AreServers ls = (0 < length ls) × (length ls ≤ most_locators)

-- ---- zones and groups

-- the zone of a path covers it, and each other zone that covers it is shorter
pub record IsItsZone (r : Register) (x : List ℕ) (z : Zone) : Type 0 where
  pub is_zone : Contains r.zones z
  pub covers_it : IsTrue (covers z.prefix x)
  pub longest : (y : Zone) → Contains r.zones y → IsTrue (covers y.prefix x)
      → (y ≡ z) ⊎ (length y.prefix < length z.prefix)

-- Each identifier has a zone, the one that longest match finds, and all others that cover it are shorter.
abbrev pub EachIdentifierHasOneZone : Register → Type 0
EachIdentifierHasOneZone r = (x : List ℕ) → (z : Zone) × (zone_of r x ≡ Some z) × IsItsZone r x z

-- the zone of everything is served by DDT nodes, at the roots
pub record IsRootZone (r : Register) (z : Zone) : Type 0 where
  pub is_zone : Contains r.zones z
  pub is_everything : z.prefix ≡ []
  pub is_of_nodes : z.kind ≡ Node
  pub its_servers : locators_of r z.group ≡ roots r
  pub are_servers : AreServers (roots r)

-- There is a zone of everything, of DDT nodes, and its 1 to 8 locators are those at which lookups start.
abbrev pub TheRootIsServed : Register → Type 0
TheRootIsServed r = (z : Zone) × IsRootZone r z

-- the group that a zone names has a row, and the zone's locators are those of the row
pub record IsItsGroup (r : Register) (z : Zone) (g : Group) : Type 0 where
  pub is_group : Contains r.groups g
  pub its_group : group_named r z.group ≡ Some g
  pub its_servers : locators_of r z.group ≡ g.locators
  pub are_servers : AreServers g.locators

-- no zone is without a group, nor without a server
abbrev pub EachZoneHasServers : Register → Type 0
EachZoneHasServers r = (z : Zone) → Contains r.zones z → (g : Group) × IsItsGroup r z g

-- what is called the first locator of a group is at place 0 of its row
abbrev pub EachGroupHasAFirstLocator : Register → Type 0
EachGroupHasAFirstLocator r =
    (g : Group) → Contains r.groups g → slice_get g.locators 0 ≡ Some (first_locator g.locators)

-- a locator that two zones list serves them for one group
abbrev pub EachLocatorIsOfOneGroup : Register → Type 0
EachLocatorIsOfOneGroup r =
    (y z : Zone) (l : Locator) → IsTrue (lists (locators_of r y.group) l) → IsTrue (lists (locators_of r z.group) l)
    → y.group ≡ z.group

-- ---- what an honest server answers

-- A server of a zone is in charge of what the zone covers, and refers strictly downwards.
abbrev pub ServersReferDownwards : Register → Type 0
ServersReferDownwards r =
    (z : Zone) (l : Locator) (x : List ℕ)
    → Contains r.zones z → IsTrue (covers z.prefix x) → IsTrue (lists (locators_of r z.group) l)
    → ((says r l x).action ≢ NotAuthoritative)
    × (IsReferral (says r l x).action → length z.prefix < length (says r l x).prefix)

-- a referral is to a zone that covers the identifier, with its kind, its prefix and the locators of its group
abbrev pub ReferralsAreToZones : Register → Type 0
ReferralsAreToZones r =
    (l : Locator) (x : List ℕ) → IsReferral (says r l x).action
    → (w : Zone) × Contains r.zones w × IsTrue (covers w.prefix x) × (says r l x ≡ referral_to r w)

-- any other answer of a server in charge is that of the assignment
abbrev pub FinalAnswersAreTheAssignment : Register → Type 0
FinalAnswersAreTheAssignment r =
    (l : Locator) (x : List ℕ) → IsFinal (says r l x).action → says r l x ≡ record_of (assignment r x)

-- whoever says it, the prefix covers the identifier
abbrev pub AnswersCover : Register → Type 0
AnswersCover r = (l : Locator) (x : List ℕ) → IsTrue (covers (says r l x).prefix x)

-- A NODE-REFERRAL, an MS-REFERRAL, an MS-ACK or an MS-NOT-REGISTERED lists 1 to 8 locators, whoever sends it.
abbrev pub AnswersHaveServers : Register → Type 0
AnswersHaveServers r = (l : Locator) (x : List ℕ) → NamesServers (says r l x).action → AreServers (says r l x).servers

-- the servers of a group say the same
abbrev pub ServersOfAGroupAgree : Register → Type 0
ServersOfAGroupAgree r =
    (name : List ℕ) (l k : Locator) (x : List ℕ)
    → IsTrue (lists (locators_of r name) l) → IsTrue (lists (locators_of r name) k) → says r l x ≡ says r k x

-- a record of such numbers as a message holds
pub record IsSendable (v : ReferralRecord) : Type 0 where
  pub is_prefix : IsTrue (is_prefix_path v.prefix)
  pub ttl_fits : v.ttl ≤ positive_ttl
  pub few_servers : length v.servers ≤ most_locators
  pub servers_fit : IsTrue (are_locators v.servers)

-- Each answer to an identifier fits a Map-Referral: a TTL of at most 1,440 minutes, and at most 8 locators.
abbrev pub AnswersCanBeSent : Register → Type 0
AnswersCanBeSent r = (l : Locator) (x : List ℕ) → IsTrue (is_path x) → IsSendable (says r l x)

-- ---- what an assignment says of other identifiers

-- A registered prefix is the longest site that covers the identifier, and the servers are those of the site's zone. It
-- says nothing of another identifier that the site covers: a site inside it may be that one's.
pub record IsSiteWithServers (r : Register) (x q : List ℕ) (servers : List Locator) : Type 0 where
  pub site : Site
  pub is_site : Contains r.sites site
  pub its_site : site_of r x ≡ Some site
  pub its_prefix : site.prefix ≡ q
  pub covers_it : IsTrue (covers q x)
  pub zone : Zone
  pub is_zone : Contains r.zones zone
  pub its_zone : zone_of r q ≡ Some zone
  pub covers_site : IsTrue (covers zone.prefix q)
  pub its_servers : servers ≡ locators_of r zone.group

-- Whatever is assigned as registered is the longest site that covers the identifier, with the locators of its zone.
abbrev pub RegisteredPrefixesAreSites : Register → Type 0
RegisteredPrefixesAreSites r =
    (x q : List ℕ) (servers : List Locator) → assignment r x ≡ Registered q servers → IsSiteWithServers r x q servers

-- the prefix of an outcome that says that no site is registered
abbrev pub negative_prefix : Outcome → Option (List ℕ)
negative_prefix (Registered prefix servers) = None
negative_prefix (NotRegistered prefix servers) = Some prefix
negative_prefix (Hole prefix) = Some prefix

-- that prefix covers the identifier, and each identifier that it covers is assigned the same
abbrev pub NegativesHoldOfAll : Register → Type 0
NegativesHoldOfAll r =
    (x q : List ℕ) → IsTrue (is_path x) → negative_prefix (assignment r x) ≡ Some q
    → IsTrue (covers q x) × ((y : List ℕ) → IsTrue (is_path y) → IsTrue (covers q y) → assignment r y ≡ assignment r x)

-- ---- what a prefix in an assignment is

-- a hole is the least specific prefix that is free of all that lies in the identifier's zone
abbrev pub HolesAreFree : Register → Type 0
HolesAreFree r =
    (x q : List ℕ) → IsTrue (is_path x) → assignment r x ≡ Hole q
    → (z : Zone) × (zone_of r x ≡ Some z) × (free z.prefix (prefixes_in r z z.kind) x ≡ Some q)

-- the part of a site is the least specific prefix that is free of the sites inside it
pub record IsPartOfItsSite (r : Register) (x q : List ℕ) (servers : List Locator) : Type 0 where
  pub site : Site
  pub its_site : site_of r x ≡ Some site
  pub is_free : free site.prefix (prefixes_below_site r site) x ≡ Some q
  pub zone : Zone
  pub its_zone : zone_of r x ≡ Some zone
  pub its_servers : servers ≡ locators_of r zone.group

-- Whatever is assigned as not registered is such a part of the identifier's own site, with its zone's locators.
abbrev pub PartsOfSitesAreFree : Register → Type 0
PartsOfSitesAreFree r =
    (x q : List ℕ) (servers : List Locator) → IsTrue (is_path x) → assignment r x ≡ NotRegistered q servers
    → IsPartOfItsSite r x q servers
