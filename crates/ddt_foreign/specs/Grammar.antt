-- What spells a foreign Map-Referral (RFC 8111, section 6.4; RFC 8060, sections 3 and 4.7), up to the end of the record
-- that is taken for an identifier.
use Rattle.std.specs.Prelude.{ℕ, zero, suc, ◌/◌, ◌^◌, ◌<◌, ◌≤◌, ◌≡◌, ◌↔◌, true, false, List, [], ◌∷◌, ◌++◌, length, drop, slice_index, Some, None, Ok}
use Rattle.std.specs.Int.{w16, w32, to_be_bytes}
use Rattle.std.specs.List.{AllByRecursion}
use Rattle.std.specs.Result.{IsErr}
use Rattle.ddt_path.specs.declared.locator.Locator.{Locator}
use Rattle.ddt_path.specs.declared.record.ReferralRecord.{ReferralRecord}
use Rattle.ddt_path.specs.declared.xeid.Xeid.{Xeid}
use Rattle.ddt_path.specs.Covers.{covers}
use Rattle.ddt_path.specs.Path.{xeid_path}
use Rattle.ddt_path.specs.Steps.{IsBytes}
use Rattle.ddt_wire.specs.Address.{no_address, lcaf, family_and_address, IsAddress}
use Rattle.ddt_wire.specs.Eid.{SpellsEid}
use Rattle.ddt_wire.specs.MessageType.{map_referral}
use Rattle.ddt_wire.specs.Referral.{written}
use Rattle.ddt_wire.specs.laws.Statements.{IsRecord}
use Rattle.ddt_foreign.specs.declared.entry.Entry.{Entry}
use Rattle.ddt_foreign.specs.Several.{SpellsSeveral}
use Rattle.ddt_foreign.specs.Entry.{security_key, inner_address}
use Rattle.ddt_foreign.specs.Record.{Foreign}
use Rattle.ddt_foreign.specs.Plain.{foreign_in, action_in, is_incomplete, kept_ttl, plain_in}
use Rattle.ddt_foreign.specs.Order.{servers_of}

-- so many parts, one after the other
abbrev pub SpellsRun : (List ℕ → Type 0) → ℕ → List ℕ → Type 0
SpellsRun Spells zero bytes = bytes ≡ []
SpellsRun Spells (suc n) bytes = (front : List ℕ) × (rest : List ℕ) × Spells front × SpellsRun Spells n rest
    × (bytes ≡ front ++ rest)

-- ---- a signature section

-- the fields of a signature section, which all are ignored
pub record Signature : Type 0 where
  pub ttl : ℕ
  pub expiration : ℕ
  pub inception : ℕ
  pub tag : ℕ
  pub algorithm : ℕ
  pub reserved : ℕ
  pub more : ℕ
  pub last : ℕ
  pub signature : List ℕ

-- original TTL, expiration, inception, key tag, the length of the signature, its algorithm, three reserved bytes
abbrev pub signature_bytes : Signature → List ℕ
signature_bytes s =
    to_be_bytes w32 s.ttl ++ to_be_bytes w32 s.expiration ++ to_be_bytes w32 s.inception ++ to_be_bytes w16 s.tag
    ++ to_be_bytes w16 (length s.signature) ++ (s.algorithm ∷ s.reserved ∷ s.more ∷ s.last ∷ [])

-- these bytes spell a signature section
abbrev pub SpellsSignature : List ℕ → Type 0
SpellsSignature bytes = (s : Signature) × (length s.signature < 2 ^ 16) × (bytes ≡ signature_bytes s ++ s.signature)

-- ---- a key

-- these bytes spell a key: its length, and its material
abbrev pub SpellsKey : List ℕ → Type 0
SpellsKey bytes = (key : List ℕ) × (length key < 2 ^ 16) × (bytes ≡ to_be_bytes w16 (length key) ++ key)

-- The content of an LCAF of type 11 that holds so many keys and the address that owns them: key count, a reserved byte,
-- the algorithm, a byte with R; the keys; the address.
abbrev pub keyed : ℕ → ℕ → ℕ → ℕ → List ℕ → Locator → List ℕ
keyed count reserved algorithm r keys a = (count ∷ reserved ∷ algorithm ∷ r ∷ []) ++ keys ++ family_and_address a

-- ---- a locator

-- what is ignored before the AFI
pub record Ignored : Type 0 where
  pub weight : ℕ
  pub multicast_priority : ℕ
  pub multicast_weight : ℕ
  pub flags : ℕ

-- what comes before the AFI
abbrev pub entry_head : Ignored → Entry → List ℕ
entry_head i v = (v.priority ∷ i.weight ∷ i.multicast_priority ∷ i.multicast_weight ∷ []) ++ to_be_bytes w16 i.flags

-- an LCAF of any type: AFI 16387, two ignored bytes, its type, a reserved byte, the length of what follows, and that
abbrev pub any_lcaf : ℕ → ℕ → ℕ → ℕ → List ℕ → List ℕ
any_lcaf reserved flags type more inner =
    to_be_bytes w16 lcaf ++ (reserved ∷ flags ∷ type ∷ more ∷ []) ++ to_be_bytes w16 (length inner) ++ inner

-- these bytes spell a locator
pub data SpellsEntry (bytes : List ℕ) (v : Entry) : Type 0 where
  -- an IPv4 or IPv6 address
  Plain : (i : Ignored) (a : Locator) → IsAddress a → v.address ≡ Some a
      → bytes ≡ entry_head i v ++ family_and_address a → SpellsEntry bytes v
  -- no address
  Nothing : (i : Ignored) → v.address ≡ None → bytes ≡ entry_head i v ++ to_be_bytes w16 no_address
      → SpellsEntry bytes v
  -- an LCAF, whose content holds an address or none
  Inner : (i : Ignored) (reserved flags type more : ℕ) (inner : List ℕ) → v.address ≡ inner_address type inner
      → length inner < 2 ^ 16 → bytes ≡ entry_head i v ++ any_lcaf reserved flags type more inner
      → SpellsEntry bytes v

-- ---- a record

-- TTL, locator count, EID mask-len, flags, SigCnt before the map version
abbrev pub record_head : ℕ → ℕ → Foreign → List ℕ
record_head mask version v =
    to_be_bytes w32 v.ttl ++ (length v.locators ∷ mask ∷ []) ++ to_be_bytes w16 v.flags ++ to_be_bytes w16 version

-- these bytes spell a record
pub record SpellsRecord (bytes : List ℕ) (v : Foreign) : Type 0 where
  pub mask : ℕ
  pub version : ℕ
  pub eid : List ℕ
  pub locators : List ℕ
  pub signatures : List ℕ
  pub ttl_fits : v.ttl < 2 ^ 32
  pub flags_fit : v.flags < 2 ^ 16
  pub version_fits : version < 2 ^ 16
  pub spells_eid : SpellsEid mask eid v.prefix
  pub spells_locators : SpellsSeveral SpellsEntry locators v.locators
  pub spells_signatures : SpellsRun SpellsSignature (version / 2 ^ 12) signatures
  pub whole : bytes ≡ record_head mask version v ++ (eid ++ (locators ++ signatures))

-- ---- the whole

-- A Map-Referral spells records, of which this is the first whose prefix covers a path; what follows it is ignored.
pub record Takes (x : List ℕ) (bytes : List ℕ) (v : Foreign) : Type 0 where
  pub passed : List Foreign
  pub before : List ℕ
  pub front : List ℕ
  pub rest : List ℕ
  pub long : 12 ≤ length bytes
  pub type : slice_index bytes 0 / 16 ≡ map_referral
  pub count : length passed < slice_index bytes 3
  pub spells_passed : SpellsSeveral SpellsRecord before passed
  pub passes : AllByRecursion (λ r. covers r.prefix x ≡ false) passed
  pub spells : SpellsRecord front v
  pub is_covered : covers v.prefix x ≡ true
  pub whole : drop 12 bytes ≡ before ++ (front ++ rest)

-- what is spelled is taken
abbrev pub SpelledIsTaken : Type 0
SpelledIsTaken = (x : Xeid) (bytes : List ℕ) (v : Foreign) → Takes (xeid_path x) bytes v → foreign_in x bytes ≡ Ok v

-- what is taken is spelled
abbrev pub TakenIsSpelled : Type 0
TakenIsSpelled =
    (x : Xeid) (bytes : List ℕ) (v : Foreign) → IsBytes bytes → foreign_in x bytes ≡ Ok v → Takes (xeid_path x) bytes v

-- nothing is taken exactly where nothing is spelled
abbrev pub NoneIsTaken : Type 0
NoneIsTaken =
    (x : Xeid) (bytes : List ℕ) → IsBytes bytes
    → IsErr (foreign_in x bytes) ↔ ((v : Foreign) → Takes (xeid_path x) bytes v → ⊥)

-- the address that owns keys is read
abbrev pub OwnersAreRead : Type 0
OwnersAreRead =
    (count reserved algorithm r : ℕ) (keys : List ℕ) (a : Locator) → SpellsRun SpellsKey count keys → IsAddress a
    → inner_address security_key (keyed count reserved algorithm r keys a) ≡ Some a

-- what is given is the record that is taken: the action that its ACT names, its prefix, which covers the identifier,
-- and its bit I
pub record IsOfTaken (x : Xeid) (bytes : List ℕ) (p : ReferralRecord) : Type 0 where
  pub taken : Foreign
  pub spelled : Takes (xeid_path x) bytes taken
  pub action : action_in taken.flags ≡ Ok p.action
  pub prefix : p.prefix ≡ taken.prefix
  pub is_covered : covers p.prefix (xeid_path x) ≡ true
  pub incomplete : p.incomplete ≡ is_incomplete taken.flags
  pub ttl : p.ttl ≡ kept_ttl p.action p.incomplete taken.ttl
  pub servers : p.servers ≡ servers_of taken.locators

abbrev pub PlainIsTaken : Type 0
PlainIsTaken =
    (x : Xeid) (bytes : List ℕ) (p : ReferralRecord) → IsBytes bytes → plain_in x bytes ≡ Ok p → IsOfTaken x bytes p

-- what is given is given again
abbrev pub GivenAgain : Type 0
GivenAgain =
    (x : Xeid) (bytes : List ℕ) (p : ReferralRecord) (nonce : ℕ) → IsBytes bytes → plain_in x bytes ≡ Ok p
    → IsRecord nonce p → plain_in x (written nonce p) ≡ Ok p
