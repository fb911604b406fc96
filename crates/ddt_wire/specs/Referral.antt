-- A Map-Referral of one record (RFC 8111, section 6.4).
use Rattle.std.specs.Prelude.{ℕ, ◌+◌, ◌*◌, ◌/◌, ◌%◌, ◌^◌, ◌<◌, ◌≡◌, ◌==◌, Bool, true, false, if◌then◌else◌, List, ◌++◌, length, take, drop, Option, Some, None, Result, Ok, Err}
use Rattle.std.specs.List.{flat_map}
use Rattle.ddt_path.specs.declared.locator.Locator.{Locator}
use Rattle.ddt_path.specs.declared.action.Action.{Action}
use Rattle.ddt_path.specs.Actions.{number, action_of}
use Rattle.ddt_path.specs.Locators.{most_locators}
use Rattle.ddt_path.specs.declared.record.ReferralRecord.{ReferralRecord}
use Rattle.ddt_wire.specs.declared.eid.EidFault.{EidFault}
use Rattle.ddt_wire.specs.declared.head.Head.{Head}
use Rattle.ddt_wire.specs.declared.head.HeadFault.{HeadFault}
use Rattle.ddt_wire.specs.declared.referral.LentRecord.{LentRecord}
use Rattle.ddt_wire.specs.declared.fault.ReferralFault.{ReferralFault}
use Rattle.ddt_wire.specs.declared.fault.ReferralFault.TheVariants as fault
use Rattle.ddt_path.specs.Steps.{◌>>=◌, in_words}
use Rattle.ddt_wire.specs.Head.{head_bytes, act_place, action_number, head_words, head_at}
use Rattle.ddt_wire.specs.MessageType.{map_referral}
use Rattle.ddt_wire.specs.Eid.{SpellsEid, written_eid, written_mask_len, eid_at, eid_words}
use Rattle.ddt_wire.specs.LocatorRecord.{SpellsLocators, written_locator, locators_at}

-- what a Map-Referral says: its prefix as a path, and all its locators
pub record Message : Type 0 where
  pub nonce : ℕ
  pub action : Action
  pub prefix : List ℕ
  pub ttl : ℕ
  pub incomplete : Bool
  pub locators : List Locator

-- a flag as the number of its bit: 1 where it is set; the headers of requests use it too
abbrev pub bit : Bool → ℕ
bit false = 0
bit true = 1

-- ---- what spells a message

-- what is ignored: 20 bits behind the type, the bit A, 11 reserved bits, and the map version of 12 bits
pub record Ignored : Type 0 where
  pub reserved : ℕ
  pub authoritative : Bool
  pub flags : ℕ
  pub version : ℕ
  pub reserved_fits : reserved < 2 ^ 20
  pub flags_fits : flags < 2 ^ 11
  pub version_fits : version < 2 ^ 12

-- the places of the bits A and I in the flags, and of SigCnt before the map version
abbrev authoritative_place : ℕ
authoritative_place = 2 ^ 12

abbrev incomplete_place : ℕ
incomplete_place = 2 ^ 11

abbrev signature_place : ℕ
signature_place = 2 ^ 12

-- ACT in 3 bits, the bits A and I, 11 reserved bits
abbrev pub flags_of : Action → Bool → Bool → ℕ → ℕ
flags_of action authoritative incomplete reserved =
    number action * act_place + bit authoritative * authoritative_place + bit incomplete * incomplete_place + reserved

-- the head of a message beside an EID mask-len, A, the reserved bits behind I, and SigCnt 0 before a map version
abbrev pub message_head : ℕ → Bool → ℕ → ℕ → Message → Head
message_head mask authoritative reserved map_version v =
    record {
      nonce = v.nonce;
      ttl = v.ttl;
      locators = length v.locators;
      mask_len = mask;
      flags = flags_of v.action authoritative v.incomplete reserved;
      version = map_version;
    }

-- these bytes, all of them, spell a message
pub record Spells (bytes : List ℕ) (v : Message) : Type 0 where
  pub ignored : Ignored
  pub mask : ℕ
  pub eid : List ℕ
  pub locators : List ℕ
  pub nonce_fits : v.nonce < 2 ^ 64
  pub ttl_fits : v.ttl < 2 ^ 32
  pub mask_fits : mask < 256
  pub count_fits : length v.locators < 256
  pub spells_eid : SpellsEid mask eid v.prefix
  pub spells_locators : SpellsLocators locators v.locators
  pub whole : bytes ≡ head_bytes map_referral ignored.reserved
      (message_head mask ignored.authoritative ignored.flags ignored.version v) ++ eid ++ locators

-- ---- what is written

-- the message of a record
abbrev pub message_of : ℕ → ReferralRecord → Message
message_of n r = record {
  nonce = n;
  action = r.action;
  prefix = r.prefix;
  ttl = r.ttl;
  incomplete = r.incomplete;
  locators = r.servers;
}

-- the record of a message, with its first eight locators
abbrev pub message_record : Message → ReferralRecord
message_record v = record {
  action = v.action;
  prefix = v.prefix;
  ttl = v.ttl;
  incomplete = v.incomplete;
  servers = take most_locators v.locators;
}

-- the record whose locators are lent
abbrev pub lent_record : LentRecord → ReferralRecord
lent_record l = record {
  action = l.action;
  prefix = l.prefix;
  ttl = l.ttl;
  incomplete = l.incomplete;
  servers = l.servers.now;
}

-- the one spelling that is written: A is 1, the reserved bits and the map version are 0
abbrev pub written_head : ℕ → ReferralRecord → Head
written_head n r = message_head (written_mask_len r.prefix) true 0 0 (message_of n r)

-- the Map-Referral that is written for a record, with the nonce of its request: head, EID, and the referral set in
-- its order
abbrev pub written : ℕ → ReferralRecord → List ℕ
written n r = head_bytes map_referral 0 (written_head n r) ++ written_eid r.prefix ++ flat_map written_locator r.servers

-- ---- the first fault

-- a fault of the head as one of the Map-Referral: it is cut, has another type, or a record count other than 1
abbrev pub from_head : HeadFault → ReferralFault
from_head = head_words fault.Short fault.MessageType fault.RecordCount

-- a fault of the EID as one of the Map-Referral: it is cut, or its AFI, LCAF or mask length is wrong, or bits of its
-- Instance ID past the IID mask-len are set
abbrev pub from_eid : EidFault → ReferralFault
from_eid = eid_words fault.Short fault.EidFamily fault.Lcaf fault.MaskLength fault.TailNotZero

-- the action that ACT names, or the fault BadAction: the codes 6 and 7 name none
abbrev pub action_or_fault : Option Action → Result Action ReferralFault
action_or_fault (Some action) = Ok action
action_or_fault None = Err fault.BadAction

-- the action of a head; the four bits before the map version are SigCnt
unfoldable pub action_in : Head → Result Action ReferralFault
action_in head =
    action_or_fault (action_of (action_number head)) >>= λ action. if head.version / signature_place == 0 then Ok action
    else Err fault.Signed

-- the message of these parts
abbrev pub message_with : Head → Action → List ℕ → List Locator → Message
message_with head action_ prefix_ locators_ =
    record {
      nonce = head.nonce;
      action = action_;
      prefix = prefix_;
      ttl = head.ttl;
      incomplete = head.flags / incomplete_place % 2 == 1;
      locators = locators_;
    }

-- The message, or the first fault from left to right.
unfoldable pub message_in : List ℕ → Result Message ReferralFault
message_in bytes = do
  head ← in_words from_head (head_at map_referral bytes)
  action ← action_in head
  eid ← in_words from_eid (eid_at head.mask_len (drop 22 bytes))
  locators ← locators_at head.locators (drop eid.1 (drop 22 bytes))
  if length locators.1 == 0 then Ok (message_with head action eid.0 locators.0) else Err fault.Trailing
