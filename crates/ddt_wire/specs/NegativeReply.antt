-- A negative Map-Reply of one record: its prefix has no locator, and packets to it are forwarded natively (RFC 9301,
-- section 5.4). What it says is a `NegativeReply`.
use Rattle.std.specs.Prelude.{ℕ, ◌+◌, ◌*◌, ◌^◌, ◌<◌, ◌≡◌, ◌==◌, not, if◌then◌else◌, List, ◌++◌, length, drop, Result, Ok, Err}
use Rattle.ddt_wire.specs.declared.eid.EidFault.{EidFault}
use Rattle.ddt_wire.specs.declared.head.Head.{Head}
use Rattle.ddt_wire.specs.declared.head.HeadFault.{HeadFault}
use Rattle.ddt_wire.specs.declared.negative_reply.NegativeReply.{NegativeReply}
use Rattle.ddt_wire.specs.declared.negative_reply.ReplyFault.{ReplyFault}
use Rattle.ddt_wire.specs.declared.negative_reply.ReplyFault.TheVariants as fault
use Rattle.ddt_path.specs.Steps.{◌>>=◌, in_words}
use Rattle.ddt_wire.specs.Head.{head_bytes, act_place, action_number, head_words, head_at}
use Rattle.ddt_wire.specs.MessageType.{map_reply}
use Rattle.ddt_wire.specs.Eid.{SpellsEid, written_eid, written_mask_len, eid_at, eid_words}

-- ---- what spells a reply

-- what is ignored: 20 bits behind the type; the bit A and 12 reserved bits; 4 reserved bits and the map version of 12
pub record Ignored : Type 0 where
  pub reserved : ℕ
  pub flags : ℕ
  pub version : ℕ
  pub reserved_fits : reserved < 2 ^ 20
  pub flags_fits : flags < 2 ^ 13
  pub version_fits : version < 2 ^ 16

-- ACT of a prefix without locators: packets to it are forwarded natively
abbrev natively_forward : ℕ
natively_forward = 1

-- the head of a reply beside an EID mask-len: no locator, and ACT before 13 ignored bits
abbrev pub reply_head : ℕ → ℕ → ℕ → NegativeReply → Head
reply_head mask ignored map_version v =
    record {
      nonce = v.nonce;
      ttl = v.ttl;
      locators = 0;
      mask_len = mask;
      flags = natively_forward * act_place + ignored;
      version = map_version;
    }

-- these bytes, all of them, spell a reply
pub record SpellsReply (bytes : List ℕ) (v : NegativeReply) : Type 0 where
  pub ignored : Ignored
  pub mask : ℕ
  pub eid : List ℕ
  pub nonce_fits : v.nonce < 2 ^ 64
  pub ttl_fits : v.ttl < 2 ^ 32
  pub mask_fits : mask < 256
  pub spells_eid : SpellsEid mask eid v.prefix
  pub whole : bytes ≡ head_bytes map_reply ignored.reserved (reply_head mask ignored.flags ignored.version v) ++ eid

-- ---- what is written

-- the one spelling that is written: all ignored bits are 0
abbrev pub written_reply : NegativeReply → List ℕ
written_reply v = head_bytes map_reply 0 (reply_head (written_mask_len v.prefix) 0 0 v) ++ written_eid v.prefix

-- the reply of these parts
abbrev pub reply_of : ℕ → ℕ → List ℕ → NegativeReply
reply_of n minutes p = record { nonce = n; ttl = minutes; prefix = p }

-- ---- the first fault

-- a fault of the head as one of the Map-Reply: it is cut, has another type, or a record count other than 1
abbrev pub from_head : HeadFault → ReplyFault
from_head = head_words fault.Short fault.MessageType fault.RecordCount

-- a fault of the EID as one of the Map-Reply: it is cut, or its AFI, LCAF or mask length is wrong, or bits of its
-- Instance ID past the IID mask-len are set
abbrev pub from_eid : EidFault → ReplyFault
from_eid = eid_words fault.Short fault.EidFamily fault.Lcaf fault.MaskLength fault.TailNotZero

-- behind the EID, whose prefix and length are given, nothing stands
abbrev after_eid : List ℕ → Head → (List ℕ × ℕ) → Result NegativeReply ReplyFault
after_eid bytes head eid =
    if eid.1 == length (drop 22 bytes) then Ok (reply_of head.nonce head.ttl eid.0) else Err fault.Trailing

-- what follows from a head: there is no locator, ACT is 1, then stands an EID
abbrev after_head : List ℕ → Head → Result NegativeReply ReplyFault
after_head bytes head =
    if not (head.locators == 0) then Err fault.LocatorCount
    else if not (action_number head == natively_forward) then Err fault.BadAction
    else (in_words from_eid (eid_at head.mask_len (drop 22 bytes)) >>= after_eid bytes head)

-- The reply, or the first fault from left to right.
unfoldable pub reply_in : List ℕ → Result NegativeReply ReplyFault
reply_in bytes = in_words from_head (head_at map_reply bytes) >>= after_head bytes
