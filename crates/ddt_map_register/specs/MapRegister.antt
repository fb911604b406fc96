-- A Map-Register (RFC 9301, section 5.6).
use Rattle.std.specs.Prelude.{ℕ, ◌+◌, ◌-◌, ◌*◌, ◌/◌, ◌%◌, ◌^◌, ◌<◌, ◌≡◌, ◌==◌, not, nat_lt, Bool, true, false, if◌then◌else◌, List, [], ◌∷◌, ◌++◌, length, take, drop, replicate, slice_index, Option, Some, None, Result, Ok, Err}
use Rattle.std.specs.Int.{w16, w64, w128, to_be_bytes}
use Rattle.byteorder.specs.Endian.{big_number}
use Rattle.ddt_path.specs.Steps.{◌>>=◌, IsBytes}
use Rattle.ddt_wire.specs.Referral.{bit}
use Rattle.ddt_foreign.specs.Several.{several_at, SpellsSeveral}
use Rattle.ddt_map_register.specs.declared.register_head.RegisterHead.{RegisterHead}
use Rattle.ddt_map_register.specs.declared.map_register.XtrId.{XtrId}
use Rattle.ddt_map_register.specs.declared.fault.MapRegisterFault.{MapRegisterFault}
use Rattle.ddt_map_register.specs.declared.fault.MapRegisterFault.TheVariants.{Short, MessageType, Trailing}
use Rattle.ddt_map_register.specs.RegisterRecord.{RegisterRecord, record_at, SpellsRecord}

-- the type of a Map-Register
abbrev pub map_register : ℕ
map_register = 3

-- what a Map-Register says: the fields of its head, its authentication data and what that covers, its records, first as
-- bytes, and who sent it
pub record Message : Type 0 where
  pub head : RegisterHead
  pub code : List ℕ
  pub covered : List ℕ
  pub record_bytes : List ℕ
  pub records : List RegisterRecord
  pub id : Option XtrId

-- ---- what spells a message

-- what is ignored: the bit after I, a byte, three bits before E, the bit R
pub record Ignored : Type 0 where
  pub last : ℕ
  pub reserved : ℕ
  pub first : ℕ
  pub r : Bool
  pub last_fits : last < 2
  pub reserved_fits : reserved < 256
  pub first_fits : first < 8

-- the first byte: type, P, S, I
abbrev pub first_byte : ℕ → RegisterHead → ℕ
first_byte ignored h = map_register * 16 + bit h.proxy * 8 + bit h.security * 4 + bit h.has_id * 2 + ignored

-- the third byte: E, T, a, R, M
abbrev pub third_byte : ℕ → Bool → RegisterHead → ℕ
third_byte ignored r h =
    ignored * 32 + bit h.eid_notify * 16 + bit h.use_ttl * 8 + bit h.merge * 4 + bit r * 2 + bit h.want_notify

-- nonce, Key ID, Algorithm ID, length of the authentication data
abbrev pub key_bytes : RegisterHead → List ℕ
key_bytes h = to_be_bytes w64 h.nonce ++ (h.key_id ∷ h.algorithm ∷ []) ++ to_be_bytes w16 h.code_len

-- all that comes before the authentication data
abbrev pub head_bytes : Ignored → RegisterHead → List ℕ
head_bytes i h = (first_byte i.last h ∷ i.reserved ∷ third_byte i.first i.r h ∷ h.count ∷ []) ++ key_bytes h

-- the xTR-ID and the Site-ID at the end, where I is set
abbrev pub id_bytes : Option XtrId → List ℕ
id_bytes None = []
id_bytes (Some id) = to_be_bytes w128 id.xtr ++ to_be_bytes w64 id.site

-- the bit I says whether they are there
abbrev pub FitsId : Bool → Option XtrId → Type 0
FitsId has None = has ≡ false
FitsId has (Some id) = (has ≡ true) × (id.xtr < 2 ^ 128) × (id.site < 2 ^ 64)

-- These bytes, all of them, spell a Map-Register. The authentication data covers them all, with zeros in its own place:
-- xTR-ID and Site-ID are covered too.
pub record SpellsRegister (bytes : List ℕ) (v : Message) : Type 0 where
  pub ignored : Ignored
  pub nonce_fits : v.head.nonce < 2 ^ 64
  pub key_fits : v.head.key_id < 256
  pub algorithm_fits : v.head.algorithm < 256
  pub code_is_bytes : IsBytes v.code
  pub code_len_is : v.head.code_len ≡ length v.code
  pub code_len_fits : v.head.code_len < 2 ^ 16
  pub count_is : v.head.count ≡ length v.records
  pub count_fits : v.head.count < 256
  pub spells_records : SpellsSeveral SpellsRecord v.record_bytes v.records
  pub id_fits : FitsId v.head.has_id v.id
  pub whole : bytes ≡ head_bytes ignored v.head ++ v.code ++ v.record_bytes ++ id_bytes v.id
  pub covers : v.covered
      ≡ head_bytes ignored v.head ++ replicate (length v.code) 0 ++ (v.record_bytes ++ id_bytes v.id)

-- ---- the first fault

-- a bit of a byte, by its place
abbrev pub has_bit : ℕ → ℕ → Bool
has_bit byte place = byte / place % 2 == 1

-- the fields at their places
abbrev pub head_of : List ℕ → RegisterHead
head_of bytes = record {
  proxy = has_bit (slice_index bytes 0) 8;
  security = has_bit (slice_index bytes 0) 4;
  has_id = has_bit (slice_index bytes 0) 2;
  eid_notify = has_bit (slice_index bytes 2) 16;
  use_ttl = has_bit (slice_index bytes 2) 8;
  merge = has_bit (slice_index bytes 2) 4;
  want_notify = has_bit (slice_index bytes 2) 1;
  count = slice_index bytes 3;
  nonce = big_number 8 (drop 4 bytes);
  key_id = slice_index bytes 12;
  algorithm = slice_index bytes 13;
  code_len = big_number 2 (drop 14 bytes);
}

-- the head of a Map-Register whose authentication data isn't cut, or the first fault
unfoldable pub head_at : List ℕ → Result RegisterHead MapRegisterFault
head_at bytes =
    if nat_lt (length bytes) 16 then Err Short
    else if not (slice_index bytes 0 / 16 == map_register) then Err MessageType
    else if nat_lt (length bytes) (16 + big_number 2 (drop 14 bytes)) then Err Short
    else Ok (head_of bytes)

-- what comes after the records: nothing, or xTR-ID and Site-ID where I is set
unfoldable pub id_at : Bool → List ℕ → Result (Option XtrId) MapRegisterFault
id_at has bytes =
    if has then (if nat_lt (length bytes) 24 then Err Short
    else if length bytes == 24
    then Ok (Some (record { xtr = big_number 16 bytes; site = big_number 8 (drop 16 bytes) }))
    else Err Trailing)
    else if length bytes == 0 then Ok None
    else Err Trailing

-- the bytes before the rest
abbrev pub before_rest : List ℕ → List ℕ → List ℕ
before_rest bytes rest = take (length bytes - length rest) bytes

-- the message of these parts, with so much authentication data between what comes before and after it
abbrev pub message_of : List ℕ → RegisterHead → List RegisterRecord → List ℕ → Option XtrId → Message
message_of bytes h rs rest i = record {
  head = h;
  code = take h.code_len (drop 16 bytes);
  covered =
      take 16 bytes ++ replicate (length (take h.code_len (drop 16 bytes))) 0 ++ drop h.code_len (drop 16 bytes);
  record_bytes = before_rest (drop h.code_len (drop 16 bytes)) rest;
  records = rs;
  id = i;
}

-- the message, or the first fault from left to right
unfoldable pub message_in : List ℕ → Result Message MapRegisterFault
message_in bytes = do
  head ← head_at bytes
  records ← several_at record_at head.count (drop head.code_len (drop 16 bytes))
  id ← id_at head.has_id records.1
  Ok (message_of bytes head records.0 records.1 id)
