-- What is taken of a foreign Map-Referral for an identifier, as a record of the one spelling.
use Rattle.std.specs.Prelude.{ℕ, zero, suc, ◌/◌, ◌%◌, ◌^◌, ◌==◌, ◌≡◌, Bool, nat_lt, min, not, if◌then◌else◌, List, drop, length, slice_index, Option, Some, None, Result, Ok, Err}
use Rattle.byteorder.specs.Endian.{big_number}
use Rattle.ddt_path.specs.declared.action.Action.{Action}
use Rattle.ddt_path.specs.declared.action.Action.TheVariants.{NodeReferral, MsReferral, MsAck, MsNotRegistered, DelegationHole, NotAuthoritative}
use Rattle.ddt_path.specs.declared.record.ReferralRecord.{ReferralRecord}
use Rattle.ddt_path.specs.declared.xeid.Xeid.{Xeid}
use Rattle.ddt_path.specs.Actions.{action_of}
use Rattle.ddt_path.specs.Covers.{covers}
use Rattle.ddt_path.specs.Path.{xeid_path}
use Rattle.ddt_path.specs.Records.{not_registered_ttl}
use Rattle.ddt_path.specs.Steps.{◌>>=◌}
use Rattle.ddt_wire.specs.MessageType.{map_referral}
use Rattle.ddt_wire.specs.Referral.{Spells, message_of, message_in}
use Rattle.ddt_foreign.specs.declared.fault.ForeignFault.{ForeignFault}
use Rattle.ddt_foreign.specs.declared.fault.ForeignFault.TheVariants.{Short, MessageType, NotCovering, BadAction}
use Rattle.ddt_foreign.specs.Record.{Foreign, record_at}
use Rattle.ddt_foreign.specs.Order.{servers_of}

-- ---- the record

-- the first of so many records whose prefix covers a path, or the first fault before its end
unfoldable pub covering_at : List ℕ → ℕ → List ℕ → Result Foreign ForeignFault
covering_at x zero bytes = Err NotCovering
covering_at x (suc n) bytes = do
  first ← record_at bytes
  if covers first.0.prefix x then Ok first.0 else covering_at x n first.1

-- the record of a foreign Map-Referral that is taken for an identifier; what follows it is ignored
unfoldable pub foreign_in : Xeid → List ℕ → Result Foreign ForeignFault
foreign_in x bytes =
    if nat_lt (length bytes) 12 then Err Short
    else if not (slice_index bytes 0 / 16 == map_referral) then Err MessageType
    else covering_at (xeid_path x) (slice_index bytes 3) (drop 12 bytes)

-- its nonce
abbrev pub nonce_of : List ℕ → ℕ
nonce_of bytes = big_number 8 (drop 4 bytes)

-- ---- what is kept of it

-- the bit I of its flags
abbrev pub is_incomplete : ℕ → Bool
is_incomplete flags = flags / 2 ^ 11 % 2 == 1

-- the action that ACT names: the codes 6 and 7 name none
abbrev pub named : Option Action → Result Action ForeignFault
named (Some action) = Ok action
named None = Err BadAction

abbrev pub action_in : ℕ → Result Action ForeignFault
action_in flags = named (action_of (flags / 2 ^ 13))

-- how long an answer of an action may be kept at most
abbrev pub capped : Action → ℕ → ℕ
capped NodeReferral ttl = ttl
capped MsReferral ttl = ttl
capped MsAck ttl = ttl
capped MsNotRegistered ttl = min ttl not_registered_ttl
capped DelegationHole ttl = ttl
capped NotAuthoritative ttl = ttl

-- how long it is kept: of an incomplete one not at all
abbrev pub kept_ttl : Action → Bool → ℕ → ℕ
kept_ttl action incomplete ttl = if incomplete then 0 else capped action ttl

-- the record in the words of the one spelling
abbrev pub plain_record : Action → Foreign → ReferralRecord
plain_record action_ r = record {
  action = action_;
  prefix = r.prefix;
  ttl = kept_ttl action_ (is_incomplete r.flags) r.ttl;
  incomplete = is_incomplete r.flags;
  servers = servers_of r.locators;
}

-- the record that is taken, with its action; or the first fault, of which a wrong action comes last
unfoldable pub taken_in : Xeid → List ℕ → Result (Foreign × Action) ForeignFault
taken_in x bytes = do
  r ← foreign_in x bytes
  action ← action_in r.flags
  Ok (r, action)

-- the plain record of what is taken for an identifier, or the first fault
unfoldable pub plain_in : Xeid → List ℕ → Result ReferralRecord ForeignFault
plain_in x bytes = taken_in x bytes >>= λ taken. Ok (plain_record taken.1 taken.0)

-- ---- what is given

-- bytes that are read as the plain record with the same nonce
pub record Gives (x : Xeid) (bytes given : List ℕ) : Type 0 where
  pub plain : ReferralRecord
  pub taken : plain_in x bytes ≡ Ok plain
  pub spelled : Spells given (message_of (nonce_of bytes) plain)
  pub read : message_in given ≡ Ok (message_of (nonce_of bytes) plain)
