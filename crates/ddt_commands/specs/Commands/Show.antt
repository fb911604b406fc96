-- `show HEX`.
use Rattle.std.specs.Prelude.{ℕ, ◌≡◌, ◌≢◌, ◌⊎◌, ◌/◌, List, codes, Option, option_map, slice_get, Some, Ok, Err, IsErr, [], ◌∷◌, true}
use Rattle.hex.specs.Hex.{decode_of}
use Rattle.hex.specs.declared.error.FromHexError.{FromHexError}
use Rattle.hex.specs.declared.error.FromHexError.TheVariants as hex
use Rattle.ddt_wire.specs.declared.fault.ReferralFault.{ReferralFault}
use Rattle.ddt_wire.specs.declared.negative_reply.NegativeReply.{NegativeReply}
use Rattle.ddt_wire.specs.declared.negative_reply.ReplyFault.{ReplyFault}
use Rattle.ddt_wire.specs.MessageType.{map_reply, map_referral, encapsulated}
use Rattle.ddt_wire.specs.NegativeReply.{reply_in}
use Rattle.ddt_wire.specs.Referral as referral
use Rattle.ddt_ecm.specs.declared.fault.RequestFault.{RequestFault}
use Rattle.ddt_ecm.specs.Request as request
use Rattle.ddt_lines.specs.Lines.{ended, referral_text, reply_text, request_text}
use Rattle.ddt_commands.specs.CommandLine.Call.{Call, value}
use Rattle.ddt_commands.specs.declared.commands.show.MessageType.{MessageType}
use Rattle.ddt_commands.specs.declared.commands.show.MessageType.TheVariants.{Reply, Referral, Request}
use Rattle.ddt_commands.specs.declared.refusal.Refusal.{Refusal}
use Rattle.ddt_commands.specs.declared.refusal.Refusal.TheVariants.{NoMessage, OutOfMemory}
use Rattle.ddt_commands.specs.declared.refusal.message.MessageRefusal.TheVariants.{NotHex, UnknownMessage, NoReply, NoReferral, NoRequest}
use Rattle.ddt_commands.specs.declared.command_line.declaration.Declaration.{Declaration}
use Rattle.ddt_commands.specs.CommandLine.Line.{one, takes}
use Rattle.ddt_commands.specs.Ends.{Prints, prints}

-- the word of a call
abbrev pub hex_of : Call → List ℕ
hex_of call = value (codes "hex") call

-- the line of the negative Map-Reply, Map-Referral or request that the bytes spell
abbrev pub IsMessageText : List ℕ → List ℕ → Type 0
IsMessageText bytes text =
    ((v : NegativeReply) × (reply_in bytes ≡ Ok v) × (text ≡ ended (reply_text v)))
    ⊎ ((v : referral.Message) × (referral.message_in bytes ≡ Ok v) × (text ≡ ended (referral_text v)))
    ⊎ ((v : request.Message) × (request.message_in bytes ≡ Ok v) × (text ≡ ended (request_text v)))

-- the line of the message that the word spells in hexadecimal
abbrev pub IsShowText : Call → List ℕ → Type 0
IsShowText call text = (bytes : List ℕ) × (decode_of (hex_of call) ≡ Ok bytes) × IsMessageText bytes text

-- the type of a message, in its first four bits (RFC 8111, section 6.4; RFC 9301, sections 5.4 and 5.8)
abbrev pub type_of : List ℕ → Option ℕ
type_of bytes = option_map (λ byte. byte / 16) (slice_get bytes 0)

-- the number of each type of message that is shown
abbrev pub type_number : MessageType → ℕ
type_number Reply = map_reply
type_number Referral = map_referral
type_number Request = encapsulated

-- the type of no message that is shown: another one, or none
abbrev pub IsUnknownType : Option ℕ → Type 0
IsUnknownType found = (found ≢ Some map_reply) × (found ≢ Some map_referral) × (found ≢ Some encapsulated)

-- the first fault of bytes that are no negative Map-Reply, or that memory ran out for the line of one
abbrev pub IsWhyNoReply : List ℕ → Refusal → Type 0
IsWhyNoReply bytes why =
    ((fault : ReplyFault) × (why ≡ NoMessage (NoReply fault)) × (reply_in bytes ≡ Err fault))
    ⊎ ((v : NegativeReply) × (why ≡ OutOfMemory) × (reply_in bytes ≡ Ok v))

-- the first fault of bytes that are no Map-Referral, or that memory ran out for the line of one
abbrev pub IsWhyNoReferral : List ℕ → Refusal → Type 0
IsWhyNoReferral bytes why =
    ((fault : ReferralFault) × (why ≡ NoMessage (NoReferral fault)) × (referral.message_in bytes ≡ Err fault))
    ⊎ ((v : referral.Message) × (why ≡ OutOfMemory) × (referral.message_in bytes ≡ Ok v))

-- the first fault of bytes that are no encapsulated Map-Request, or that memory ran out for the line of one
abbrev pub IsWhyNoRequest : List ℕ → Refusal → Type 0
IsWhyNoRequest bytes why =
    ((fault : RequestFault) × (why ≡ NoMessage (NoRequest fault)) × (request.message_in bytes ≡ Err fault))
    ⊎ ((v : request.Message) × (why ≡ OutOfMemory) × (request.message_in bytes ≡ Ok v))

-- why bytes aren't shown: their type is none of 2, 6 and 8, they have a fault as a message of their type, or memory is
-- wanted for the line of a message that they are
abbrev pub IsWhyNoMessage : List ℕ → Refusal → Type 0
IsWhyNoMessage bytes why =
    ((type_of bytes ≡ Some map_reply) × IsWhyNoReply bytes why)
    ⊎ ((type_of bytes ≡ Some map_referral) × IsWhyNoReferral bytes why)
    ⊎ ((type_of bytes ≡ Some encapsulated) × IsWhyNoRequest bytes why)
    ⊎ (IsUnknownType (type_of bytes) × (why ≡ NoMessage UnknownMessage))

-- what is refused where decoding a word ends in this fault
abbrev pub hex_refusal : FromHexError → Refusal
hex_refusal hex.OutOfMemory = OutOfMemory
hex_refusal fault = NoMessage NotHex

-- why the word isn't shown: it is no hexadecimal text, memory runs out, or its bytes are no message
abbrev pub IsWhyNotShown : Call → Refusal → Type 0
IsWhyNotShown call why =
    ((why ≡ NoMessage NotHex) × IsErr (decode_of (hex_of call)))
    ⊎ (why ≡ OutOfMemory)
    ⊎ ((bytes : List ℕ) × (decode_of (hex_of call) ≡ Ok bytes) × IsWhyNoMessage bytes why)

-- what `show` takes
abbrev pub show_takes : Declaration
show_takes = takes (codes "show") (one (codes "hex") ∷ [])

-- what `show` prints of a call
abbrev pub show_prints : Call → Prints
show_prints call = prints (λ complete text. (complete ≡ true) × IsShowText call text) (λ why. IsWhyNotShown call why)
