-- The types of control messages, in the first four bits of each (RFC 9301, section 5.1; RFC 8111, section 6.4).
use Rattle.std.specs.Prelude.{ℕ, ◌/◌, ◌==◌, Bool, false, List, [], ◌∷◌}
use Rattle.ddt_wire.specs.declared.message_type.MessageType.{MessageType}
use Rattle.ddt_wire.specs.declared.message_type.MessageType.TheVariants.{MapRequest, MapReply, MapReferral, Encapsulated}

-- a Map-Request, which asks where an EID is; here it always comes inside an Encapsulated Control Message
abbrev pub map_request : ℕ
map_request = 1

-- a Map-Reply, the answer to an ITR; here only negative ones are read and written
abbrev pub map_reply : ℕ
map_reply = 2

-- a Map-Referral, the answer to a DDT Map-Request (RFC 8111, section 6.4)
abbrev pub map_referral : ℕ
map_referral = 6

-- an Encapsulated Control Message
abbrev pub encapsulated : ℕ
encapsulated = 8

-- the number of each type
abbrev pub number_of : MessageType → ℕ
number_of MapRequest = map_request
number_of MapReply = map_reply
number_of MapReferral = map_referral
number_of Encapsulated = encapsulated

-- the first four bits are those of a message of this type
abbrev pub is_of : MessageType → List ℕ → Bool
is_of type [] = false
is_of type (first ∷ rest) = first / 16 == number_of type
