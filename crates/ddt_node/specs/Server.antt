-- What a server does with a datagram (RFC 8111, sections 7.1 and 7.2). A DDT Map-Request, whose bit D is set, is
-- answered by a Map-Referral. A Map-Server that acknowledges it forwards it to the ETR of the site.
use Rattle.std.specs.Prelude.{ℕ, ◌≡◌, ◌+◌, ◌*◌, ◌/◌, ◌%◌, Bool, true, false, if◌then◌else◌, List, [], ◌∷◌, Option, Some, None, Result, Ok, Err, option_and_then, slice_get}
use Rattle.std.specs.Option.{option_map, option_map_or}
use Rattle.ddt_path.specs.declared.locator.Locator.{Locator}
use Rattle.ddt_path.specs.declared.action.Action.{Action}
use Rattle.ddt_path.specs.declared.action.Action.TheVariants.{NodeReferral, MsReferral, MsAck, MsNotRegistered, DelegationHole, NotAuthoritative}
use Rattle.ddt_path.specs.Path.{xeid_path}
use Rattle.ddt_path.specs.Matching.{longest_match}
use Rattle.ddt_config.specs.declared.site_entry.SiteEntry.{SiteEntry}
use Rattle.ddt_config.specs.declared.authority.Content.{Content}
use Rattle.ddt_config.specs.declared.authority.Content.TheVariants.{Children, Sites}
use Rattle.ddt_config.specs.declared.authority.Authority.{Authority}
use Rattle.ddt_config.specs.Table.{Outline}
use Rattle.ddt_config.specs.Answer.{answer}
use Rattle.ddt_wire.specs.Referral.{written, message_of, Message as ReferralMessage, Spells as SpellsReferral}
use Rattle.ddt_ecm.specs.declared.fault.RequestFault.{RequestFault}
use Rattle.ddt_ecm.specs.EcmHeader.{s_place, d_place}
use Rattle.ddt_ecm.specs.Request.{Message, Spells as SpellsRequest, message_in}
use Rattle.ddt_node.specs.declared.datagram.BufferedReply.{BufferedReply}
use Rattle.ddt_node.specs.declared.forward.Forward.{Forward}
use Rattle.ddt_node.specs.declared.datagram.Handled.{Handled}

-- the longest authority that covers the identifier
abbrev pub authority_of : Outline → List ℕ → Option Authority
authority_of c x = longest_match (λ a. a.prefix) c.authorities x

-- the longest site in it that covers the identifier
abbrev pub site_in : List ℕ → Content → Option SiteEntry
site_in x (Children cs) = None
site_in x (Sites ss) = longest_match (λ s. s.prefix) ss x

-- its first ETR, if one is registered
abbrev pub etr_in : List ℕ → Content → Option Locator
etr_in x content = option_and_then (λ s. slice_get s.etrs 0) (site_in x content)

-- the ETR to which an acknowledged request is forwarded
abbrev pub first_etr : Outline → List ℕ → Option Locator
first_etr c x = option_and_then (λ a. etr_in x a.content) (authority_of c x)

-- a datagram with the bit D of its first byte clear: the bits down to S, and those after D
abbrev pub without_d : List ℕ → List ℕ
without_d [] = []
without_d (b ∷ others) = (b / s_place * s_place + b % d_place) ∷ others

-- the request that is forwarded to an ETR: as it was received, but with the bit D clear
abbrev pub forward_to : List ℕ → Locator → Forward
forward_to bytes_ to_ = record { to = to_; bytes = without_d bytes_ }

-- the answer to a DDT Map-Request, and the forwarded request
abbrev pub answered : Outline → List ℕ → Message → Handled
answered c bytes m = record {
  reply = Some (written m.nonce (answer c (xeid_path m.xeid)));
  forward = option_map (forward_to bytes) (first_etr c (xeid_path m.xeid));
}

-- no answer, and nothing is forwarded
abbrev pub ignored : Handled
ignored = record { reply = None; forward = None }

-- what is sent, when the reply is in a buffer
abbrev pub in_buffer : List ℕ → BufferedReply → Handled
in_buffer bytes b = record { reply = if b.has_reply then Some bytes else None; forward = b.forward }

-- what is sent for a datagram that is ignored, when a reply would be in a buffer: nothing
abbrev pub nothing_sent : BufferedReply
nothing_sent = record { has_reply = false; forward = None }

-- the bytes spell a DDT Map-Request
abbrev pub IsDdtRequest : List ℕ → Message → Type 0
IsDdtRequest bytes m = SpellsRequest bytes m × (m.ddt ≡ true)

-- what its reply says: its nonce, and the answer for its identifier
abbrev pub reply_to : Outline → Message → ReferralMessage
reply_to c m = message_of m.nonce (answer c (xeid_path m.xeid))

-- there is a reply, and its bytes spell the message
abbrev pub HasReply : Option (List ℕ) → ReferralMessage → Type 0
HasReply None v = ⊥
HasReply (Some bytes) v = SpellsReferral bytes v

-- the request that the bytes are, if its bit D is set
abbrev pub if_ddt : Result Message RequestFault → Option Message
if_ddt (Ok m) = if m.ddt then Some m else None
if_ddt (Err fault) = None

-- the DDT Map-Request that the bytes are; none where they are no request, or one of an ITR with the bit D clear
abbrev pub ddt_request : List ℕ → Option Message
ddt_request bytes = if_ddt (message_in bytes)

-- any other datagram is ignored
abbrev pub handled_as : Outline → List ℕ → Option Message → Handled
handled_as c bytes (Some m) = answered c bytes m
handled_as c bytes None = ignored

-- What a server with this configuration sends for a datagram: a Map-Referral, and on MS-ACK also the request to the
-- site's first ETR; nothing where it is no DDT Map-Request.
abbrev pub handled : Outline → List ℕ → Handled
handled c bytes = handled_as c bytes (ddt_request bytes)

-- whether a request is acknowledged: MS-ACK
abbrev pub is_ack : Action → Bool
is_ack MsAck = true
is_ack NodeReferral = false
is_ack MsReferral = false
is_ack MsNotRegistered = false
is_ack DelegationHole = false
is_ack NotAuthoritative = false

-- whether a datagram is a DDT Map-Request that is answered by MS-ACK: only then is the request forwarded to an ETR
abbrev pub acknowledges : Outline → List ℕ → Bool
acknowledges c bytes = option_map_or (λ m. is_ack (answer c (xeid_path m.xeid)).action) (ddt_request bytes) false
