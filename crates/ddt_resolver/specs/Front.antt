-- The side of a Map-Resolver that ITRs see. An ITR asks by an Encapsulated Map-Request whose bit D is clear. Where no
-- ETR is to answer it, a negative Map-Reply does (RFC 8111, section 7.3; RFC 9301, sections 5.4 and 5.8).
use Rattle.std.specs.Prelude.{ℕ, ◌≡◌, Bool, false, nat_lt, if◌then◌else◌, List, length, take, Option, Some, None, slice_get}
use Rattle.std.specs.Option.{option_map}
use Rattle.ddt_path.specs.declared.locator.Locator.{Locator}
use Rattle.ddt_path.specs.declared.record.Outcome.{Outcome}
use Rattle.ddt_path.specs.declared.record.Outcome.TheVariants.{Registered, NotRegistered, Hole}
use Rattle.ddt_path.specs.declared.xeid.Xeid.{Xeid}
use Rattle.ddt_path.specs.Path.{xeid_path}
use Rattle.ddt_path.specs.Records.{hole_ttl, not_registered_ttl}
use Rattle.ddt_ecm.specs.Request.{Message, Spells}
use Rattle.ddt_wire.specs.NegativeReply.{written_reply, reply_of}
use Rattle.ddt_resolver.specs.declared.results.Outgoing.{Outgoing}
use Rattle.ddt_resolver.specs.declared.itr_messages.ItrRequest.{ItrRequest}

-- ---- what an ITR asks

-- a message whose bit D is clear asks for its identifier; the answer carries its nonce, and goes to its first ITR-RLOC
-- at its inner source port
pub record AsksAsItr (m : Message) (q : ItrRequest) : Type 0 where
  pub plain : m.ddt ≡ false
  pub identifier : q.xeid ≡ m.xeid
  pub nonce : q.nonce ≡ m.nonce
  pub first_rloc : slice_get m.rlocs 0 ≡ Some q.to
  pub port : q.port ≡ m.port

-- these bytes, all of them, spell a request of an ITR
pub record IsItrRequest (bytes : List ℕ) (q : ItrRequest) : Type 0 where
  pub message : Message
  pub spells : Spells bytes message
  pub asks : AsksAsItr message q

-- what a message asks, if its bit D is clear
abbrev pub asked_at : Message → Locator → ItrRequest
asked_at m l = record { xeid = m.xeid; nonce = m.nonce; to = l; port = m.port }

-- what an ITR asks by this message; none where the bit D is set, for then a resolver asks, or without an ITR-RLOC
abbrev pub asked_by : Message → Option ItrRequest
asked_by m = if m.ddt then None else option_map (asked_at m) (slice_get m.rlocs 0)

-- ---- what it is answered

-- the number of digits before the address: those of the instance, and the family's
abbrev pub before_address : ℕ
before_address = 33

-- A Map-Reply has the prefix of a block. In place of a range of instances it has all addresses of the identifier's own
-- instance and family.
abbrev pub block_for : Xeid → List ℕ → List ℕ
block_for x p = if nat_lt (length p) before_address then take before_address (xeid_path x) else p

-- the TTL in minutes, and the prefix; none where the ETRs of a registered site answer
abbrev pub negative_for : Xeid → Outcome → Option (ℕ × List ℕ)
negative_for x (Registered p servers) = None
negative_for x (NotRegistered p servers) = Some (not_registered_ttl, block_for x p)
negative_for x (Hole p) = Some (hole_ttl, block_for x p)

-- the negative Map-Reply with this TTL in minutes and this prefix: it repeats the nonce of the request, and goes to
-- its first ITR-RLOC at its inner source port
abbrev pub datagram_for : ItrRequest → (ℕ × List ℕ) → Outgoing
datagram_for q n = record { to = q.to; port = q.port; bytes = written_reply (reply_of q.nonce n.0 n.1) }

-- what is sent to the ITR
abbrev pub reply_to_itr : Outcome → ItrRequest → Option Outgoing
reply_to_itr outcome q = option_map (datagram_for q) (negative_for q.xeid outcome)

-- the datagram to the ITR whose bytes a buffer holds, where there is one
abbrev pub in_buffer : ItrRequest → List ℕ → Bool → Option Outgoing
in_buffer q put there = if there then Some (record { to = q.to; port = q.port; bytes = put }) else None
