-- An ITR's own request on its way to an ETR (RFC 8111, sections 5 and 7.2; RFC 9301, section 5.8).
use Rattle.std.specs.Prelude.{ℕ, ◌≡◌, ◌+◌, ◌*◌, ◌/◌, ◌%◌, List, [], ◌∷◌, Option, Some, None, Result, Ok, Err}
use Rattle.ddt_path.specs.declared.locator.Locator.{Locator}
use Rattle.ddt_path.specs.declared.record.Outcome.{Outcome}
use Rattle.ddt_path.specs.declared.record.Outcome.TheVariants.{Registered, NotRegistered, Hole}
use Rattle.ddt_path.specs.Path.{xeid_path}
use Rattle.ddt_config.specs.Table.{Outline}
use Rattle.ddt_ecm.specs.EcmHeader.{s_place, d_place}
use Rattle.ddt_ecm.specs.Request.{Message}
use Rattle.ddt_ecm.specs.UdpHeader.{control_port}
use Rattle.ddt_node.specs.Server.{IsDdtRequest, handled, first_etr}
use Rattle.ddt_sockets.specs.Turns.{Outgoing}
use Rattle.ddt_resolver.specs.declared.results.Why.{Why}
use Rattle.ddt_resolver.specs.declared.itr_messages.ItrRequest.{ItrRequest}
use Rattle.ddt_resolver.specs.Front.{IsItrRequest}

-- a datagram with the bit D of its first byte set: the bits from S on, D, and those after it
abbrev pub with_d : List ℕ → List ℕ
with_d [] = []
with_d (b ∷ others) = (b / s_place * s_place + d_place + b % d_place) ∷ others

-- a server is sent an ITR's request as that of a DDT client
abbrev pub to_server : Locator → List ℕ → Outgoing
to_server to_ request = record { to = to_; port = control_port; bytes = with_d request }

-- What goes on where a lookup has ended so by a datagram of a server. The request of the ITR that waits for it goes to
-- this server if its site is registered, and nowhere for another end.
abbrev pub onward : Locator → Result Outcome Why → Option (List ℕ) → List Outgoing
onward by_ (Ok (Registered p servers)) (Some request) = to_server by_ request ∷ []
onward by_ (Ok (Registered p servers)) None = []
onward by_ (Ok (NotRegistered p servers)) request = []
onward by_ (Ok (Hole p)) request = []
onward by_ (Err why) request = []

-- with the bit D an ITR's request is a DDT Map-Request for the same identifier, of the same nonce
abbrev pub IsStillRequest : Type 0
IsStillRequest = (bytes : List ℕ) (q : ItrRequest) → IsItrRequest bytes q
    → (m : Message) × IsDdtRequest (with_d bytes) m × (m.xeid ≡ q.xeid) × (m.nonce ≡ q.nonce)

-- a Map-Server that has an ETR for the identifier sends the first one the very bytes that the ITR sent
abbrev pub GoesOnAsItCame : Type 0
GoesOnAsItCame = (c : Outline) (bytes : List ℕ) (q : ItrRequest) (etr : Locator) → IsItrRequest bytes q
    → first_etr c (xeid_path q.xeid) ≡ Some etr
    → (handled c (with_d bytes)).forward ≡ Some (record { to = etr; bytes = bytes })
