-- The turns of a server that also answers ITRs, and reads what other implementations write (RFC 8111, sections 7.1 and
-- 7.2; RFC 9301, sections 5, 5.2 and 8.3).
use Rattle.std.specs.Prelude.{ℕ, ◌≡◌, ◌≢◌, ◌&&◌, Bool, true, false, if◌then◌else◌, List, [], ◌∷◌, ◌++◌, length, slice_get, flat_map, All, count_by, is_some, Option, Some, None, Result, Ok, Err}
use Rattle.std.specs.Option.{option_map}
use Rattle.ddt_path.specs.declared.locator.Locator.{Locator}
use Rattle.ddt_path.specs.declared.record.Outcome.{Outcome}
use Rattle.ddt_path.specs.declared.record.ReferralRecord.{ReferralRecord}
use Rattle.ddt_path.specs.declared.record.Role.{Role}
use Rattle.ddt_path.specs.declared.record.Role.TheVariants.{Node, Ms}
use Rattle.ddt_path.specs.Path.{xeid_path}
use Rattle.ddt_config.specs.Table.{Outline}
use Rattle.ddt_config.specs.Answer.{answer}
use Rattle.ddt_wire.specs.Referral.{written}
use Rattle.ddt_ecm.specs.UdpHeader.{control_port}
use Rattle.ddt_foreign.specs.declared.fault.ForeignRequestFault.{ForeignRequestFault}
use Rattle.ddt_foreign.specs.declared.fault.ForeignRequestFault.TheVariants as fault
use Rattle.ddt_foreign.specs.Request.{Asked, request_in}
use Rattle.ddt_node.specs.Server.{first_etr, without_d}
use Rattle.ddt_sockets.specs.declared.wire_calls.Call.{Call}
use Rattle.ddt_sockets.specs.declared.wire_calls.Call.TheVariants.{Received, Tried}
use Rattle.ddt_sockets.specs.declared.wire_calls.NetFault.{NetFault}
use Rattle.ddt_sockets.specs.declared.wire_calls.Packet.{Packet}
use Rattle.ddt_sockets.specs.declared.server_turns.Served.{Served}
use Rattle.ddt_sockets.specs.Turns.{Outgoing, AreTried, most_bytes, is_received, first_went_out}
use Rattle.ddt_resolver.specs.declared.itr_messages.ItrRequest.{ItrRequest}
use Rattle.ddt_resolver.specs.Front.{reply_to_itr}
use Rattle.ddt_resolver.specs.Records.{negative_answer}
use Rattle.ddt_loop.specs.Acts.{sent, sent_if}
use Rattle.ddt_config.specs.declared.settings.server_settings.ServerSettings.{ServerSettings}
use Rattle.ddt_config.specs.Settings.Rlocs.{is_allowed}
use Rattle.ddt_daemon.specs.declared.service.Service.{Service}
use Rattle.ddt_daemon.specs.declared.service.Service.TheVariants.{NoRequest, UnrecognizedAfi, Probe, Denied, Client, Itr}
use Rattle.ddt_daemon.specs.Requests.{is_one}

abbrev pub is_map_server : Role → Bool
is_map_server Ms = true
is_map_server Node = false

-- The kind of client of a datagram from an address, or why it is dropped. Only a Map-Server answers ITRs, and only
-- those whose addresses its settings allow.
abbrev pub service_for : Role → ServerSettings → Locator → Asked → Service
service_for role settings from v =
    if v.probe then Probe
    else if v.ddt then Client
    else if is_map_server role && is_allowed settings.allow from then Itr
    else Denied

abbrev pub service_of : Role → ServerSettings → Locator → Result Asked ForeignRequestFault → Service
service_of role settings from (Ok v) = service_for role settings from v
service_of role settings from (Err fault.UnrecognizedAfi) = UnrecognizedAfi
service_of role settings from (Err _) = NoRequest

-- what an ITR asks, where the first of its ITR-RLOCs is this
abbrev pub of_itr : Asked → Locator → ItrRequest
of_itr v l = record { xeid = v.xeid; nonce = v.nonce; to = l; port = v.port }

-- the negative Map-Reply to an ITR that wants a Map-Reply; none for another outcome
abbrev pub told_itr : Asked → Option Outcome → Option Locator → List Outgoing
told_itr v (Some o) (Some l) = sent_if (reply_to_itr o (of_itr v l))
told_itr v (Some o) None = []
told_itr v None first = []

abbrev pub negative_to : Asked → ReferralRecord → List Outgoing
negative_to v rec =
    if v.reply then told_itr v (negative_answer rec.action rec.prefix rec.servers) (slice_get v.rlocs 0) else []

-- What is replied. A DDT client is sent a Map-Referral, where it asked from. An ITR is sent the negative Map-Reply to a
-- hole or to a site that isn't registered.
abbrev pub reply_for : Outline → Packet → Asked → Service → List Outgoing
reply_for c p v Client =
    record { to = p.from; port = p.port; bytes = written v.nonce (answer c (xeid_path v.xeid)) } ∷ []
reply_for c p v Itr = negative_to v (answer c (xeid_path v.xeid))
reply_for c p v _ = []

-- an ITR's request goes on to an ETR as it came, but never to a locator of the Map-Servers themselves
abbrev pub on_as_it_came : List Locator → List ℕ → Option Locator → List Outgoing
on_as_it_came own bytes_ None = []
on_as_it_came own bytes_ (Some etr) =
    if is_one own etr then [] else record { to = etr; port = control_port; bytes = bytes_ } ∷ []

-- a DDT client's goes on with the bit D clear
abbrev pub on_without_d : List ℕ → Option Locator → List Outgoing
on_without_d bytes_ None = []
on_without_d bytes_ (Some etr) = record { to = etr; port = control_port; bytes = without_d bytes_ } ∷ []

-- what goes on to the first ETR of a site that is registered
abbrev pub onward_for : Outline → List ℕ → Asked → Service → List Outgoing
onward_for c bytes v Client = on_without_d bytes (first_etr c (xeid_path v.xeid))
onward_for c bytes v Itr = on_as_it_came c.locators bytes (first_etr c (xeid_path v.xeid))
onward_for c bytes v _ = []

-- what a server sends for a packet, the reply first
abbrev pub replies : Outline → Packet → Service → Result Asked ForeignRequestFault → List Outgoing
replies c p s (Ok v) = reply_for c p v s
replies c p s (Err e) = []

abbrev pub onwards : Outline → List ℕ → Service → Result Asked ForeignRequestFault → List Outgoing
onwards c bytes s (Ok v) = onward_for c bytes v s
onwards c bytes s (Err e) = []

abbrev pub replies_to : Outline → ServerSettings → Packet → List ℕ → List Outgoing
replies_to c settings p bytes = replies c p (service_of c.role settings p.from (request_in bytes)) (request_in bytes)

abbrev pub sends_to : Outline → ServerSettings → Packet → List ℕ → List Outgoing
sends_to c settings p bytes =
    replies_to c settings p bytes
    ++ onwards c bytes (service_of c.role settings p.from (request_in bytes)) (request_in bytes)

-- One turn. `no_packet`, `failed`: the one call of `receive` gave no packet. `served`: it gave one, and what the server
-- sends for it is tried. `out_of_memory`: it gave one for which there is something to send, and no memory for that.
pub data IsTurn (c : Outline) (settings : ServerSettings) (at : Locator) : List Call → Type 0 where
  no_packet : IsTurn c settings at (Received at most_bytes (Ok None) [] ∷ [])
  failed : (fault : NetFault) → IsTurn c settings at (Received at most_bytes (Err fault) [] ∷ [])
  served : (p : Packet) (bytes : List ℕ) (tries : List Call) → AreTried at (sends_to c settings p bytes) tries
      → IsTurn c settings at (Received at most_bytes (Ok (Some p)) bytes ∷ tries)
  out_of_memory : (p : Packet) (bytes : List ℕ) → sends_to c settings p bytes ≢ []
      → IsTurn c settings at (Received at most_bytes (Ok (Some p)) bytes ∷ [])

-- a number of turns, one after the other
pub record AreTurns (c : Outline) (settings : ServerSettings) (at : Locator) (count : ℕ) (calls : List Call) : Type 0
  where
    pub turns : List (List Call)
    pub calls_are : calls ≡ flat_map (λ turn. turn) turns
    pub count_is : length turns ≡ count
    pub each : All (IsTurn c settings at) turns
