-- What comes of a packet for the ITRs that wait.
use Rattle.std.specs.Prelude.{ℕ, ◌≡◌, List, length, Option, Some, None}
use Rattle.ddt_path.specs.declared.locator.Locator.{Locator}
use Rattle.ddt_resolver.specs.declared.itr_messages.ItrRequest.{ItrRequest}
use Rattle.ddt_resolver.specs.Front.{IsItrRequest}
use Rattle.ddt_resolver.specs.State.{moved}
use Rattle.ddt_resolver.specs.Step.{Hear}
use Rattle.ddt_loop.specs.declared.packet_outcome.PacketOutcome.{PacketOutcome}
use Rattle.ddt_loop.specs.declared.packet_outcome.PacketOutcome.TheVariants.{Nothing, Waits, Ended}
use Rattle.ddt_loop.specs.declared.packet_outcome.Ended.{Ended as End}
use Rattle.ddt_loop.specs.declared.requester.Requester.TheVariants.{Itr}
use Rattle.ddt_loop.specs.Requesters.{with_requester}
use Rattle.ddt_loop.specs.Acts.{Running}
use Rattle.ddt_loop.specs.Ends.{EndsBy, waiting_itrs}

-- What comes of an ITR's request of so many bytes: the ITR waits for the lookup of this ticket. Without a ticket no
-- lookup has started: the outcome was remembered, or the ask was refused.
abbrev pub outcome_of_request : Option ℕ → ℕ → PacketOutcome
outcome_of_request (Some t) len = Waits t len
outcome_of_request None len = Nothing

-- what comes of a datagram of this server: it has ended the lookup of an ITR, or none
abbrev pub outcome_of_reply : Locator → Option End → PacketOutcome
outcome_of_reply by_ (Some e) = Ended by_ e
outcome_of_reply by_ None = Nothing

-- What a packet of these bytes, from a source, does for the ITRs that wait. Nothing: the same wait as before. An ITR
-- waits: these bytes, all of them, are its request. A lookup has ended: its ITR waits no longer, and the source ended
-- it by these bytes.
abbrev pub IsPacketOutcome : ℕ → Locator → List ℕ → Running → Running → PacketOutcome → Type 0
IsPacketOutcome now from bytes w new Nothing = waiting_itrs new.desk.waiting ≡ waiting_itrs w.desk.waiting
IsPacketOutcome now from bytes w new (Waits t len) =
    (len ≡ length bytes) × ((q : ItrRequest) × IsItrRequest bytes q × (new.desk ≡ with_requester w.desk t (Itr q)))
IsPacketOutcome now from bytes w new (Ended by_ e) =
    (by_ ≡ from) × EndsBy (Hear from bytes) (moved now w.state) new.state w.desk.waiting new.desk.waiting e
