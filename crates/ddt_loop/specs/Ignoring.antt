-- Why a datagram that came is ignored (RFC 8111, section 7.3).
use Rattle.std.specs.Prelude.{ℕ, ◌≡◌, List, Option, None, Some}
use Rattle.ddt_ecm.specs.UdpHeader.{control_port}
use Rattle.ddt_sockets.specs.declared.wire_calls.Packet.{Packet}
use Rattle.ddt_resolver.specs.declared.results.Heard.TheVariants as heard
use Rattle.ddt_resolver.specs.declared.results.Ignored.{Ignored}
use Rattle.ddt_resolver.specs.declared.step.Reply.{Reply}
use Rattle.ddt_resolver.specs.declared.step.Reply.TheVariants.{ToAsk, ToDatagram, ToTick}
use Rattle.ddt_resolver.specs.State.{State, moved}
use Rattle.ddt_resolver.specs.Step.{ResolverCall, Step, Wants}
use Rattle.ddt_resolver.specs.MatchReply.{Ignores}
use Rattle.ddt_loop.specs.Acts.{Running}

-- why a step has ignored the datagram, by its reply; nothing where it hasn't, or where there was none
abbrev pub ignored_of : Reply → Option Ignored
ignored_of (ToAsk answer) = None
ignored_of (ToDatagram (heard.Ignored why)) = Some why
ignored_of (ToDatagram (heard.Followed t d)) = None
ignored_of (ToDatagram (heard.Answer t o)) = None
ignored_of (ToDatagram (heard.GaveUp t why)) = None
ignored_of (ToTick ticked) = None

-- What a step says of why it ignores its datagram. `replies`: what its reply says. `fails`: memory ran out, and nothing
-- is ignored.
pub data SaysWhy (s : State) (call : ResolverCall) (new : State) (why : Option Ignored) : Type 0 where
  replies : (reply : Reply) → Step s call new reply → why ≡ ignored_of reply → SaysWhy s call new why
  fails : Wants s call → why ≡ None → SaysWhy s call new why

-- a packet of these bytes comes from UDP port 4342, and the resolver ignores it at a moment for this reason
abbrev pub IsIgnored : ℕ → Packet → List ℕ → Running → Ignored → Type 0
IsIgnored now p bytes w why = (p.port ≡ control_port) × Ignores (moved now w.state) p.from bytes why
