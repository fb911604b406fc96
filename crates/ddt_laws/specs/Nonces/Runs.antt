-- What follows for a resolver over wires with random nonces.
use Rattle.std.specs.Prelude.{ℕ, ◌≡◌, List, [], Contains, Result}
use Rattle.ddt_path.specs.declared.locator.Locator.{Locator}
use Rattle.ddt_path.specs.declared.xeid.Xeid.{Xeid}
use Rattle.ddt_path.specs.Path.{xeid_path}
use Rattle.ddt_register.specs.declared.register.Register.{Register}
use Rattle.ddt_ecm.specs.UdpHeader.{control_port}
use Rattle.ddt_sockets.specs.declared.wire_calls.Call.{Call}
use Rattle.ddt_sockets.specs.declared.wire_calls.Call.TheVariants.{Tried}
use Rattle.ddt_sockets.specs.declared.wire_calls.NetFault.{NetFault}
use Rattle.ddt_sockets.specs.Nonces.Outstanding.{Request}
use Rattle.ddt_sockets.specs.Nonces.Translation.{IsAsked, Translates}
use Rattle.ddt_resolver.specs.State.{State}
use Rattle.ddt_sim.specs.Sound.{IsSound}
use Rattle.ddt_loop.specs.Acts.{Running, running}
use Rattle.ddt_loop.specs.Requesters.{opening_desk}
use Rattle.ddt_loop.specs.Right.{WasAsked, ArePacketsFair, RepliesAreOwed}
use Rattle.ddt_loop.specs.Runs.{BeginsSound, HasRun}
use Rattle.ddt_loop.specs.Sharing.{Sharer}

-- under each nonce one identifier is asked for
abbrev pub IsAskedOnce : Locator → List Call → Type 0
IsAskedOnce me calls =
    (server to : Locator) (nonce : ℕ) (x y : Xeid) (bytes : List ℕ) (answer : Result (Unit {0}) NetFault)
    → WasAsked me server nonce x calls → Contains calls (Tried me to control_port bytes answer)
    → IsAsked bytes nonce y → xeid_path y ≡ xeid_path x

-- A resolver that runs, from nobody who waits, asks for one identifier under each nonce (RFC 8111, section 7.3).
abbrev pub RunsAskOnce : Type 0
RunsAskOnce = (r : Register) (me : Locator) (start : State) (calls : List Call) (sharers : List Sharer) (w : Running)
    → BeginsSound r me start → HasRun (BeginsSound r me) me (running start (opening_desk [])) calls sharers w
    → IsAskedOnce me calls

-- Where the packets of the wires below are fair, so are those that the resolver is given.
abbrev pub TranslatedPacketsAreFair : Type 0
TranslatedPacketsAreFair =
    (r : Register) (me : Locator) (plain wire : List Call) (sent : List Request) → Translates plain wire sent
    → IsAskedOnce me plain → ArePacketsFair r me wire → ArePacketsFair r me plain

-- Where each reply that the resolver tries is owed, so is each that is tried over the wires below.
abbrev pub TranslatedRepliesAreOwed : Type 0
TranslatedRepliesAreOwed =
    (r : Register) (me : Locator) (plain wire : List Call) (sent : List Request) → Translates plain wire sent
    → RepliesAreOwed r me plain → RepliesAreOwed r me wire

-- A resolver runs over wires with random nonces, from nobody who waits. Where the packets of the wires below are fair,
-- each negative Map-Reply that is tried over them is owed for what the register assigns, and the resolver is sound.
abbrev pub TranslatedRunsAreRight : Type 0
TranslatedRunsAreRight =
    (r : Register) (me : Locator) (start : State) (plain wire : List Call) (sent : List Request)
    (sharers : List Sharer) (w : Running)
    → BeginsSound r me start → HasRun (BeginsSound r me) me (running start (opening_desk [])) plain sharers w
    → Translates plain wire sent → ArePacketsFair r me wire → RepliesAreOwed r me wire × IsSound r w.state
