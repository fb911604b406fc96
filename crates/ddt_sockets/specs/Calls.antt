-- The calls of wires, and what is told of calls and readings.
use Rattle.std.specs.Prelude.{ℕ, ◌≡◌, List, [], ◌++◌, length, take, Option, Some, None, Result, Ok, Err}
use Rattle.ddt_path.specs.declared.locator.Locator.{Locator}
use Rattle.ddt_sockets.specs.declared.wire_calls.Call.{Call}
use Rattle.ddt_sockets.specs.declared.wire_calls.Call.TheVariants.{Received}
use Rattle.ddt_sockets.specs.declared.wire_calls.NetFault.{NetFault}
use Rattle.ddt_sockets.specs.declared.wire_calls.Packet.{Packet}

-- What records its calls, as wires, or its readings, as a clock, now tells these too, in their order, or tells none any
-- more. What tells none never begins to.
abbrev pub RecordsCalls : {A : Type 0} → Option (List A) → List A → Option (List A) → Type 0
RecordsCalls before more None = Unit {0}
RecordsCalls None more (Some now) = ⊥
RecordsCalls (Some before) more (Some now) = now ≡ before ++ more

-- the bytes of the packet that an answer gives: so many at the front of the buffer
abbrev pub packet_bytes : Result (Option Packet) NetFault → List ℕ → List ℕ
packet_bytes (Ok (Some p)) buffer = take p.len buffer
packet_bytes (Ok None) buffer = []
packet_bytes (Err fault) buffer = []

-- the call of `receive` with this answer, which leaves this buffer
abbrev pub received : Locator → Result (Option Packet) NetFault → List ℕ → Call
received at answer buffer = Received at (length buffer) answer (packet_bytes answer buffer)
