-- What commands do over wires and a clock.
use Rattle.std.specs.Prelude.{ℕ, ◌≡◌, List, Option}
use Rattle.ddt_sockets.specs.declared.wire_calls.Call.{Call as WireCall}
use Rattle.ddt_commands.specs.Commands.Loop.{Looping, LoopsOver}
use Rattle.ddt_commands.specs.Commands.Serve.{Serving, ServesOver}
use Rattle.ddt_commands.specs.Sockets.{Binding}

-- Wires are left as they were, and a clock isn't read; or what comes of a server, or of the servers of a register and a
-- resolver.
pub record OverWires : Type 1 where
  pub untouched : Type 0
  pub unread : Type 0
  pub serves : Serving
  pub loops : Looping

-- the same where wires and a clock were these before, and are those after
abbrev pub over_wires : {W C : Type 0} → Binding W → (W → Option (List WireCall)) → (C → Option (List ℕ)) → W → W → C
    → C → OverWires
over_wires binds calls readings before after clock clock_after = record {
  untouched = after ≡ before;
  unread = clock_after ≡ clock;
  serves = ServesOver binds calls before after;
  loops = LoopsOver binds calls readings before after clock clock_after;
}
