-- What is done while questions are asked, in steps.
use Rattle.std.specs.Prelude.{ℕ, List, map, Option}
use Rattle.ddt_sockets.specs.declared.wire_calls.Call.{Call}
use Rattle.ddt_sockets.specs.Calls.{RecordsCalls}

-- a call of wires, and the moment that the clock gave behind it
pub record WireStep : Type 0 where
  pub call : Call
  pub moment : ℕ

abbrev pub step_of : Call → ℕ → WireStep
step_of made read = record { call = made; moment = read }

-- Wires that tell their calls have told those of these steps, in their order, and a clock that tells its readings has
-- told their moments.
pub record HasDone (told telling : Option (List Call)) (read reading : Option (List ℕ)) (steps : List WireStep) : Type 0
  where
    pub calls : RecordsCalls told (map (λ s. s.call) steps) telling
    pub moments : RecordsCalls read (map (λ s. s.moment) steps) reading
