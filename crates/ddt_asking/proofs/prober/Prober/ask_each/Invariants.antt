use Rattle.std.proofs.Common.{◌≡◌, length, map, take}
use Rattle.ddt_sockets.specs.Turns.{most_bytes}
use Rattle.ddt_asking.specs.declared.verdict.Finding.{Finding}
use Rattle.ddt_asking.proofs.AskLemmas.{IsAsking}
use Rattle.ddt_asking.proofs.prober.Prober.ask_each.Given as goal

-- the first questions are asked so far
abbrev pub invariant-loop-question : goal.invariant-loop-question
invariant-loop-question g l = record {
  asking : IsAsking (g.W.Wires.calls l.fn.wires) (g.W.Wires.calls l.wires) (g.C.Clock.readings l.fn.clock)
      (g.C.Clock.readings l.clock) l.self.options l.x (g.R.Rng.stream l.fn.nonces) l.findings.items
      (g.R.Rng.stream l.nonces);
  each : map (λ (f : Finding). f.question) l.findings.items ≡ take l.question-index l.questions;
  room : length l.buffer ≡ most_bytes;
}
