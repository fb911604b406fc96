use Rattle.std.proofs.Common.{◌≡◌, length}
use Rattle.ddt_sockets.specs.Turns.{most_bytes}
use Rattle.ddt_asking.proofs.TryLemmas.{IsTrying}
use Rattle.ddt_asking.proofs.retries.try_until_reply.Given as goal

-- so many tries without a reply so far
abbrev pub invariant-loop-try : goal.invariant-loop-try
invariant-loop-try g l = record {
  trying : IsTrying (g.W.Wires.calls l.fn.wires) (g.W.Wires.calls l.wires) (g.C.Clock.readings l.fn.clock)
      (g.C.Clock.readings l.clock) l.options l.request l.awaited l._try;
  room : length l.buffer ≡ most_bytes;
}
