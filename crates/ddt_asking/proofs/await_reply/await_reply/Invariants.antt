use Rattle.std.proofs.Common.{◌≡◌, length}
use Rattle.ddt_sockets.specs.Turns.{most_bytes}
use Rattle.ddt_asking.proofs.TryLemmas.{IsWaiting}
use Rattle.ddt_asking.proofs.await_reply.await_reply.Given as goal

-- so many polls in vain so far
abbrev pub invariant-loop-poll : goal.invariant-loop-poll
invariant-loop-poll g l = record {
  waiting : IsWaiting (g.W.Wires.calls l.fn.wires) (g.W.Wires.calls l.wires) (g.C.Clock.readings l.fn.clock)
      (g.C.Clock.readings l.clock) l.wait l._poll;
  room : length l.buffer ≡ most_bytes;
}
