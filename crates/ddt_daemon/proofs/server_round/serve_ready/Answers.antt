use Rattle.std.proofs.Common.{◌+◌, arith, inr}
use Rattle.ddt_daemon.proofs.TurnLemmas.{turned_on}
use Rattle.ddt_daemon.proofs.server_round.serve_ready.Goals as goal

pub returns-then-not-serve_turn-clause-serves : goal.returns-then-not-serve_turn-clause-serves
returns-then-not-serve_turn-clause-serves g c =
    let w = c.serve_turn.ensures.turn in
    let so_far = turned_on w.0 c.loop-turn.invariant.0 w.1 w.2 in (
      c.loop-turn._turn + 1,
      inr (omega (arith, c.loop-turn-test.true), omega (arith, c.loop-turn.invariant.2)),
      so_far.calls,
      so_far.told,
      so_far.turns,
    )

pub loop-turn-preserved : goal.loop-turn-preserved
loop-turn-preserved g c =
    let w = c.serve_turn.ensures.turn in (
      turned_on w.0 c.loop-turn.invariant.0 w.1 w.2,
      omega (arith, c.serve_turn.ensures.room),
      omega (arith, c.loop-turn.invariant.2),
    )
