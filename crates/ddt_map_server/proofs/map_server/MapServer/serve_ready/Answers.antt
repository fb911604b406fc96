use Rattle.std.proofs.Common.{◌+◌, arith, inl, inr, refl}
use Rattle.ddt_map_server.proofs.TurnLemmas.{not_turned, turned_on}
use Rattle.ddt_map_server.proofs.map_server.MapServer.serve_ready.Goals as goal

pub returns-then-not-turn-clause-serves : goal.returns-then-not-turn-clause-serves
returns-then-not-turn-clause-serves g c = λ c' f.
    let before = c.loop-turn.invariant.0 c' f in
    let w = c.turn.ensures.turn c' before.0 in
    let so_far = turned_on w.1 before.1 w.2 w.3 in (
      w.0,
      c.loop-turn._turn + 1,
      inr (omega (arith, c.loop-turn-test.true), omega (arith, c.loop-turn.invariant.2)),
      so_far.calls,
      so_far.told,
      so_far.turns,
    )

pub loop-turn-preserved : goal.loop-turn-preserved
loop-turn-preserved g c = (
  λ c' f.
      let before = c.loop-turn.invariant.0 c' f in
      let w = c.turn.ensures.turn c' before.0 in
      (w.0, turned_on w.1 before.1 w.2 w.3),
  omega (arith, c.turn.ensures.room),
  omega (arith, c.loop-turn.invariant.2),
)

pub loop-turn-init : goal.loop-turn-init
loop-turn-init g c = (λ c' f. (f, not_turned _ _ _ _ _ _), c.requires, refl)
