use Rattle.std.proofs.Common.{sym, ◌∙◌}
use Rattle.ddt_loop.proofs.LoopLemmas.{turning_at_start, turning_on}
use Rattle.ddt_loop.proofs.turn_loop.take_turns.Goals as goal

pub loop-number-init : goal.loop-number-init
loop-number-init g c = turning_at_start c.requires

pub loop-number-preserved : goal.loop-number-preserved
loop-number-preserved g c =
    let w = c.take_turn.ensures.turn in
    turning_on c.loop-number.invariant (sym c.have_unresolved.ensures ∙ c.if-not-have_unresolved.false) c.now.ensures w.1 w.2 c.take_turn.ensures.waiting
