use Rattle.std.proofs.Common.{Err, Ok, ap, ◌∙◌}
use Rattle.ddt_commands.specs.Sockets.{Binds, bind_refusal}
use Rattle.ddt_commands.proofs.SocketLemmas.{binds_as, bound_all, bound_first, bound_more, unbound_at, unbound_first}
use Rattle.ddt_commands.proofs.sockets.bind_all.Goals as goal

pub returns-in-Err-clause-refused : goal.returns-in-Err-clause-refused
returns-in-Err-clause-refused g c = (
  c.args.first,
  c.in-Err.error,
  unbound_first (Binds g.B.Fn c.args.bind.now) c.args.wires.now c.bind.new.arg2 c.args.first c.args.others.now c.in-Err.error
      (binds_as g.B.Fn c.args.bind.now _ _ _ c.bind.result (Err c.in-Err.error) c.in-Err.is c.bind.ensures),
  c.refused_bind.ensures ∙ ap (bind_refusal c.args.first) c.kind.ensures,
)

pub loop-at-init : goal.loop-at-init
loop-at-init g c =
    bound_first (Binds g.B.Fn c.args.bind.now) c.args.wires.now c.bind.new.arg2 c.args.first
    (binds_as g.B.Fn c.args.bind.now _ _ _ c.bind.result (Ok tt) c.in_default.is c.bind.ensures)

pub loop-at-preserved : goal.loop-at-preserved
loop-at-preserved g c =
    bound_more (Binds g.B.Fn c.args.bind.now) c.args.wires.now c.args.first c.args.others.now c.loop-at.at-index _ c.loop-at.wires c.bind-in-loop-at.new.arg2 c.loop-at-test.true c.loop-at.invariant
    (binds_as g.B.Fn c.args.bind.now _ _ _ c.bind-in-loop-at.result (Ok tt) c.in_default-bind.is c.bind-in-loop-at.ensures)

pub returns-in-Err-bind-clause-refused : goal.returns-in-Err-bind-clause-refused
returns-in-Err-bind-clause-refused g c = (
  _,
  c.in-Err-bind.error,
  unbound_at (Binds g.B.Fn c.args.bind.now) c.args.wires.now c.args.first c.args.others.now c.loop-at.at-index _ c.loop-at.wires c.bind-in-loop-at.new.arg2 c.in-Err-bind.error c.loop-at-test.true c.loop-at.invariant
      (binds_as g.B.Fn c.args.bind.now _ _ _ c.bind-in-loop-at.result (Err c.in-Err-bind.error) c.in-Err-bind.is c.bind-in-loop-at.ensures),
  c.refused_bind-in-Err-bind.ensures ∙ ap (bind_refusal _) c.kind-in-Err-bind.ensures,
)

pub returns-clause-bound : goal.returns-clause-bound
returns-clause-bound g c =
    bound_all (Binds g.B.Fn c.args.bind.now) c.args.wires.now c.loop-at.wires c.args.first c.args.others.now c.loop-at.at-index c.loop-at-test.false c.loop-at.invariant
