use Rattle.std.proofs.Common.{false, true}
use Rattle.ddt_plan.proofs.SideLemmas.{settled_goes, is_settled}
use Rattle.ddt_plan.proofs.sides.sides_at_halves.Goals as goal

pub returns-in-Settled : goal.returns-in-Settled
returns-in-Settled c =
    let is = is_settled c.args.accepted.now c.args.whole c.args.side.now c.in-Settled.outcome c.requires.side c.in-Settled.is in
    (settled_goes c.args.accepted.now false c.args.whole c.in-Settled.outcome is, settled_goes c.args.accepted.now true c.args.whole c.in-Settled.outcome is)
