use Rattle.ddt_plan.proofs.SinkLemmas.{refused_one}
use Rattle.ddt_plan.proofs.sink.give.Goals as goal

pub returns-in-Err-clause-given : goal.returns-in-Err-clause-given
returns-in-Err-clause-given g c = refused_one g.S.Sink.takes c.args.item c.args.sink.now c.give.new.self c.in-Err.refusal c.in-Err.ensures
