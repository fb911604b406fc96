use Rattle.std.proofs.Common.{rules}
use Rattle.ddt_plan_commands.proofs.AnswerLemmas.{changes_of}
use Rattle.ddt_plan_commands.proofs.EffectLemmas.{taken_effects}
use Rattle.ddt_plan_commands.proofs.review.compare.Goals as goal

pub returns-clause-found : goal.returns-clause-found
returns-clause-found c =
    let given = c.in_ok-changes_of_sorted.ensures.given in
    record {
      effects = (
        given.0,
        changes_of c.args.reading c.in_ok-pair.pair c.args.before.now c.args.after.now c.in_ok-pair.ensures _ given.0 c.everything.ensures given.1,
        taken_effects given.0 c.default-effects.result c.changes_of_sorted.new.sink (search rules) given.2,
      );
      groups = c.in_ok-groups.ensures;
      items = c.in_ok-items.ensures;
      outdated = c.in_ok-outdated.ensures;
    }
