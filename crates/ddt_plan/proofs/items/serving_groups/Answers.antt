use Rattle.std.proofs.Common.{rules}
use Rattle.std.proofs.lemmas.Result.{IfOk-weaker}
use Rattle.ddt_plan.specs.Items.{serving_group_at}
use Rattle.ddt_plan.proofs.TableLemmas.{both_values}
use Rattle.ddt_plan.proofs.items.serving_groups.Goals as goal

pub returns : goal.returns
returns c =
    IfOk-weaker c.put_zones-2.result _ _
    (λ groups put. both_values (serving_group_at c.args.before.now) (serving_group_at c.args.after.now)
    c.new.result c.in_ok-old.old groups (λ k. search rules) c.in_ok-old.ensures put)
    c.put_zones-2.ensures
