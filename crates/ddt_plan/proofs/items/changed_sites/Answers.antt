use Rattle.std.proofs.Common.{rules}
use Rattle.std.proofs.lemmas.Result.{IfOk-weaker}
use Rattle.ddt_plan.specs.Changes.{are_same_servers}
use Rattle.ddt_plan.specs.Items.{etrs_at}
use Rattle.ddt_plan.proofs.TableLemmas.{changes_of_both, sets_agree}
use Rattle.ddt_plan.proofs.items.changed_sites.Goals as goal

pub returns : goal.returns
returns c =
    IfOk-weaker c.changes_of.result _ _
    (λ changes e. changes_of_both _ are_same_servers sets_agree
    (etrs_at c.args.before.now) (etrs_at c.args.after.now) c.new.result c.in_ok-old.old c.in_ok-both.both
    (λ k. search rules) c.in_ok-old.ensures (search rules) e.1 changes.items e.0)
    c.changes_of.ensures
