use Rattle.std.proofs.Common.{length, ◌-◌, ◌++◌, subst}
use Rattle.ddt_plan.specs.Blocks.{keys_of, pieces}
use Rattle.ddt_plan.specs.Changes.{AreChanges, changes_at}
use Rattle.ddt_plan.specs.Differing.{BothRegisters}
use Rattle.ddt_plan.proofs.ListingLemmas.{are_changes}
use Rattle.ddt_plan.proofs.SinkLemmas.{given_nothing}
use Rattle.ddt_plan.proofs.change_list.changes.Goals as goal

pub returns-in-Ok : goal.returns-in-Ok
returns-in-Ok g c =
    let given = c.changes_of_sorted.ensures.given in (
      given.0,
      subst (λ (p : BothRegisters). AreChanges c.args.reading p.before p.after c.args.inside given.0) c.in-Ok.ensures given.1,
      given.2,
    )

pub returns-in-Err : goal.returns-in-Err
returns-in-Err g c =
    let r = c.args.before.now in
    let s = c.args.after.now in
    let all = changes_at c.args.reading r s (pieces (161 - length c.args.inside) (keys_of r ++ keys_of s) c.args.inside) in
    (all, are_changes c.args.reading r s c.args.inside, given_nothing g.S.Sink.takes all c.args.sink.now)
