use Rattle.std.proofs.Common.{ℕ, List, subst}
use Rattle.ddt_plan.specs.declared.change_list.Change.{Change}
use Rattle.ddt_plan.specs.declared.outcomes.Reading.TheVariants.{Exact}
use Rattle.std.specs.declared.alloc.AllocError.{AllocError}
use Rattle.ddt_plan.specs.Changes.{AreChanges}
use Rattle.ddt_asking.specs.declared.identifiers.IdentifierSink.{IdentifierSink}
use Rattle.ddt_asking.proofs.IdentifierLemmas.{all_taken}
use Rattle.ddt_asking.proofs.identifiers.changed_identifiers.Goals as goal

pub returns-in-Ok : goal.returns-in-Ok
returns-in-Ok c =
    let given = c.in-Ok.ensures in (
      given.0,
      subst (λ (inside : List ℕ). AreChanges Exact c.args.before.now c.args.after.now inside given.0)
          c.everything.ensures given.1,
      all_taken AllocError (λ (h : Change). h.prefix) (λ (s : IdentifierSink). s.identifiers.items) given.0
          (record { identifiers = c.new.result }) c.changes.new.sink c.new.ensures.items given.2,
    )
