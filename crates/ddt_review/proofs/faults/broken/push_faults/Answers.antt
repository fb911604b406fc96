use Rattle.std.proofs.Common.{[], ◌++◌, append-nil, sym, ap, ◌∙◌, Option}
use Rattle.std.specs.List.{cons_option}
use Rattle.ddt_check.specs.declared.fault.Rule.TheVariants.{NoRoot}
use Rattle.ddt_review.specs.declared.faults.broken.Broken.{Broken}
use Rattle.ddt_review.proofs.FaultsLemmas.ListLemmas.{told_push}
use Rattle.ddt_review.proofs.faults.broken.push_faults.Goals as goal
use Rattle.ddt_review.proofs.faults.broken.push_faults.Goals.{in-Some+in_ok-push, in_default}

pub loop-rule-preserved : goal.loop-rule-preserved
loop-rule-preserved c = λ r index items.
    let k = c.loop-rule.rule-index in
    let old = c.loop-rule.list.items in
    let step = told_push r c.args.row k NoRoot c.args.list.now.items old c.match-fault.list.items c.fault.result
    c.loop-rule-test.true (c.fault.ensures r index items) (c.loop-rule.invariant r index items) in
    elim c.match-fault.branch [
      | in-Some+in_ok-push w ↦
          step (ap (λ v. v.items) w.list-is
          ∙ w.in_ok-push.ensures.items
          ∙ ap (λ (o : Option Broken). old ++ cons_option o []) (sym w.in-Some.is))
      | in_default w ↦
          step (ap (λ v. v.items) w.list-is
          ∙ sym (append-nil old)
          ∙ ap (λ (o : Option Broken). old ++ cons_option o []) (sym w.in_default.is))
    ]
