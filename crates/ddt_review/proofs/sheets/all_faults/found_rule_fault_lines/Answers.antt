use Rattle.std.proofs.Common.{rules, refl, ◌∙◌, ap}
use Rattle.std.proofs.lemmas.Result.{IfOk-weaker}
use Rattle.ddt_review.specs.Sheets.Told.{rules_of}
use Rattle.ddt_review.proofs.sheets.all_faults.found_rule_fault_lines.Goals as goal

pub returns-clause-told : goal.returns-clause-told
returns-clause-told g c =
    IfOk-weaker c.rule_fault_lines.result _ _ (λ faults same. (
      c.args.register.now,
      refl,
      c.in_ok-broken.broken,
      record { shown = c.args.register; shows = refl; says = record { met = search (rules, c.find.ensures, c.in_ok-broken.was, c.in_ok-broken.is) } },
      same ∙ ap rules_of c.deref.ensures.value,
    )) c.rule_fault_lines.ensures.told
