use Rattle.std.proofs.Common.{refl}
use Rattle.std.specs.Fn.{FnReturnsAt}
use Rattle.std.proofs.lemmas.Result.{IfOk-weaker}
use Rattle.ddt_review.proofs.SheetsLemmas.ToldLemmas.{tells_spelled}
use Rattle.ddt_review.proofs.sheets.all_faults.file_faults.Goals as goal

pub returns-in-Ok-clause-told : goal.returns-in-Ok-clause-told
returns-in-Ok-clause-told g c =
    IfOk-weaker c.found_rule_fault_lines.result _ _
    (λ faults tells. tells_spelled (FnReturnsAt g.F.Fn c.args.find) _ _ _ (c.in-Ok.ensures.spelled c.args.bytes.now refl) tells)
    c.found_rule_fault_lines.ensures.told
