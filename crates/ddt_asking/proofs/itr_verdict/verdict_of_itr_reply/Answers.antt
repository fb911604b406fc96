use Rattle.std.proofs.Common.{◌∙◌}
use Rattle.ddt_asking.specs.ItrVerdicts.{itr_agrees, itr_differs}
use Rattle.ddt_asking.proofs.itr_verdict.verdict_of_itr_reply.Goals as goal

pub returns-then-is_due : goal.returns-then-is_due
returns-then-is_due c = itr_agrees c.args.bytes.now (c.is_due.ensures.0 c.if-is_due.true)

pub returns : goal.returns
returns c =
    rw (c.of.ensures ∙ c.in_ok-reply.ensures.items)
    (itr_differs c.args.bytes.now (λ s. let due = c.is_due.ensures.1 s in absurd (cc)))
