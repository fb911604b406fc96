use Rattle.std.proofs.Common.{◌∙◌}
use Rattle.ddt_asking.specs.Verdicts.{agrees, differs}
use Rattle.ddt_asking.proofs.verdict.verdict_of_referral.Goals as goal

pub returns-then-is_said : goal.returns-then-is_said
returns-then-is_said c = agrees c.args.bytes.now (c.is_said.ensures.0 c.if-is_said.true)

pub returns : goal.returns
returns c =
    rw (c.of.ensures ∙ c.in_ok-reply.ensures.items)
    (differs c.args.bytes.now (λ s. let said = c.is_said.ensures.1 s in absurd (cc)))
