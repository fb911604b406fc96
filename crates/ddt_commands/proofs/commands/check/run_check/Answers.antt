use Rattle.std.proofs.Common.{inl}
use Rattle.ddt_commands.proofs.PrintedLemmas.{has_text}
use Rattle.ddt_commands.proofs.commands.check.run_check.Goals as goal

pub returns-in-Ok-clause-answered : goal.returns-in-Ok-clause-answered
returns-in-Ok-clause-answered g c = has_text _ _ _ _ _ _ c.in-Ok.ensures.text c.answer.ensures.ends c.answer.ensures.printed

pub returns-in-Ok-clause-unprinted : goal.returns-in-Ok-clause-unprinted
returns-in-Ok-clause-unprinted g c = λ status. inl (c.in-Ok.lines.complete, (c.in-Ok.lines.text.items, c.in-Ok.ensures.text, c.answer.ensures.front))
