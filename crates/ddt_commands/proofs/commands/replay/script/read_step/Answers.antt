use Rattle.std.proofs.Common.{codes, sym, ◌∙◌}
use Rattle.ddt_sim.specs.declared.schedule.Step.TheVariants.{Deliver, Pass, Replace}
use Rattle.ddt_commands.proofs.ScriptLemmas.{ask_step, not_number, number_after_word, only_deliver, only_replace, only_wait}
use Rattle.ddt_commands.proofs.commands.replay.script.read_step.Goals as goal

pub returns-in-Some : goal.returns-in-Some
returns-in-Some c = ask_step _ _ _ c.in-Some.ensures c.read_ask.ensures

pub returns-in_err-number : goal.returns-in_err-number
returns-in_err-number c =
    rw c.from_residual.ensures (λ s h. not_number _ s Deliver (sym c.in_err-number.was ∙ c.read_number.ensures.value)
    (only_deliver _ _ c.in-Some-after_word.ensures s h))

pub returns-in-Some-after_word : goal.returns-in-Some-after_word
returns-in-Some-after_word c = number_after_word _ _ (codes "deliver ") _ c.in-Some-after_word.ensures (sym c.in_ok-number.was ∙ c.read_number.ensures.value)

pub returns-in_err-millis : goal.returns-in_err-millis
returns-in_err-millis c =
    rw c.from_residual-in_err-millis.ensures
    (λ s h. not_number _ s Pass (sym c.in_err-millis.was ∙ c.read_number-in-Some-after_word-2.ensures.value) (only_wait _ _ c.in-Some-after_word-2.ensures s h))

pub returns-in-Some-after_word-2 : goal.returns-in-Some-after_word-2
returns-in-Some-after_word-2 c =
    number_after_word _ _ (codes "wait ") _ c.in-Some-after_word-2.ensures (sym c.in_ok-millis.was ∙ c.read_number-in-Some-after_word-2.ensures.value)

pub returns-in_err-number-2 : goal.returns-in_err-number-2
returns-in_err-number-2 c =
    rw c.from_residual-in_err-number-2.ensures
    (λ s h. not_number _ s Replace (sym c.in_err-number-2.was ∙ c.read_number-in-Some-after_word-3.ensures.value) (only_replace _ _ c.in-Some-after_word-3.ensures s h))

pub returns-in-Some-after_word-3 : goal.returns-in-Some-after_word-3
returns-in-Some-after_word-3 c =
    number_after_word _ _ (codes "replace ") _ c.in-Some-after_word-3.ensures (sym c.in_ok-number-2.was ∙ c.read_number-in-Some-after_word-3.ensures.value)
