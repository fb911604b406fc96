use Rattle.std.proofs.Common.{◌≡◌, ℕ, Bool, List, sym, subst}
use Rattle.std.proofs.lemmas.Result.{IfOk-weaker}
use Rattle.ddt_register.specs.declared.register.Register.{Register}
use Rattle.ddt_plan_commands.specs.declared.arguments.DiffAsked.{DiffAsked}
use Rattle.ddt_plan_commands.specs.declared.arguments.Form.{Form}
use Rattle.ddt_plan_commands.specs.declared.arguments.DiffOutput.{DiffOutput}
use Rattle.ddt_plan_commands.specs.declared.arguments.DiffOutput.TheVariants.{Changes}
use Rattle.ddt_plan_commands.specs.Answers.{IsChangesText, IsDiffText, IsTextOfChanges}
use Rattle.ddt_plan_commands.proofs.WriterLemmas.{front_wider, text_wider}
use Rattle.ddt_plan_commands.proofs.diff_command.write_between.Goals as goal

-- the changes, where they are asked for in this form
asked_text : (asked : DiffAsked) (form : Form) (before after : Register) (differs : Bool) (text : List ℕ) → asked.output ≡ Changes → form ≡ asked.form
    → IsChangesText asked.reading form before after differs text → IsDiffText asked before after differs text
asked_text asked form before after differs text told same is =
    subst (λ (t : DiffOutput). IsTextOfChanges t asked.reading asked.form before after differs text) (sym told)
    (subst (λ (f : Form). IsChangesText asked.reading f before after differs text) same is)

pub returns-in-Changes-clause-whole : goal.returns-in-Changes-clause-whole
returns-in-Changes-clause-whole g c =
    IfOk-weaker c.list_changes.result _ _
    (λ differs h. text_wider _ _ _ _ (λ text is. asked_text c.args.asked.now c.args.lines.now.form c.args.before.now c.args.after.now differs text c.in-Changes.is c.requires is) h)
    c.list_changes.ensures.whole

pub returns-in-Changes-clause-front : goal.returns-in-Changes-clause-front
returns-in-Changes-clause-front g c =
    front_wider _ _ _ _
    (λ text is. (is.0, asked_text c.args.asked.now c.args.lines.now.form c.args.before.now c.args.after.now is.0 text c.in-Changes.is c.requires is.1))
    c.list_changes.ensures.front
