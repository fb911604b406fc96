use Rattle.std.proofs.Common.{◌∙◌, ap₂, sym, rules}
use Rattle.clap.specs.Words.{new_app, with_rule}
use Rattle.ddt_commands.specs.CommandLine.Line.{rule_of_argument}
use Rattle.std.proofs.lemmas.List.Sums.{fold_more}
use Rattle.ddt_commands.proofs.command_line.declaration.command.Goals as goal

pub loop-argument-preserved : goal.loop-argument-preserved
loop-argument-preserved c =
    let more = fold_more (λ a one. with_rule a (rule_of_argument one)) (new_app c.args.declaration.now.name.now) c.args.declaration.now.arguments.now c.loop-argument.argument-index _ (search rules) in
    c.in_ok-command.ensures.shape c.taken.ensures.local
    ∙ ap₂ with_rule c.loop-argument.invariant c.taken.ensures.rule ∙ sym more
