use Rattle.std.proofs.Common.{◌∙◌, ap, ap₂, sym, rules, get_or}
use Rattle.clap.specs.Words.{App, with_subcommand}
use Rattle.ddt_commands.specs.CommandLine.Line.{bare_line, command_app}
use Rattle.std.proofs.lemmas.List.Sums.{fold_more}
use Rattle.ddt_commands.proofs.CommandLineLemmas.LineLemmas.{not_third, nothing, plain_command}
use Rattle.ddt_commands.proofs.command_line.declaration.command_line.Goals as goal

pub loop-declaration-preserved : goal.loop-declaration-preserved
loop-declaration-preserved c =
    let at = c.loop-declaration.declaration-index in
    let more = fold_more (λ a d. with_subcommand a (command_app d).top) bare_line c.args.commands.now at nothing (search rules) in
    let plain = ap (λ (a : App). a.top.is_plain) c.in_ok-command.ensures ∙ plain_command (get_or c.args.commands.now at nothing) in
    c.in_ok-program.ensures.shape (not_third _ _ _ _ plain)
    ∙ ap₂ with_subcommand c.loop-declaration.invariant (ap (λ (a : App). a.top) c.in_ok-command.ensures) ∙ sym more
