use Rattle.std.proofs.Common.{◌∙◌, ap, sym, rules}
use Rattle.std.specs.Prelude.{map, string_bytes}
use Rattle.std.proofs.lemmas.Bool.{and_parts}
use Rattle.clap.specs.Words.{App, fault_of, is_simple_and_free, subcommand_of}
use Rattle.clap.proofs.CallerLemmas.{subcommand_required}
use Rattle.ddt_commands.proofs.CommandLineLemmas.CallLemmas.{paired}
use Rattle.ddt_commands.proofs.CommandLineLemmas.LineLemmas.{not_third, plain_line, needs_command}
use Rattle.ddt_commands.proofs.command_line.call.read_call.Goals as goal

pub returns-in-Some-clause-found : goal.returns-in-Some-clause-found
returns-in-Some-clause-found c =
    let words = map string_bytes c.args.words.now in
    let is = c.in_ok-line.ensures in
    let free = ap is_simple_and_free is ∙ c.requires in
    let none = c.in-Ok.ensures.kinds free in
    let met = paired _ _ _ _ _ c.in-Some.ensures.name c.in-Some.ensures.rows in
    let rows = c.in-Ok.ensures.matches (and_parts _ _ free).0 in
    (sym (ap (λ (a : App). fault_of a words) is) ∙ none, sym (rows.1 ∙ ap (λ (a : App). subcommand_of a words) is) ∙ met)

pub returns-clause-bad : goal.returns-clause-bad
returns-clause-bad c =
    let is = c.in_ok-line.ensures in
    let met = subcommand_required _ _ c.in-Ok.ensures.parsed (not_third _ _ _ _ (ap (λ (a : App). a.top.is_plain) is ∙ plain_line c.args.commands.now)) (ap (λ (a : App). a.top.subcommand_required) is ∙ needs_command c.args.commands.now) in
    λ bad. search (rules, met, c.in-None.ensures.variant)
