use Rattle.std.proofs.Common.{◌≡◌, inl, inr, ap, ◌∙◌, rules}
use Rattle.ddt_plan.specs.declared.counts.OutcomeCounts.{OutcomeCounts}
use Rattle.ddt_plan_commands.specs.Counted.{no_outcomes, with_blocks}
use Rattle.ddt_plan_commands.specs.Written.{written_counts}
use Rattle.ddt_plan_commands.proofs.SinkLemmas.{taken_counts}
use Rattle.ddt_plan_commands.proofs.WriterLemmas.{keeps_self, whole_front}
use Rattle.ddt_plan_commands.proofs.blocks_command.count_blocks.Goals as goal

pub returns-in_err-blocks-clause-front : goal.returns-in_err-blocks-clause-front
returns-in_err-blocks-clause-front g c = inl (keeps_self _)

pub returns-in_err-counts_lines-clause-front : goal.returns-in_err-counts_lines-clause-front
returns-in_err-counts_lines-clause-front g c = inl (keeps_self _)

pub returns-in_err-print-clause-front : goal.returns-in_err-print-clause-front
returns-in_err-print-clause-front g c =
    let given = c.in_ok-blocks.ensures in
    let none : c.default-counts.result ≡ no_outcomes = search rules in
    let counts = taken_counts given.0 c.default-counts.result c.blocks-2.new.sink given.2 in
    inr (_, (given.0, given.1, c.deref.ensures.value ∙ (c.in_ok-counts_lines.ensures ∙ ap (written_counts c.args.form) (counts ∙ ap (λ (n : OutcomeCounts). with_blocks n given.0) none))), c.print.ensures.front)

pub returns-clause-whole : goal.returns-clause-whole
returns-clause-whole g c =
    let given = c.in_ok-blocks.ensures in
    let none : c.default-counts.result ≡ no_outcomes = search rules in
    let counts = taken_counts given.0 c.default-counts.result c.blocks-2.new.sink given.2 in
    (_, (given.0, given.1, c.deref.ensures.value ∙ (c.in_ok-counts_lines.ensures ∙ ap (written_counts c.args.form) (counts ∙ ap (λ (n : OutcomeCounts). with_blocks n given.0) none))), c.in_ok-print.ensures.whole)

pub returns-clause-front : goal.returns-clause-front
returns-clause-front g c =
    let given = c.in_ok-blocks.ensures in
    let none : c.default-counts.result ≡ no_outcomes = search rules in
    let counts = taken_counts given.0 c.default-counts.result c.blocks-2.new.sink given.2 in
    inr (_, (given.0, given.1, c.deref.ensures.value ∙ (c.in_ok-counts_lines.ensures ∙ ap (written_counts c.args.form) (counts ∙ ap (λ (n : OutcomeCounts). with_blocks n given.0) none))), c.print.ensures.front)
