use Rattle.std.proofs.Common.{ℕ, List, ◌++◌, if◌then◌else◌, is_ok, ap, ◌∙◌}
use Rattle.ddt_text.specs.laws.Written.{shown_prefix, written_prefix-spells}
use Rattle.ddt_text.proofs.prefix_text.write_prefix.Goals as goal

pub returns-clause-appended : goal.returns-clause-appended
returns-clause-appended c =
    c.extend_from_slice.ensures.items
    ∙ ap (λ (bytes : List ℕ). if is_ok c.extend_from_slice.result then c.args.text.now.items ++ bytes else c.args.text.now.items)
    (c.as_bytes.ensures.value ∙ c.in_ok-written.ensures.ok ∙ shown_prefix c.form.result c.args.prefix c.form.ensures.path c.form.ensures.kept)

pub returns-in_err-written-clause-law : goal.returns-in_err-written-clause-law
returns-in_err-written-clause-law c = written_prefix-spells

pub returns-clause-law : goal.returns-clause-law
returns-clause-law c = written_prefix-spells
