use Rattle.std.proofs.Common.{◌≡◌, [], refl, ◌∙◌}
use Rattle.ddt_deploy.specs.Loopback.Written.{text_so_far}
use Rattle.ddt_deploy.proofs.LoopbackLemmas.AgainLemmas.{read_again}
use Rattle.ddt_deploy.proofs.LoopbackLemmas.RowsLemmas.{whole_text}
use Rattle.ddt_deploy.proofs.loopback.csv_text.register_text.Goals as goal

pub returns-in-Ok-clause-written : goal.returns-in-Ok-clause-written
returns-in-Ok-clause-written c =
    let from = c.from_writer-writer.ensures in
    let rows = c.in_ok-push_rows.ensures in
    let none : text_so_far c.from_writer-writer.result ≡ [] = rw (from.wtr, c.new-2.ensures.items, from.empty) refl in (
      rows.0,
      rows.1,
      c.in-Ok.ensures.ok ∙ whole_text _ _ _ _ rows.0 none c.in_ok-push_record.ensures.text
          c.in_ok-columns.ensures rows.2,
    )

pub returns-in-Ok-clause-again : goal.returns-in-Ok-clause-again
returns-in-Ok-clause-again c = λ all e.
    let from = c.from_writer-writer.ensures in
    let rows = c.in_ok-push_rows.ensures in
    let none : text_so_far c.from_writer-writer.result ≡ [] = rw (from.wtr, c.new-2.ensures.items, from.empty) refl in
    read_again c.args.register.now rows.0 c.in-Ok.text.items all rows.1
    (c.in-Ok.ensures.ok ∙ whole_text _ _ _ _ rows.0 none c.in_ok-push_record.ensures.text c.in_ok-columns.ensures rows.2) e
