use Rattle.std.proofs.Common.{◌∙◌, ap, rules}
use Rattle.std.specs.List.{filter}
use Rattle.std.proofs.lemmas.Fn.{filter_same}
use Rattle.ddt_report.specs.Tables.{has_row}
use Rattle.ddt_report.proofs.lines_and_fields.rows_of.Goals as goal

pub returns : goal.returns
returns c =
    filter_same _ (has_row c.args.table) _ (λ e b f k. search rules) _ _ c.retain.ensures.filtered
    ∙ ap (filter (has_row c.args.table)) c.in_ok-rows.ensures
