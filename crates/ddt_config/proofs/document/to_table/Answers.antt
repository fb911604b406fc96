use Rattle.toml.specs.Data.{members_depth, members_have_valid_dates}
use Rattle.std.proofs.Common.{◌≡◌, ◌≤◌, true}
use Rattle.toml.specs.View.{table_view}
use Rattle.ddt_config.specs.Table.{outline}
use Rattle.ddt_config.specs.Writing.{written_config}
use Rattle.ddt_config.proofs.WriteLemmas.{ok_by, shallow_table, dated_table}
use Rattle.ddt_config.proofs.document.to_table.Goals as goal

pub returns-clause-shallow : goal.returns-clause-shallow
returns-clause-shallow c =
    let o = outline c.args.config.now in
    ok_by (λ t. table_view t ≡ written_config o) (λ t. members_depth (table_view t) ≤ 5) (λ t. shallow_table o (table_view t)) c.write.result c.write.ensures.written

pub returns-clause-dated : goal.returns-clause-dated
returns-clause-dated c =
    let o = outline c.args.config.now in
    ok_by (λ t. table_view t ≡ written_config o) (λ t. members_have_valid_dates (table_view t) ≡ true) (λ t. dated_table o (table_view t)) c.write.result c.write.ensures.written
