use Rattle.std.proofs.Common.{◌≡◌, ◌++◌, List, map}
use Rattle.ddt_register.specs.declared.csv_row.Row.{Row}
use Rattle.ddt_deploy.specs.Loopback.Records.{row_fields}
use Rattle.ddt_deploy.specs.Loopback.Written.{IsFresh, left_of, text_of, text_so_far}
use Rattle.ddt_deploy.proofs.LoopbackLemmas.RowsLemmas.{IsMidway}
use Rattle.ddt_deploy.proofs.loopback.csv_text.push_rows.Given as goal

abbrev pub invariant-loop-row : goal.invariant-loop-row
invariant-loop-row l = IsFresh l.writer × (rows : List Row)
    × (text_so_far l.writer ≡ text_so_far l.fn.writer ++ text_of (map row_fields rows))
    × IsMidway l.register l.row rows (left_of l.left)
