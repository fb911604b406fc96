use Rattle.ddt_register.proofs.MidwayLemmas.{IsMidway}
use Rattle.ddt_register.proofs.reader.read_rows.Given as goal

abbrev pub invariant-loop-row : goal.invariant-loop-row
invariant-loop-row g l = IsMidway g.R.Read.remaining l.fn.reader l.reader l.row l.items
