use Rattle.std.proofs.Common.{◌≡◌, take, map, length}
use Rattle.ddt_check.specs.Columns.{cell_of}
use Rattle.ddt_check.proofs.rules.locators.write_column.Given as goal

abbrev pub invariant-loop-at : goal.invariant-loop-at
invariant-loop-at l = record {
  same : length l.cells ≡ length l.groups;
  written : take l.at l.cells ≡ take l.at (map (cell_of l.column) l.groups);
}
