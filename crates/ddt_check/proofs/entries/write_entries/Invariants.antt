use Rattle.std.proofs.Common.{◌≡◌, take, map, length}
use Rattle.ddt_check.proofs.entries.write_entries.Given as goal

abbrev pub invariant-loop-at : goal.invariant-loop-at
invariant-loop-at g l = record {
  same : length l.entries ≡ length l.items;
  written : take l.at (map (λ e. e.item.now) l.entries) ≡ take l.at l.items;
}
