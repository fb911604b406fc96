use Rattle.std.proofs.Common.{◌≡◌, ◌++◌}
use Rattle.std.specs.Iterator.Adapters.{zip_first, zip_second}
use Rattle.std.specs.Slice.Iter.{iter_rest}
use Rattle.ddt_commands.specs.Commands.Loop.{end_lines}
use Rattle.ddt_commands.proofs.commands.loops.end_lines.end_lines.Given as goal

-- the lines of the identifiers before this one
abbrev pub invariant-loop-x : goal.invariant-loop-x
invariant-loop-x l =
    l.text.items ++ end_lines (iter_rest (zip_first l.x-iterator)) (iter_rest (zip_second l.x-iterator)) ≡ end_lines l.ids l.ends
