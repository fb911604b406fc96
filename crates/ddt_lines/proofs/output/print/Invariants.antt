use Rattle.std.proofs.Common.{◌≤◌, length, take}
use Rattle.std.specs.Io.KnownBytes.{Appends}
use Rattle.ddt_lines.proofs.output.print.Given as goal

abbrev pub invariant-loop : goal.invariant-loop
invariant-loop g l = record {
  within : l.written ≤ length l.text;
  appended : Appends (g.W.Write.contents l.fn.out) (g.W.Write.contents l.out) (take l.written l.text);
}
