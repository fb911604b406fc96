use Rattle.std.proofs.lemmas.Slice.Zip.{either_empty_from_Zip}
use Rattle.std.specs.Iterator.Adapters.{zip_first, zip_second}
use Rattle.std.specs.Slice.Iter.{iter_rest}
use Rattle.ddt_commands.proofs.LoopLemmas.{lines_all}
use Rattle.ddt_commands.proofs.commands.loops.end_lines.end_lines.Goals as goal

pub returns : goal.returns
returns c =
    lines_all (iter_rest (zip_first c.loop-x.x-iterator)) (iter_rest (zip_second c.loop-x.x-iterator)) c.loop-x.text.items _
    (either_empty_from_Zip c.loop-x.x-iterator c.next.new.self c.next.result c.in-None.is c.next.ensures.steps) c.loop-x.invariant
