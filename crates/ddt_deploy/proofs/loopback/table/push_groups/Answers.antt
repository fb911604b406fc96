use Rattle.std.specs.Iterator.Adapters.{zip_first, zip_second}
use Rattle.std.specs.Slice.Iter.{iter_rest}
use Rattle.std.proofs.lemmas.Slice.Zip.{either_empty_from_Zip}
use Rattle.ddt_deploy.proofs.LoopbackLemmas.TableLemmas.{all_groups}
use Rattle.ddt_deploy.proofs.loopback.table.push_groups.Goals as goal

pub returns : goal.returns
returns c =
    all_groups (iter_rest (zip_first c.loop-old.old-iterator)) (iter_rest (zip_second c.loop-old.old-iterator)) c.loop-old.text.items _
    (either_empty_from_Zip c.loop-old.old-iterator c.next.new.self c.next.result c.in-None.is c.next.ensures.steps) c.loop-old.invariant
