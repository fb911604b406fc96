use Rattle.std.proofs.Common.{map, length, ◌-◌}
use Rattle.ddt_plan.specs.Blocks.{keys_of, pieces}
use Rattle.ddt_plan.specs.Changes.{block_at}
use Rattle.ddt_plan.proofs.ListingLemmas.{are_blocks}
use Rattle.ddt_plan.proofs.SinkLemmas.{given_nothing}
use Rattle.ddt_plan.proofs.block_list.blocks.Goals as goal

pub returns-in-Ok : goal.returns-in-Ok
returns-in-Ok g c =
    let r = c.args.accepted.now in
    (map (block_at r) (pieces (161 - length c.args.inside) (keys_of r) c.args.inside), are_blocks r c.args.inside, c.walk.ensures)

pub returns-in-Err : goal.returns-in-Err
returns-in-Err g c =
    let r = c.args.accepted.now in
    let all = map (block_at r) (pieces (161 - length c.args.inside) (keys_of r) c.args.inside) in
    (all, are_blocks r c.args.inside, given_nothing g.S.Sink.takes all c.args.sink.now)
