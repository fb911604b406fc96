use Rattle.ddt_plan.specs.Blocks.{keys_of}
use Rattle.ddt_plan.proofs.ListingLemmas.{keys_are_paths}
use Rattle.ddt_plan.proofs.PieceLemmas.{keys_go_on}
use Rattle.ddt_plan.proofs.SideLemmas.{next_half}
use Rattle.ddt_plan.proofs.sides.side_below.Goals as goal

pub half-requires : goal.half-requires
half-requires c =
    let r = c.args.accepted.now in
    (keys_go_on (keys_of r) (keys_are_paths r) c.args.whole c.requires.division.divided).0 c.args.upper

pub side_inside-requires : goal.side_inside-requires
side_inside-requires c = (
  c.args.whole,
  c.requires.division,
  next_half c.args.accepted.now c.args.upper c.args.whole c.half.result c.half.ensures c.requires.division.divided,
)
