use Rattle.std.proofs.Common.{arith, ap}
use Rattle.std.proofs.lemmas.List.Sums.{get_or-le-sum_by}
use Rattle.ddt_config.specs.Entries.{count_in}
use Rattle.ddt_node.proofs.place_index.contents.Goals as goal

pub places_in-requires : goal.places_in-requires
places_in-requires g c =
    omega (arith, ap count_in c.authority.view_is, ap count_in c.authority-item.is, get_or-le-sum_by count_in c.args.authorities.now c.loop-authority.authority-index c.authority-item.result c.loop-authority-test.true)
