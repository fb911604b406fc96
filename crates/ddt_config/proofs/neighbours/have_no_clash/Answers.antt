use Rattle.std.proofs.Common.{ap, ◌∙◌}
use Rattle.ddt_config.specs.Shaped.{no_two}
use Rattle.ddt_config.specs.Reading.{clashes}
use Rattle.ddt_config.specs.laws.Neighbour.{no_two-sorted}
use Rattle.ddt_config.proofs.neighbours.have_no_clash.Goals as goal

pub returns : goal.returns
returns g c =
    c.no_neighbours_clash.ensures
    ∙ ap (no_two (clashes c.args.clash)) c.deref.ensures.value
    ∙ no_two-sorted c.args.clash g.T.Prefixed.path c.args.items.now c.in_ok-prefixes.prefixes.items c.in_ok-prefixes.ensures.all
