use Rattle.std.proofs.Common.{arith, ap}
use Rattle.std.proofs.lemmas.List.Sums.{get_or-le-sum_by}
use Rattle.ddt_config.specs.Entries.{count_in}
use Rattle.ddt_node.proofs.served_authority.served.Goals as goal

pub served_content-requires : goal.served_content-requires
served_content-requires c =
    omega (arith, ap count_in c.authority-item.is, get_or-le-sum_by count_in c.args.authorities.now c.loop-authority.authority-index c.authority-item.result c.loop-authority-test.true)
