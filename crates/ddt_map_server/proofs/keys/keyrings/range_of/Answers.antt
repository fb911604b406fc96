use Rattle.ddt_map_server.proofs.KeysLemmas.RingLemmas.{own-parted, range_from}
use Rattle.ddt_map_server.proofs.keys.keyrings.range_of.Goals as goal

pub count_own-requires : goal.count_own-requires
count_own-requires c = own-parted c.args.keyrings.now c.requires c.args.key.now c.first_at-start.result c.first_at-start.ensures.first

pub returns : goal.returns
returns c = range_from c.args.keyrings.now c.requires c.args.key.now c.first_at-start.result c.first_at-start.ensures.first
    c.count_own.result c.first_at-start.ensures.bound c.count_own.ensures.bound c.count_own.ensures.own
