use Rattle.std.proofs.Common.{rules}
use Rattle.std.specs.Ordering.{nat_cmp, is_lt}
use Rattle.std.specs.Cmp.Lexicographic.{slice_cmp}
use Rattle.std.proofs.lemmas.List.Sorted.{IsPartitionPoint-from_clause}
use Rattle.ddt_map_server.proofs.KeysLemmas.RingLemmas.{before-parted}
use Rattle.ddt_map_server.proofs.keys.keyrings.first_at.Goals as goal

pub returns-clause-first : goal.returns-clause-first
returns-clause-first c =
    let rings = c.args.keyrings.now in
    IsPartitionPoint-from_clause (λ r. is_lt (slice_cmp nat_cmp r.prefix c.args.prefix)) rings c.partition_point.result
    c.partition_point.ensures.partitioned (before-parted rings c.requires c.args.prefix) (λ a r f called. search rules)
