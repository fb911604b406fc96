use Rattle.std.proofs.Common.{rules}
use Rattle.std.proofs.lemmas.List.Sorted.{IsPartitionPoint-from_clause}
use Rattle.ddt_map_server.specs.Keys.KeyedSites.{is_key_of}
use Rattle.ddt_map_server.proofs.keys.keyrings.count_own.Goals as goal

pub returns-clause-own : goal.returns-clause-own
returns-clause-own c =
    IsPartitionPoint-from_clause (λ r. is_key_of r.prefix c.args.key.now) c.args.keyrings.now c.partition_point.result
    c.partition_point.ensures.partitioned c.requires (λ a r f called. search rules)
