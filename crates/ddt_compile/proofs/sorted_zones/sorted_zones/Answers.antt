use Rattle.std.proofs.Common.{rules}
use Rattle.std.proofs.lemmas.List.Sorted.{answers_always}
use Rattle.ddt_register.specs.declared.zone.Zone.{Zone}
use Rattle.ddt_compile.proofs.sorted_zones.sorted_zones.Goals as goal

pub returns-clause-order : goal.returns-clause-order
returns-clause-order c = c.sort_unstable_by_key.ensures.sorted (λ (z : Zone). (z.prefix, z.row))
    (answers_always _ _ _ (λ f a r g h. search rules))
