use Rattle.std.proofs.Common.{rules}
use Rattle.std.proofs.lemmas.List.Sorted.{answers_always}
use Rattle.ddt_plan.proofs.config_comparison.in_order.Goals as goal

pub returns-clause-sorted : goal.returns-clause-sorted
returns-clause-sorted g c = c.sort_unstable_by_key.ensures.sorted (λ (entry : _). g.T.Prefixed.path entry)
    (answers_always _ _ _ (λ f a r k h. search rules))
