use Rattle.std.proofs.Common.{◌≡◌, ap, ◌∙◌}
use Rattle.ddt_cache.specs.Live.{Known}
use Rattle.ddt_cache.specs.Saved.{stored_in}
use Rattle.ddt_resolver.proofs.StateLemmas.{moved_to_itself}
use Rattle.ddt_resolver.proofs.requests.apply.Goals as goal

pub returns-in-Ok-clause-applied : goal.returns-in-Ok-clause-applied
returns-in-Ok-clause-applied g c =
    c.in-Ok.ensures.stored ∙ ap (λ (k : Known). stored_in k c.in-Save.record) (moved_to_itself _ _ c.time-now.ensures c.in_order.ensures) ∙ rw c.in-Save.is

pub returns-in-Err-clause-unchanged : goal.returns-in-Err-clause-unchanged
returns-in-Err-clause-unchanged g c = c.in-Err.ensures.unchanged ∙ moved_to_itself _ _ c.time-now.ensures c.in_order.ensures

pub returns-in-Err-clause-wanted : goal.returns-in-Err-clause-wanted
returns-in-Err-clause-wanted g c = λ rec is.
    let same : c.in-Save.record ≡ rec = cc (c.in-Save.is, is) in
    rw (← same, ← moved_to_itself c.args.cache.now _ c.time-now.ensures c.in_order.ensures) c.in-Err.ensures.wanted
