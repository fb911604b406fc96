use Rattle.std.proofs.Common.{rules, ◌∙◌}
use Rattle.std.proofs.lemmas.List.Sorted.{answers_always}
use Rattle.ddt_deploy.proofs.FoldersLemmas.OrderLemmas.{sorted_is}
use Rattle.ddt_deploy.proofs.folders.order.by_prefix.Goals as goal

pub returns : goal.returns
returns g c = λ own.
    let key = g.T.Prefixed.path in
    let call = c.sort_unstable_by_key in
    c.of.ensures ∙ sorted_is key c.args.items call.new.self.items (search rules)
    (call.ensures.sorted (λ (item : _). key item) (answers_always _ _ _ (λ f a r k h. search rules))) own
