use Rattle.std.proofs.Common.{rules, List, map, IsPermutation, subst}
use Rattle.ddt_register.specs.declared.site.Site.{Site}
use Rattle.std.proofs.lemmas.List.Sorted.{answers_always, IsPermutation-map}
use Rattle.ddt_review.proofs.WarningsLemmas.OrderLemmas.{sites_sorted, site_at}
use Rattle.ddt_review.proofs.warnings.neighbouring_sites.sites_in_order.Goals as goal

pub returns-clause-same : goal.returns-clause-same
returns-clause-same c =
    subst (λ (xs : List Site). IsPermutation xs (map site_at c.sort_unstable_by_key.new.self.items)) c.in_ok-order.ensures
    (IsPermutation-map site_at _ _ c.sort_unstable_by_key.ensures.permutation)

pub returns-clause-order : goal.returns-clause-order
returns-clause-order c = sites_sorted _ (c.sort_unstable_by_key.ensures.sorted (λ y. (y.now.prefix, y.now.row))
    (answers_always _ _ _ (λ f a r g h. search rules)))
