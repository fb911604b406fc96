use Rattle.std.proofs.Common.{rules, List, IsPermutation, subst}
use Rattle.std.proofs.lemmas.List.Sorted.{answers_always}
use Rattle.ddt_plan.specs.declared.sides.Delegation.{Delegation}
use Rattle.ddt_plan.specs.declared.sides.SiteState.{SiteState}
use Rattle.ddt_plan.proofs.sides.sort_items.Goals as goal

pub returns : goal.returns
returns c =
    record {
      zones = subst (λ (l : List Delegation). IsPermutation l c.sort_unstable_by_key.new.self.items)
          c.in_ok-zones.ensures c.sort_unstable_by_key.ensures.permutation;
      sites = subst (λ (l : List SiteState). IsPermutation l c.sort_unstable_by_key-2.new.self.items)
          c.in_ok-sites.ensures c.sort_unstable_by_key-2.ensures.permutation;
      zones_in_order = c.sort_unstable_by_key.ensures.sorted (λ (z : Delegation). z.prefix)
          (answers_always _ _ _ (λ f a r k h. search rules));
      sites_in_order = c.sort_unstable_by_key-2.ensures.sorted (λ (s : SiteState). s.prefix)
          (answers_always _ _ _ (λ f a r k h. search rules));
    }
