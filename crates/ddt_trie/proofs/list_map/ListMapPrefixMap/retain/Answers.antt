use Rattle.std.proofs.Common.{rules}
use Rattle.std.specs.Fn.{FnReturnsAt}
use Rattle.ddt_trie.proofs.RetainLemmas.{retained}
use Rattle.ddt_trie.proofs.list_map.ListMapPrefixMap.retain.Goals as goal

pub invariant_of-self : goal.invariant_of-self
invariant_of-self g c = record {
  distinct = (retained (FnReturnsAt g.F.Fn c.args.keep.now) _ c.args.self.now.distinct c.retain.ensures.filtered
      (λ e b f' k. search rules)).1;
}

pub returns : goal.returns
returns g c =
    (retained (FnReturnsAt g.F.Fn c.args.keep.now) _ c.args.self.now.distinct c.retain.ensures.filtered
    (λ e b f' k. search rules)).0
