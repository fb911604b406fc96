use Rattle.std.proofs.Common.{rules, arith}
use Rattle.ddt_trie.proofs.ContentLemmas.{removed}
use Rattle.ddt_trie.proofs.trie_map.TrieMapPrefixMap.remove.Goals as goal

pub invariant_of-self : goal.invariant_of-self
invariant_of-self g c =
    let r = removed c.args.self.now.root _ c.args.prefix c.remove-before.ensures.set c.args.self.now.paths in
    search (rules, arith)

pub invariant_of-self-else-is_some : goal.invariant_of-self-else-is_some
invariant_of-self-else-is_some g c =
    let r = removed c.args.self.now.root _ c.args.prefix c.remove-before.ensures.set c.args.self.now.paths in
    search (rules, arith)
