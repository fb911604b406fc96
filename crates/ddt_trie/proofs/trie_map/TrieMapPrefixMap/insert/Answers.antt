use Rattle.std.proofs.Common.{rules, arith, refl}
use Rattle.ddt_trie.proofs.ContentLemmas.{same_content, inserted}
use Rattle.ddt_trie.proofs.trie_map.TrieMapPrefixMap.insert.Goals as goal

pub invariant_of-self-clause-paths : goal.invariant_of-self-clause-paths
invariant_of-self-clause-paths g c =
    rw (same_content c.args.self.now.root c.insert.new.self (c.insert.ensures.unchanged c.if-not-insert.true))
    c.args.self.now.paths

pub invariant_of-self-then-is_none : goal.invariant_of-self-then-is_none
invariant_of-self-then-is_none g c =
    let r = inserted c.args.self.now.root _ c.args.prefix c.args.value (c.if-not-insert.ensures.set refl)
    c.form-form.ensures.passes c.args.self.now.paths in
    search (rules, arith)

pub invariant_of-self-else-is_none : goal.invariant_of-self-else-is_none
invariant_of-self-else-is_none g c =
    let r = inserted c.args.self.now.root _ c.args.prefix c.args.value (c.if-not-insert.ensures.set refl)
    c.form-form.ensures.passes c.args.self.now.paths in
    search (rules, arith)
