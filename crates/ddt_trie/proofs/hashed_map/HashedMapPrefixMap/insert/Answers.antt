use Rattle.std.proofs.Common.{Option, ap, subst, sym, ◌∙◌}
use Rattle.std.specs.Prelude.{IfSome}
use Rattle.std.specs.FinMap as map
use Rattle.ddt_trie.specs.PrefixMap.{path_cmp}
use Rattle.ddt_trie.specs.Trie.{trie_content}
use Rattle.ddt_trie.specs.declared.hash_table.PrefixTable.{PrefixTable}
use Rattle.ddt_trie.specs.HashTable.{IsTableOf}
use Rattle.ddt_trie.proofs.hashed_map.HashedMapPrefixMap.insert.Goals as goal

pub invariant_of-self-2 : goal.invariant_of-self-2
invariant_of-self-2 g c =
    let before = trie_content c.args.self.now.tree in
    let kept = subst (λ (o : Option (PrefixTable _)). IfSome o (λ t. IsTableOf t before)) (sym c.take.ensures.value) c.args.self.now.same in
    let after = ap (λ v. map.insert before c.args.prefix v) c.duplicate-duplicate.ensures ∙ sym c.in_ok-before.ensures.inserted in
    record { same = subst (λ (m : map.FinMap path_cmp _). IfSome c.with.result (λ t. IsTableOf t m)) after (c.with.ensures before kept) }
