use Rattle.std.proofs.Common.{subst, Option}
use Rattle.std.specs.Prelude.{IfSome}
use Rattle.ddt_trie.specs.Trie.{trie_content}
use Rattle.ddt_trie.specs.declared.hash_table.PrefixTable.{PrefixTable}
use Rattle.ddt_trie.specs.HashTable.{IsTableOf}
use Rattle.ddt_trie.proofs.hashed_map.HashedMapPrefixMap.longest.Goals as goal

pub returns-in-Some-clause-longest : goal.returns-in-Some-clause-longest
returns-in-Some-clause-longest g c =
    c.longest.ensures.longest (trie_content c.args.self.now.tree)
    (subst (λ (o : Option (PrefixTable _)). IfSome o (λ t. IsTableOf t (trie_content c.args.self.now.tree))) c.in-Some.is c.args.self.now.same)

pub returns-in-Some-clause-covered : goal.returns-in-Some-clause-covered
returns-in-Some-clause-covered g c =
    c.longest.ensures.covered (trie_content c.args.self.now.tree)
    (subst (λ (o : Option (PrefixTable _)). IfSome o (λ t. IsTableOf t (trie_content c.args.self.now.tree))) c.in-Some.is c.args.self.now.same)
