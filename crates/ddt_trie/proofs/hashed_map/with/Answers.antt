use Rattle.std.proofs.Common.{Option, subst}
use Rattle.std.specs.Prelude.{IfSome}
use Rattle.ddt_trie.specs.declared.hash_table.PrefixTable.{PrefixTable}
use Rattle.ddt_trie.specs.HashTable.{IsTableOf}
use Rattle.ddt_trie.proofs.hashed_map.with.Goals as goal

pub returns-in-Some : goal.returns-in-Some
returns-in-Some g c m is =
    c.with.ensures m (subst (λ (o : Option (PrefixTable _)). IfSome o (λ t. IsTableOf t m)) c.in-Some.is is)
