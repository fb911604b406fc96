use Rattle.std.specs.FinMap.{FinMap}
use Rattle.ddt_path.specs.Path.{xeid_path}
use Rattle.ddt_trie.specs.PrefixMap.{path_cmp}
use Rattle.ddt_trie.specs.HashTable.{IsTableOf}
use Rattle.ddt_trie.proofs.HashTableLemmas.{HasLengthBelow}
use Rattle.ddt_trie.proofs.hash_table.PrefixTable.longest.Given as goal

abbrev pub invariant-loop-at : goal.invariant-loop-at
invariant-loop-at g l = (m : FinMap path_cmp _) → IsTableOf l.self m → HasLengthBelow l.self.lengths.items m (xeid_path l.x) l.at
