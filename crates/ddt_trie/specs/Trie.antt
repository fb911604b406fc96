-- What a map that is kept in a tree contains.
use Rattle.std.specs.FinMap.{FinMap}
use Rattle.ddt_trie.specs.declared.trie_map.TrieMap.{TrieMap}
use Rattle.ddt_trie.specs.PrefixMap.{path_cmp}
use Rattle.ddt_trie.specs.Tree.{content_of}

-- the values by their paths
abbrev pub trie_content : {V : Type 0} → TrieMap V → FinMap path_cmp V
trie_content m = content_of m.root
