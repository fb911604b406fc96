use Rattle.ddt_trie.proofs.ContentLemmas.{front_found, front_fits, not_covered}
use Rattle.ddt_trie.proofs.trie_map.TrieMap.longest_over.Goals as goal

pub front-requires : goal.front-requires
front-requires g c = front_fits c.in-Some.ensures.found

pub returns-in-Some-clause-longest : goal.returns-in-Some-clause-longest
returns-in-Some-clause-longest g c = rw c.front.ensures (front_found c.in-Some.ensures.found)

pub returns-in-None-clause-covered : goal.returns-in-None-clause-covered
returns-in-None-clause-covered g c = λ covered. absurd (not_covered c.in-None.ensures.none covered)
