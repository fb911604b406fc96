use Rattle.std.proofs.Common.{[]}
use Rattle.ddt_trie.proofs.ContentLemmas.{kept_retains, paths_retained}
use Rattle.ddt_trie.proofs.trie_map.TrieMapPrefixMap.retain.Goals as goal

pub invariant_of-self-clause-rooted : goal.invariant_of-self-clause-rooted
invariant_of-self-clause-rooted g c = c.retain-self.ensures.rooted.still [] c.args.self.now.rooted

pub invariant_of-self-clause-paths : goal.invariant_of-self-clause-paths
invariant_of-self-clause-paths g c = paths_retained (kept_retains c.retain-self.ensures.kept) c.args.self.now.paths

pub returns : goal.returns
returns g c = kept_retains c.retain-self.ensures.kept
