use Rattle.std.proofs.Common.{rules}
use Rattle.ddt_trie.specs.laws.Entry.{len-map_of}
use Rattle.ddt_trie.proofs.list_map.ListMapPrefixMap.len.Goals as goal

pub returns : goal.returns
returns g c = let n = len-map_of c.args.self.now.entries.items c.args.self.now.distinct in search (rules, n)
