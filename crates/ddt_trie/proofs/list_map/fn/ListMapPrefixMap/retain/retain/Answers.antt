use Rattle.std.proofs.Common.{refl}
use Rattle.std.proofs.lemmas.Fn.{says_at}
use Rattle.ddt_trie.proofs.list_map.fn.ListMapPrefixMap.retain.retain.Goals as goal

pub returns : goal.returns
returns g c = says_at g.F.Fn c.keep.ensures refl
