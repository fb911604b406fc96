use Rattle.ddt_trie.specs.laws.Key.{members_free}
use Rattle.ddt_trie.proofs.laws.free_by_members.Goals as goal

pub returns : goal.returns
returns g c = members_free
