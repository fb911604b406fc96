use Rattle.ddt_trie.specs.laws.Below.{members_free_below}
use Rattle.ddt_trie.proofs.laws.free_below_by_members.Goals as goal

pub returns : goal.returns
returns g c = members_free_below
