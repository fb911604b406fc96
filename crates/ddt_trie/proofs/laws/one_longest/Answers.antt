use Rattle.ddt_trie.specs.laws.Map.{IsLongest-unique}
use Rattle.ddt_trie.proofs.laws.one_longest.Goals as goal

pub returns : goal.returns
returns g c = IsLongest-unique
