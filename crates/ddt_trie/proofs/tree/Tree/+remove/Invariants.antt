use Rattle.std.specs.Prelude.{◌-◌, length}
use Rattle.ddt_trie.proofs.tree.Tree.+remove.Given as goal

abbrev pub decreases-remove : goal.decreases-remove
decreases-remove g l = length l.prefix - l.at
