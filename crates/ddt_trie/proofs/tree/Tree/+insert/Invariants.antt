use Rattle.std.specs.Prelude.{◌-◌, length}
use Rattle.ddt_trie.proofs.tree.Tree.+insert.Given as goal

abbrev pub decreases-insert : goal.decreases-insert
decreases-insert g l = length l.prefix.now - l.at
