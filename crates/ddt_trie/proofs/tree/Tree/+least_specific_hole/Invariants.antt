use Rattle.std.specs.Prelude.{◌-◌, length}
use Rattle.ddt_trie.proofs.tree.Tree.+least_specific_hole.Given as goal

abbrev pub decreases-least_specific_hole : goal.decreases-least_specific_hole
decreases-least_specific_hole g l = length l.prefix - l.at
