use Rattle.std.proofs.Common.{◌≤◌, length, take, drop}
use Rattle.std.specs.Prelude.{IsTrue}
use Rattle.ddt_trie.specs.Tree.{is_rooted}
use Rattle.ddt_trie.proofs.DescentLemmas.{IsOnTheWay}
use Rattle.ddt_trie.proofs.tree.Tree.longest.Given as goal

abbrev pub invariant-loop-tree : goal.invariant-loop-tree
invariant-loop-tree g l =
    (l.depth ≤ length l.fn.prefix)
    × IsOnTheWay l.fn.at l.fn.self (drop l.fn.at l.fn.prefix) l.depth l.tree (drop l.depth l.fn.prefix) l.best
    × IsTrue (is_rooted (take l.depth l.fn.prefix) l.tree)
