use Rattle.std.specs.Fn.{FnReturnsAt}
use Rattle.std.proofs.lemmas.Fn.{says_at}
use Rattle.ddt_trie.proofs.LeafLemmas.{leaf_kept, leaf_dropped}
use Rattle.ddt_trie.proofs.tree.Tree.retain_leaf.Goals as goal

pub returns-then-is_kept-clause-kept : goal.returns-then-is_kept-clause-kept
returns-then-is_kept-clause-kept g c =
    leaf_kept c.in-Leaf.is (FnReturnsAt g.F.Fn c.args.keep.now)
    (rw c.deref.ensures at (says_at g.F.Fn c.keep-is_kept.ensures c.if-is_kept.true))

pub returns-clause-kept : goal.returns-clause-kept
returns-clause-kept g c =
    leaf_dropped c.in-Leaf.is (FnReturnsAt g.F.Fn c.args.keep.now)
    (rw c.deref.ensures at (says_at g.F.Fn c.keep-is_kept.ensures c.if-is_kept.false))
