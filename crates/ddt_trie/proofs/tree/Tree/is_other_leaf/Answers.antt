use Rattle.std.proofs.Common.{refl}
use Rattle.ddt_trie.proofs.WayLemmas.{leaf_other}
use Rattle.ddt_trie.proofs.tree.Tree.is_other_leaf.Goals as goal

pub returns-in-Leaf-clause-leaf : goal.returns-in-Leaf-clause-leaf
returns-in-Leaf-clause-leaf g c = λ told.
    let entry = c.in-Leaf.leaf.value in
    let rooted = rw c.in-Leaf.is at c.requires.rooted in
    rw c.in-Leaf.is (
      refl,
      leaf_other c.args.at c.args.prefix entry.prefix c.requires.within rooted entry.value c.ne.result
          (rw c.deref.ensures at c.ne.ensures) told,
    )
