use Rattle.std.proofs.Common.{arith, sym, ◌∙◌, inl, inr}
use Rattle.ddt_trie.proofs.TreeLemmas.{step_low, step_high}
use Rattle.ddt_trie.proofs.WayLemmas.{into_low, into_high}
use Rattle.ddt_trie.proofs.LeafLemmas.{leaf_longest, leaf_uncovered}
use Rattle.ddt_trie.proofs.DescentLemmas.{IsMetNext, found_at_end, go_on}
use Rattle.ddt_trie.proofs.tree.Tree.longest.Goals as goal
use Rattle.ddt_trie.proofs.tree.Tree.longest.Goals.{in-Some, in_default-entry, in-Zero, in-One}

pub returns-in-End-clause-found : goal.returns-in-End-clause-found
returns-in-End-clause-found g c =
    let met : IsMetNext c.loop-tree.depth c.loop-tree.tree.now c.loop-tree.best c.match-deref.best =
    elim c.match-deref.branch [
      | in-Some w ↦ inl (_, rw (c.in-Fork.is, ← c.deref.ensures, w.in-Some.is, w.deref-in-Some.ensures), w.best-is)
      | in_default-entry w ↦ inr (rw (c.in-Fork.is, ← c.deref.ensures, w.in_default-entry.is), w.best-is)
    ] in
    found_at_end c.loop-tree.invariant.1 (rw (c.len-len.ensures.digits, c.inner-x.ensures.front) at c.in-End.ensures) met

pub loop-tree-preserved : goal.loop-tree-preserved
loop-tree-preserved g c =
    let depth = c.loop-tree.depth in
    let node = c.in-Fork.node.value in
    let met : IsMetNext depth c.loop-tree.tree.now c.loop-tree.best c.match-deref.best =
    elim c.match-deref.branch [
      | in-Some w ↦ inl (_, rw (c.in-Fork.is, ← c.deref.ensures, w.in-Some.is, w.deref-in-Some.ensures), w.best-is)
      | in_default-entry w ↦ inr (rw (c.in-Fork.is, ← c.deref.ensures, w.in_default-entry.is), w.best-is)
    ] in
    let rooted = rw c.in-Fork.is at c.loop-tree.invariant.2 in
    elim c.match-branch_of_xeid.branch [
      | in-Zero w ↦
          let goes = rw (c.len-len.ensures.digits, c.inner-x.ensures.front) at w.in-Zero.ensures in
          rw (w.tree-is, w.deref-in-Zero.ensures) (
            omega (arith, goes.1),
            go_on c.loop-tree.invariant.1 (step_low c.in-Fork.is goes.0) met,
            into_low depth c.args.prefix node.zero node.one goes rooted,
          )
      | in-One w ↦
          let goes = rw (c.len-len.ensures.digits, c.inner-x.ensures.front) at w.in-One.ensures in
          rw (w.tree-is, w.deref-in-One.ensures) (
            omega (arith, goes.1),
            go_on c.loop-tree.invariant.1 (step_high c.in-Fork.is goes.0) met,
            into_high depth c.args.prefix node.zero node.one goes rooted,
          )
    ]

pub returns-then-not-covers : goal.returns-then-not-covers
returns-then-not-covers g c =
    let free = leaf_uncovered c.loop-tree.depth c.args.prefix c.in-Leaf.is
    c.loop-tree.invariant.2 c.loop-tree.invariant.0 (sym (rw c.deref-2.ensures at c.covers.ensures) ∙ c.if-not-covers.true) in
    record { found = c.loop-tree.invariant.1.last free; none = c.loop-tree.invariant.1.none free }

pub returns-clause-found : goal.returns-clause-found
returns-clause-found g c =
    let found = leaf_longest c.loop-tree.depth c.args.prefix c.in-Leaf.is
    c.loop-tree.invariant.2 c.loop-tree.invariant.0 (sym (rw c.deref-2.ensures at c.covers.ensures) ∙ c.if-not-covers.false) in
    rw (c.len.ensures.digits, c.deref-3.ensures, c.deref-4.ensures) (c.loop-tree.invariant.1.below _ _ found)
