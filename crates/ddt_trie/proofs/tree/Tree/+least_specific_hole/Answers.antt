use Rattle.std.proofs.Common.{rules, ◌≡◌, ◌∙◌, sym, arith}
use Rattle.std.proofs.lemmas.List.{length-take-le}
use Rattle.ddt_path.specs.Covers.{shared_len}
use Rattle.ddt_path.specs.laws.Share.{shared_len-le}
use Rattle.ddt_trie.proofs.TreeLemmas.{if_none, step_low, step_high, hole_node, met_below, hole_short, held_below, counted_met, ended}
use Rattle.ddt_trie.proofs.WayLemmas.{into_high, below}
use Rattle.ddt_trie.proofs.LeafLemmas.{leaf_short, leaf_met, leaf_hole}
use Rattle.ddt_trie.proofs.tree.Tree.+least_specific_hole.Goals as goal

pub returns-then-ends_short-clause-found : goal.returns-then-ends_short-clause-found
returns-then-ends_short-clause-found g t c =
    hole_short c.args.least c.in-Fork.is (rw c.deref-in-Fork.ensures at c.ends_short.ensures) c.if-ends_short.true

pub returns-then-counts-clause-none : goal.returns-then-counts-clause-none
returns-then-counts-clause-none g t c =
    counted_met c.args.least c.in-Fork.is (rw c.deref-in-Fork-2.ensures at c.counts.ensures) c.if-counts.true

pub returns-in-End-clause-none : goal.returns-in-End-clause-none
returns-in-End-clause-none g t c =
    let over = ended c.args.prefix c.args.at c.in-End.ensures in
    rw c.in-End.ensures (held_below c.args.least c.in-Fork.is (rw c.deref-in-Fork.ensures at c.ends_short.ensures)
    c.if-ends_short.false c.requires.pruned (omega (arith, c.requires.near)))

pub returns-in-Zero-clause-found : goal.returns-in-Zero-clause-found
returns-in-Zero-clause-found g t c =
    hole_node c.args.least c.in-Fork.is c.least_specific_hole.result (step_low c.in-Fork.is c.in-Zero.ensures.0)
    (rw c.deref-in-Fork.ensures at c.ends_short.ensures) c.if-ends_short.false
    (rw c.deref-in-Fork-2.ensures at c.counts.ensures) c.if-counts.false c.requires.pruned
    (rw c.deref-in-Zero.ensures at c.least_specific_hole.ensures.found)

pub returns-in-Zero-clause-none : goal.returns-in-Zero-clause-none
returns-in-Zero-clause-none g t c =
    if_none c.least_specific_hole.result (met_below (step_low c.in-Fork.is c.in-Zero.ensures.0) c.args.least)
    (rw c.deref-in-Zero.ensures at c.least_specific_hole.ensures.none)

pub returns-in-One-clause-found : goal.returns-in-One-clause-found
returns-in-One-clause-found g t c =
    hole_node c.args.least c.in-Fork.is c.least_specific_hole-in-One.result (step_high c.in-Fork.is c.in-One.ensures.0)
    (rw c.deref-in-Fork.ensures at c.ends_short.ensures) c.if-ends_short.false
    (rw c.deref-in-Fork-2.ensures at c.counts.ensures) c.if-counts.false c.requires.pruned
    (rw c.deref-in-One.ensures at c.least_specific_hole-in-One.ensures.found)

pub returns-in-One-clause-none : goal.returns-in-One-clause-none
returns-in-One-clause-none g t c =
    if_none c.least_specific_hole-in-One.result (met_below (step_high c.in-Fork.is c.in-One.ensures.0) c.args.least)
    (rw c.deref-in-One.ensures at c.least_specific_hole-in-One.ensures.none)

pub returns-then-len-least-clause-found : goal.returns-then-len-least-clause-found
returns-then-len-least-clause-found g t c =
    let long = rw c.deref.ensures at c.len.ensures.digits in
    leaf_short c.args.at c.args.prefix c.in-Leaf.is c.requires.rooted c.requires.within
    c.args.least (omega (arith, c.if-len-least.true))

pub returns-then-overlaps-clause-none : goal.returns-then-overlaps-clause-none
returns-then-overlaps-clause-none g t c =
    let long = rw c.deref.ensures at c.len.ensures.digits in
    leaf_met c.args.at c.args.prefix c.in-Leaf.is c.requires.rooted c.requires.within
    c.args.least (omega (arith, c.if-len-least.false))
    (sym (rw c.deref-in-Leaf.ensures at c.overlaps.ensures) ∙ c.if-overlaps.true)

pub returns-else-overlaps-clause-found : goal.returns-else-overlaps-clause-found
returns-else-overlaps-clause-found g t c =
    let k = c.in-Leaf.leaf.value.prefix in
    let p = c.args.prefix in
    let long = rw c.deref.ensures at c.len.ensures.digits in
    let shared : c.len-in-Leaf.result ≡ shared_len k p =
    c.len-in-Leaf.ensures.digits ∙ rw (c.longest_common.ensures.digits, c.deref-in-Leaf-2.ensures)
    (length-take-le (shared_len k p) k (shared_len-le k p)) in
    rw shared (leaf_hole c.args.at p c.in-Leaf.is c.requires.rooted c.requires.within
    (sym (rw c.deref-in-Leaf.ensures at c.overlaps.ensures) ∙ c.if-overlaps.false) c.args.least
    (omega (arith, c.if-len-least.false)))

pub least_specific_hole-requires-in-One : goal.least_specific_hole-requires-in-One
least_specific_hole-requires-in-One g t c κs within =
    let node = c.in-Fork.node.value in
    let rooted = into_high c.args.at c.args.prefix node.zero node.one c.in-One.ensures
    (rw c.in-Fork.is at c.requires.rooted) in
    let pruned = below node.entry node.zero node.one (rw c.in-Fork.is at c.requires.pruned) in
    search (rules, c.deref-in-One.ensures)
