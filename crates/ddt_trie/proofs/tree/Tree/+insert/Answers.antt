use Rattle.std.proofs.Common.{rules}
use Rattle.ddt_trie.proofs.WayLemmas.{into_low, into_high, below, pruned_own, pruned_low, pruned_high}
use Rattle.ddt_trie.proofs.tree.Tree.+insert.Goals as goal

pub insert-requires : goal.insert-requires
insert-requires g t c κs within =
    let node = c.in-Fork.node.value in
    let rooted = into_low c.args.at c.args.prefix.now node.zero node.one c.in-Zero.ensures
    (rw c.in-Fork.is at c.split_leaf.ensures.rooted) in
    let pruned = below node.entry node.zero node.one (rw c.in-Fork.is at c.split_leaf.ensures.pruned) in
    search (rules, c.deref_mut-in-Zero.ensures.value)

pub insert-requires-in-One : goal.insert-requires-in-One
insert-requires-in-One g t c κs within =
    let node = c.in-Fork.node.value in
    let rooted = into_high c.args.at c.args.prefix.now node.zero node.one c.in-One.ensures
    (rw c.in-Fork.is at c.split_leaf.ensures.rooted) in
    let pruned = below node.entry node.zero node.one (rw c.in-Fork.is at c.split_leaf.ensures.pruned) in
    search (rules, c.deref_mut-in-One.ensures.value)

pub returns-in-End-clause-pruned : goal.returns-in-End-clause-pruned
returns-in-End-clause-pruned g t c =
    let node = c.in-Fork.node.value in
    rw c.deref_mut-in-End.ensures.value (pruned_own node.entry node.zero node.one
    (rw c.in-Fork.is at c.split_leaf.ensures.pruned) c.set_entry.new.entry
    (rw c.deref_mut-in-End.ensures.value at c.set_entry.ensures.still))

pub returns-in-Zero-clause-pruned : goal.returns-in-Zero-clause-pruned
returns-in-Zero-clause-pruned g t c =
    let node = c.in-Fork.node.value in
    rw c.deref_mut-in-Zero.ensures.value (pruned_low node.entry node.zero node.one
    (rw c.in-Fork.is at c.split_leaf.ensures.pruned) c.insert.new.self
    (rw c.deref_mut-in-Zero.ensures.value at c.insert.ensures.still) c.insert.ensures.pruned)

pub returns-in-One-clause-pruned : goal.returns-in-One-clause-pruned
returns-in-One-clause-pruned g t c =
    let node = c.in-Fork.node.value in
    rw c.deref_mut-in-One.ensures.value (pruned_high node.entry node.zero node.one
    (rw c.in-Fork.is at c.split_leaf.ensures.pruned) c.insert-in-One.new.self
    (rw c.deref_mut-in-One.ensures.value at c.insert-in-One.ensures.still) c.insert-in-One.ensures.pruned)
