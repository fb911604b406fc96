use Rattle.std.proofs.Common.{rules}
use Rattle.ddt_trie.proofs.WayLemmas.{into_high, below}
use Rattle.ddt_trie.proofs.tree.Tree.+remove.Goals as goal

pub remove-requires-in-One : goal.remove-requires-in-One
remove-requires-in-One g t c κs within =
    let node = c.in-Fork.node.value in
    let rooted = into_high c.args.at c.args.prefix node.zero node.one c.in-One.ensures
    (rw c.in-Fork.is at c.requires.rooted) in
    let pruned = below node.entry node.zero node.one (rw c.in-Fork.is at c.requires.pruned) in
    search (rules, c.deref_mut-in-One.ensures.value)
