use Rattle.std.proofs.Common.{refl, ap, ◌∙◌}
use Rattle.std.specs.Option.{option_copied}
use Rattle.ddt_trie.proofs.WayLemmas.{copied_where, leaf_value}
use Rattle.ddt_trie.proofs.tree.Tree.+get.Goals as goal

pub returns-in-Leaf : goal.returns-in-Leaf
returns-in-Leaf g t c =
    let entry = c.in-Leaf.leaf.value in
    let rooted = rw c.in-Leaf.is at c.requires.rooted in
    ap option_copied c.then_some.ensures ∙ copied_where c.eq.result c.deref-in-Leaf.result.now.value _ refl
    ∙ rw (
      c.deref-in-Leaf.ensures,
      c.in-Leaf.is,
      leaf_value c.args.at c.args.prefix entry.prefix c.requires.within rooted
          entry.value c.eq.result (rw c.deref.ensures at c.eq.ensures),
    )
