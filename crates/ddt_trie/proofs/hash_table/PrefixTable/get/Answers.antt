use Rattle.std.proofs.Common.{ap, sym, ◌∙◌}
use Rattle.std.specs.FinMap.{get}
use Rattle.ddt_trie.specs.HashTable.{value_at}
use Rattle.ddt_trie.proofs.hash_table.PrefixTable.get.Goals as goal

pub returns-in-Block : goal.returns-in-Block
returns-in-Block g c m is =
    let s = c.hash_key_of.ensures in
    c.get.ensures.value ∙ ap (value_at c.args.self.now) (sym c.in-Block.is ∙ s.3) ∙ is.same s.0 s.1 ∙ ap (get m) s.2

pub returns-in-Other : goal.returns-in-Other
returns-in-Other g c m is =
    let s = c.hash_key_of.ensures in
    c.get-in-Other.ensures.value ∙ ap (value_at c.args.self.now) (sym c.in-Other.is ∙ s.3) ∙ is.same s.0 s.1 ∙ ap (get m) s.2
