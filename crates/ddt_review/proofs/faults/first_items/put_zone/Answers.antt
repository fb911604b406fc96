use Rattle.std.proofs.Common.{◌≡◌, ◌+◌, ◌≤◌, false, true, sym, ap, ◌∙◌, arith}
use Rattle.std.specs.Prelude.{is_some}
use Rattle.std.specs.FinMap.{get, insert, len}
use Rattle.std.specs.Cmp.Lexicographic.{nat_list_cmp_total}
use Rattle.ddt_path.specs.laws.MapSize.{len_inserted}
use Rattle.ddt_trie.specs.Trie.{trie_content}
use Rattle.ddt_review.specs.Faults.Told.{row_of_zone}
use Rattle.ddt_review.proofs.FaultsLemmas.FirstLemmas.{copied_some, none_from, tree_known, tree_new}
use Rattle.ddt_review.proofs.faults.first_items.put_zone.Goals as goal

pub returns-then-is_some-clause-first : goal.returns-then-is_some-clause-first
returns-then-is_some-clause-first c = λ p.
    let old = trie_content c.args.first.now in
    let z = c.args.zone.now in
    let known : is_some (get old z.prefix) ≡ true =
    ap is_some (sym c.get.ensures) ∙ copied_some c.get.result ∙ sym c.is_some.ensures ∙ c.if-is_some.true in
    tree_known old z.prefix (row_of_zone z) p known

pub returns-in-Ok-clause-first : goal.returns-in-Ok-clause-first
returns-in-Ok-clause-first c = λ p.
    let old = trie_content c.args.first.now in
    let z = c.args.zone.now in
    let absent : is_some (get old z.prefix) ≡ false =
    ap is_some (sym c.get.ensures) ∙ copied_some c.get.result ∙ sym c.is_some.ensures ∙ c.if-is_some.false in
    ap (λ m. get m p) c.in-Ok.ensures.inserted
    ∙ tree_new old z.prefix (row_of_zone z) p (none_from (get old z.prefix) absent)

pub returns-in-Ok-clause-count : goal.returns-in-Ok-clause-count
returns-in-Ok-clause-count c =
    let old = trie_content c.args.first.now in
    let z = c.args.zone.now in
    let same : len (trie_content c.insert.new.self) ≡ len (insert old z.prefix (row_of_zone z)) =
    ap len c.in-Ok.ensures.inserted in
    let most : len (insert old z.prefix (row_of_zone z)) ≤ len old + 1 =
    len_inserted nat_list_cmp_total old z.prefix (row_of_zone z) in
    omega arith
