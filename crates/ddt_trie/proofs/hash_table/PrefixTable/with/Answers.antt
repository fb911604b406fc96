use Rattle.std.proofs.Common.{ℕ, List, subst, sym}
use Rattle.std.specs.Prelude.{IsTrue, length}
use Rattle.std.specs.FinMap.{insert, contains_key}
use Rattle.std.specs.List.Sorted.{IsNonDecreasing}
use Rattle.ddt_trie.specs.declared.hash_table.PrefixTable.{PrefixTable}
use Rattle.ddt_trie.specs.HashTable.{is_length, IsSetAt, IsTableOf}
use Rattle.ddt_trie.proofs.HashTableLemmas.{put_at, known, some_weaker}
use Rattle.ddt_trie.proofs.hash_table.PrefixTable.with.Goals as goal

pub returns : goal.returns
returns g c m t =
    let s = c.hash_key_of.ensures in
    let lengths = c.in_ok-self.field-0.items in
    let before : PrefixTable _ = record { blocks = c.args.self.blocks; others = c.args.self.others; lengths = c.in_ok-self.field-0 } in
    let all = known m c.args.prefix c.args.value c.args.self.lengths.items lengths t.known c.in_ok-self.ensures.kept
    (subst (λ (n : ℕ). IsTrue (is_length lengths n)) c.len.ensures.digits c.in_ok-self.ensures.added) in
    some_weaker (λ u. IsSetAt before u c.hash_key_of.result c.args.value) (λ u. IsTableOf u (insert m c.args.prefix c.args.value))
    (λ u set. record {
      same = put_at m c.args.prefix c.args.value before u c.hash_key_of.result s.0 s.1 s.2 s.3 set t.same;
      known = subst (λ (ls : List ℕ). (q : List ℕ) → IsTrue (contains_key (insert m c.args.prefix c.args.value) q) → IsTrue (is_length ls (length q))) (sym set.lengths) all;
      rising = subst IsNonDecreasing (sym set.lengths) (c.in_ok-self.ensures.rising t.rising);
    })
    c.set.result c.set.ensures
