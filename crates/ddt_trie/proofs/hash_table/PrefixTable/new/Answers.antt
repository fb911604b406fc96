use Rattle.std.proofs.Common.{ap, sym, ◌∙◌, arith}
use Rattle.std.specs.Prelude.{Option, is_some}
use Rattle.std.specs.Map.{lookup}
use Rattle.std.specs.FinMap.{get-empty}
use Rattle.std.proofs.lemmas.Bool.{false≢true}
use Rattle.std.proofs.lemmas.List.Sorted.{IsNonDecreasingBy-short}
use Rattle.ddt_path.specs.Path.{path}
use Rattle.ddt_trie.specs.PrefixMap.{path_cmp}
use Rattle.ddt_trie.specs.HashKey.{is_same_block, is_same_key}
use Rattle.ddt_trie.proofs.HashTableLemmas.{nothing_at}
use Rattle.ddt_trie.proofs.hash_table.PrefixTable.new.Goals as goal

pub returns : goal.returns
returns g c = record {
  same = λ f fits. nothing_at (record { blocks = c.new.result; others = c.new-2.result; lengths = c.new-3.result })
      (λ k. ap (lookup (is_same_block k)) c.new.ensures.empty) (λ k. ap (lookup (is_same_key k)) c.new-2.ensures.empty) f
      ∙ sym (get-empty path_cmp (path f));
  known = λ p key. absurd (false≢true (sym (ap (λ (o : Option _). is_some o) (get-empty path_cmp p)) ∙ key));
  rising = IsNonDecreasingBy-short (λ n. n) _ (omega (arith, c.new-3.ensures.len));
}
