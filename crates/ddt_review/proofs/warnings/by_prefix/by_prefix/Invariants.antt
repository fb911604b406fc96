use Rattle.std.proofs.Common.{◌≡◌, ℕ, ◌≤◌, List, take, find}
use Rattle.std.specs.Option.{option_copied}
use Rattle.std.specs.FinMap.{get, len}
use Rattle.ddt_path.specs.Covers.{is_same_path}
use Rattle.ddt_trie.specs.Trie.{trie_content}
use Rattle.ddt_review.proofs.warnings.by_prefix.by_prefix.Given as goal

abbrev pub invariant-loop-item : goal.invariant-loop-item
invariant-loop-item g l = record {
  kept : (p : List ℕ) → option_copied (get (trie_content l.kept) p)
      ≡ find (λ a. is_same_path p (g.T.Prefixed.path a)) (take l.item-index l.items);
  few : len (trie_content l.kept) ≤ l.item-index;
}
