use Rattle.std.proofs.Common.{◌≤◌, take}
use Rattle.std.specs.FinMap.{len}
use Rattle.ddt_trie.specs.Trie.{trie_content}
use Rattle.ddt_review.specs.Faults.Told.{HasFirstOf}
use Rattle.ddt_review.proofs.faults.first_items.first_zones.Given as goal

abbrev pub invariant-loop-zone : goal.invariant-loop-zone
invariant-loop-zone l = record {
  first : HasFirstOf (trie_content l.first) (take l.zone-index l.zones);
  few : len (trie_content l.first) ≤ l.zone-index;
}
