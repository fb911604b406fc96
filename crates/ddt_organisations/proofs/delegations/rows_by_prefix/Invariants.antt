use Rattle.std.proofs.Common.{◌≤◌, take}
use Rattle.std.specs.FinMap.{len}
use Rattle.ddt_trie.specs.Trie.{trie_content}
use Rattle.ddt_organisations.specs.Found.{HasPrefixes}
use Rattle.ddt_organisations.proofs.delegations.rows_by_prefix.Given as goal

abbrev pub invariant-loop-zone : goal.invariant-loop-zone
invariant-loop-zone l = record {
  kept : HasPrefixes (take l.zone-index l.zones) (trie_content l.rows);
  few : len (trie_content l.rows) ≤ l.zone-index;
}
