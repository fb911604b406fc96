use Rattle.std.proofs.Common.{◌≡◌, ◌+◌, ◌<◌, ◌≤◌, length, take}
use Rattle.std.specs.List.{sum_by}
use Rattle.ddt_trie.specs.PrefixMap.{most_entries}
use Rattle.ddt_config.specs.Entries.{count_in}
use Rattle.ddt_node.proofs.place_index.has_room_for.Given as goal

abbrev pub invariant-loop-authority : goal.invariant-loop-authority
invariant-loop-authority l =
    (l.count ≤ length l.authorities + sum_by count_in (take l.authority-index l.authorities))
    × (l.count < most_entries → l.count ≡ length l.authorities + sum_by count_in (take l.authority-index l.authorities))
