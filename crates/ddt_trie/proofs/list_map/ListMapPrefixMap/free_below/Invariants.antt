use Rattle.std.proofs.Common.{◌≡◌, ◌≤◌, length}
use Rattle.std.specs.Prelude.{find}
use Rattle.ddt_path.specs.Path.{xeid_path}
use Rattle.ddt_path.specs.Free.{free, parts_from, overlaps_none}
use Rattle.ddt_trie.specs.PrefixMap.{keys_below}
use Rattle.ddt_trie.specs.Entries.{map_of}
use Rattle.ddt_trie.proofs.list_map.ListMapPrefixMap.free_below.Given as goal

-- no part of the path that was tried is free
abbrev pub invariant-loop-len : goal.invariant-loop-len
invariant-loop-len g l =
    let ks = keys_below (map_of l.self.entries.items) l.fn.from in
    let x = xeid_path l.x in
    record {
      told : free l.fn.from ks x ≡ find (overlaps_none ks) (parts_from l.len x);
      bound : l.len ≤ length x;
    }
