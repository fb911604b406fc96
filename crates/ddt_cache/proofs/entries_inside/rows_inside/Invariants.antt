use Rattle.std.proofs.Common.{map}
use Rattle.std.specs.Prelude.{All}
use Rattle.ddt_cache.specs.Inside.{IsRow}
use Rattle.ddt_cache.proofs.InsideLemmas.{HasRows}
use Rattle.ddt_cache.proofs.entries_inside.rows_inside.Given as goal

-- each row is one, and the rows of the ends so far are among them
abbrev pub invariant-loop-listed : goal.invariant-loop-listed
invariant-loop-listed g l =
    record {
      each : All (IsRow l.time (g.M.PrefixMap.content l.entries) l.within) l.rows.items;
      all : All (HasRows l.time (g.M.PrefixMap.content l.entries) l.within l.rows.items) (map (λ k. k.now) l.yielded);
    }
