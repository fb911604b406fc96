use Rattle.std.proofs.Common.{ap, ◌∙◌, arith}
use Rattle.ddt_cache.specs.Live.{live_at}
use Rattle.ddt_cache.specs.laws.Live.{len_less, live_at-remove_ended}
use Rattle.ddt_cache.proofs.longest_live_match.longest_live_over.Goals as goal

pub loop-found-smaller : goal.loop-found-smaller
loop-found-smaller g c =
    let m = g.M.PrefixMap.content c.loop-found.entries in
    rw c.drop_entry.ensures.removed (len_less m c.in-Some.found.0 c.in-Some.found.1 c.in-Some.ensures.longest.value)

pub loop-found-preserved : goal.loop-found-preserved
loop-found-preserved g c =
    let m = g.M.PrefixMap.content c.loop-found.entries in
    let value = c.in-Some.ensures.longest.value in
    let less = len_less m c.in-Some.found.0 c.in-Some.found.1 value in
    record {
      noted = c.drop_entry.ensures.noted;
      same =
          ap (live_at c.args.time) c.drop_entry.ensures.removed
          ∙ live_at-remove_ended c.args.time m c.in-Some.found.0 c.in-Some.found.1 value (omega (arith, c.if-time-found.false)) ∙ c.loop-found.invariant.same;
      fewer = rw c.drop_entry.ensures.removed (omega (arith, less, c.loop-found.invariant.fewer));
    }
