use Rattle.std.proofs.Common.{ap, ◌∙◌, arith}
use Rattle.ddt_cache.specs.Live.{live_at}
use Rattle.ddt_cache.specs.laws.Live.{len_less, live_at-remove_ended}
use Rattle.ddt_cache.proofs.longest_live_match.drop_ended_over.Goals as goal

pub loop-prefix-smaller : goal.loop-prefix-smaller
loop-prefix-smaller g c =
    let m = g.M.PrefixMap.content c.loop-prefix.entries in
    let h = c.in-Some.ensures.ended in
    rw c.drop_entry.ensures.removed (len_less m c.in-Some.prefix h.0 h.1)

pub loop-prefix-preserved : goal.loop-prefix-preserved
loop-prefix-preserved g c =
    let m = g.M.PrefixMap.content c.loop-prefix.entries in
    let h = c.in-Some.ensures.ended in
    let less = len_less m c.in-Some.prefix h.0 h.1 in
    record {
      noted = c.drop_entry.ensures.noted;
      same =
          ap (live_at c.args.time) c.drop_entry.ensures.removed
          ∙ live_at-remove_ended c.args.time m c.in-Some.prefix h.0 h.1 h.2 ∙ c.loop-prefix.invariant.same;
      fewer = rw c.drop_entry.ensures.removed (omega (arith, less, c.loop-prefix.invariant.fewer));
    }
