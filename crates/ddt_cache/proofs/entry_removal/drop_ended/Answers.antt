use Rattle.std.proofs.Common.{◌∙◌, ap, sym, arith}
use Rattle.std.specs.Cmp.Lexicographic.{nat_list_cmp_total}
use Rattle.std.specs.FinMap as map
use Rattle.ddt_path.specs.laws.MapSize.{len_removed}
use Rattle.ddt_cache.specs.laws.Known.{live_twice}
use Rattle.ddt_cache.specs.laws.Size.{len-live_at}
use Rattle.ddt_cache.specs.laws.Ends.{noted_removed, noted_live, live_without}
use Rattle.ddt_cache.proofs.entry_removal.drop_ended.Goals as goal

pub returns-in_default-clause-live : goal.returns-in_default-clause-live
returns-in_default-clause-live g c =
    live_twice c.args.time (g.M.PrefixMap.content c.loop-ends.entries) _ c.drop_unlisted.ensures.live ∙ c.loop-ends.invariant.same

pub returns-in_default-clause-fewer : goal.returns-in_default-clause-fewer
returns-in_default-clause-fewer g c =
    let least = len-live_at c.args.time (g.M.PrefixMap.content c.loop-ends.entries) in
    omega (arith, ap (λ l. map.len l) c.drop_unlisted.ensures.live, least, c.loop-ends.invariant.fewer)

pub loop-ends-preserved-then-not-is_live : goal.loop-ends-preserved-then-not-is_live
loop-ends-preserved-then-not-is_live g c =
    let m = g.M.PrefixMap.content c.loop-ends.entries in
    let n = g.M.PrefixMap.content c.remove.new.self in
    let p = c.in-Some.prefix in
    let removed = c.remove.ensures.removed in
    let ended = c.in-Some.ensures.ended in
    let less = len_removed nat_list_cmp_total m p in
    record {
      noted = noted_removed c.loop-ends.ends c.take_ended.new.self m n p ended.0 removed ended.2 c.loop-ends.invariant.noted;
      same = live_without c.args.time m n p removed (sym c.if-not-is_live.ensures) ∙ c.loop-ends.invariant.same;
      fewer = omega (arith, ap (λ l. map.len l) removed, less, c.loop-ends.invariant.fewer);
    }

pub loop-ends-preserved : goal.loop-ends-preserved
loop-ends-preserved g c =
    record {
      noted =
          noted_live c.loop-ends.ends c.take_ended.new.self c.args.time (g.M.PrefixMap.content c.loop-ends.entries) c.in-Some.prefix
          (sym c.if-not-is_live.ensures) c.in-Some.ensures.ended c.loop-ends.invariant.noted;
      same = c.loop-ends.invariant.same;
      fewer = c.loop-ends.invariant.fewer;
    }
