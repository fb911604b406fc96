use Rattle.std.proofs.Common.{refl, ap, ◌∙◌}
use Rattle.ddt_cache.specs.Live.{Known, live_at, known_of, nothing_known}
use Rattle.ddt_cache.specs.laws.Live.{Entries, live_at-empty}
use Rattle.ddt_cache.specs.laws.Size.{len_none}
use Rattle.ddt_cache.specs.laws.Order.{nothing_in_order, in_order_along}
use Rattle.ddt_cache.specs.laws.Ends.{noted_none}
use Rattle.ddt_cache.proofs.cache.Cache.new.Goals as goal

pub returns : goal.returns
returns g c =
    let at : Entries → Known = λ m. record { time = 0; live = m; roots = c.args.roots } in
    ap at (ap (live_at 0) c.empty.ensures ∙ live_at-empty 0)

pub invariant_of-result : goal.invariant_of-result
invariant_of-result g c =
    let at : Entries → Known = λ m. record { time = 0; live = m; roots = c.args.roots } in (
      refl,
      len_none _ c.empty.ensures,
      in_order_along (known_of 0 (g.M.PrefixMap.content c.empty.result) c.args.roots) (nothing_known c.args.roots)
          (ap at (ap (live_at 0) c.empty.ensures ∙ live_at-empty 0)) (nothing_in_order c.args.roots c.as_slice-few.ensures.bound),
      noted_none c.new.result (g.M.PrefixMap.content c.empty.result) c.empty.ensures,
    )
