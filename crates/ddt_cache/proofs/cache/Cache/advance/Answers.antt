use Rattle.std.proofs.Common.{ap, ◌∙◌}
use Rattle.std.specs.Prelude.{max}
use Rattle.ddt_cache.specs.Live.{moved, known_of}
use Rattle.ddt_cache.specs.laws.Known.{moved_known}
use Rattle.ddt_cache.specs.laws.Order.{moved_in_order, in_order_along}
use Rattle.ddt_cache.proofs.cache.Cache.advance.Goals as goal

pub returns : goal.returns
returns g c =
    let t = c.self.inside.time in
    let m = g.M.PrefixMap.content c.self.inside.held.entries in
    let roots = c.self.inside.held.root.servers in
    let later = c.max-self-inside.ensures ∙ ap (max t) c.millis.ensures.value in
    moved_known t c.args.now c.max-self-inside.result m roots later ∙ ap (moved c.args.now) c.self.view_is

pub invariant_of-self : goal.invariant_of-self
invariant_of-self g c =
    let t = c.self.inside.time in
    let m = g.M.PrefixMap.content c.self.inside.held.entries in
    let roots = c.self.inside.held.root.servers in
    let later = c.max-self-inside.ensures ∙ ap (max t) c.millis.ensures.value in (
      c.self.invariant.0,
      c.self.invariant.1,
      in_order_along (known_of c.max-self-inside.result m roots) (moved c.args.now (known_of t m roots))
          (moved_known t c.args.now c.max-self-inside.result m roots later)
          (moved_in_order (known_of t m roots) c.args.now c.millis.ensures.bound c.self.invariant.2),
      c.self.invariant.3,
    )
