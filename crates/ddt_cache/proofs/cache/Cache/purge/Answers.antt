use Rattle.std.proofs.Common.{◌∙◌, arith}
use Rattle.ddt_cache.specs.Live.{known_of}
use Rattle.ddt_cache.specs.laws.Known.{same_known}
use Rattle.ddt_cache.specs.laws.Order.{in_order_along}
use Rattle.ddt_cache.specs.laws.Ends.{len_dropped_all}
use Rattle.ddt_cache.proofs.cache.Cache.purge.Goals as goal

pub returns-clause-moved : goal.returns-clause-moved
returns-clause-moved g c =
    let t = c.self.inside.time in
    let m = g.M.PrefixMap.content c.self.inside.held.entries in
    let n = g.M.PrefixMap.content c.drop_ended.new.entries in
    same_known t m n c.self.inside.held.root.servers c.drop_ended.ensures.live ∙ c.self.view_is ∙ c.advance.ensures

pub invariant_of-self : goal.invariant_of-self
invariant_of-self g c =
    let t = c.self.inside.time in
    let m = g.M.PrefixMap.content c.self.inside.held.entries in
    let n = g.M.PrefixMap.content c.drop_ended.new.entries in
    let roots = c.self.inside.held.root.servers in (
      c.self.invariant.0,
      omega (arith, c.drop_ended.ensures.fewer, c.self.invariant.1),
      in_order_along (known_of t n roots) (known_of t m roots) (same_known t m n roots c.drop_ended.ensures.live) c.self.invariant.2,
      c.drop_ended.ensures.noted,
    )

pub returns-clause-kept : goal.returns-clause-kept
returns-clause-kept g c =
    let t = c.self.inside.time in
    let m = g.M.PrefixMap.content c.self.inside.held.entries in
    let n = g.M.PrefixMap.content c.drop_ended.new.entries in
    c.len.ensures ∙ len_dropped_all t m n c.drop_ended.ensures.live c.drop_ended.ensures.done
