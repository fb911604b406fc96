use Rattle.std.proofs.Common.{◌≡◌, rules, ap, ◌∙◌}
use Rattle.std.specs.FinMap as map
use Rattle.ddt_cache.specs.Live.{Known, is_live, known_of, forgotten}
use Rattle.ddt_cache.specs.laws.Known.{forgotten_known, live_key}
use Rattle.ddt_cache.specs.laws.Size.{len_removed}
use Rattle.ddt_cache.specs.laws.Order.{forgotten_in_order, in_order_along}
use Rattle.ddt_cache.proofs.cache.Cache.forget.Goals as goal
use Rattle.ddt_cache.proofs.cache.Cache.forget.Goals.{in-Some, in-None}

pub returns-clause-forgotten : goal.returns-clause-forgotten
returns-clause-forgotten g c =
    let m = g.M.PrefixMap.content c.self.inside.held.entries in
    let n = g.M.PrefixMap.content c.drop_entry.new.entries in
    forgotten_known c.self.inside.time m n c.self.inside.held.root.servers c.args.prefix c.drop_entry.ensures.removed
    ∙ ap (λ k. forgotten k c.args.prefix) c.self.view_is

pub returns-clause-went : goal.returns-clause-went
returns-clause-went g c =
    let m = g.M.PrefixMap.content c.self.inside.held.entries in
    let key = live_key c.self.inside.time m c.args.prefix c.drop_entry.result c.drop_entry.ensures.before in
    let answers : c.match-drop_entry.result ≡ is_live c.self.inside.time c.drop_entry.result =
    elim c.match-drop_entry.branch [
      | in-Some w ↦ search (rules, w.result-is, w.in-Some.is)
      | in-None w ↦ search (rules, w.result-is, w.in-None.is)
    ] in
    answers ∙ key ∙ ap (λ (k : Known). map.contains_key k.live c.args.prefix) c.self.view_is

pub invariant_of-self : goal.invariant_of-self
invariant_of-self g c =
    let t = c.self.inside.time in
    let m = g.M.PrefixMap.content c.self.inside.held.entries in
    let n = g.M.PrefixMap.content c.drop_entry.new.entries in
    let roots = c.self.inside.held.root.servers in (
      c.self.invariant.0,
      len_removed m n c.args.prefix c.drop_entry.ensures.removed c.self.invariant.1,
      in_order_along (known_of t n roots) (forgotten (known_of t m roots) c.args.prefix)
          (forgotten_known t m n roots c.args.prefix c.drop_entry.ensures.removed) (forgotten_in_order (known_of t m roots) c.args.prefix c.self.invariant.2),
      c.drop_entry.ensures.noted,
    )
