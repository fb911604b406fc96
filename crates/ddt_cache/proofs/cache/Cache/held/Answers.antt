use Rattle.std.proofs.Common.{ap, arith, ◌≡◌, sym}
use Rattle.std.specs.FinMap.{len}
use Rattle.ddt_cache.specs.Live.{Known, known_of}
use Rattle.ddt_cache.specs.laws.Size.{len-live_at}
use Rattle.ddt_cache.proofs.cache.Cache.held.Goals as goal

pub returns-clause-least : goal.returns-clause-least
returns-clause-least g c =
    let t = c.self.inside.time in
    let m = g.M.PrefixMap.content c.self.inside.held.entries in
    let fewer = len-live_at t m in
    let same : len c.args.self.now.live ≡ len (known_of t m c.self.inside.held.root.servers).live =
    ap (λ (k : Known). len k.live) (sym c.self.view_is) in
    omega (arith, fewer, same, c.len.ensures)
