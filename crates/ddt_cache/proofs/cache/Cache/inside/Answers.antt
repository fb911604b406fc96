use Rattle.std.proofs.Common.{sym, ap}
use Rattle.ddt_cache.specs.Live.{Known}
use Rattle.ddt_cache.proofs.InsideLemmas.{answered_inside}
use Rattle.ddt_cache.proofs.cache.Cache.inside.Goals as goal

pub returns : goal.returns
returns g c =
    answered_inside c.self.inside.time (g.M.PrefixMap.content c.self.inside.held.entries) c.args.within c.rows_inside.result (λ rows. rows.items) c.args.self.now
    (sym (ap (λ (k : Known). k.live) c.self.view_is)) c.rows_inside.ensures.each c.rows_inside.ensures.all
