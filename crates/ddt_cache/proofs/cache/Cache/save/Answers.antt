use Rattle.ddt_cache.specs.laws.Order.{saved_in_order}
use Rattle.ddt_cache.proofs.cache.Cache.save.Goals as goal

pub invariant_of-self : goal.invariant_of-self
invariant_of-self g c =
    let m = g.M.PrefixMap.content c.self.inside.held.entries in
    let n = g.M.PrefixMap.content c.save_among.new.entries in (
      c.self.invariant.0,
      c.save_among.ensures.bound,
      saved_in_order c.save_among.result c.self.inside.time m n c.self.inside.held.root.servers c.args.referral.now c.save_among.ensures.servers
          c.save_among.ensures.stored c.save_among.ensures.unchanged c.self.invariant.2,
      c.save_among.ensures.noted,
    )
