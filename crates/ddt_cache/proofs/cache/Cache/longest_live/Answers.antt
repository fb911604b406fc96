use Rattle.std.proofs.Common.{refl, ◌∙◌}
use Rattle.ddt_path.specs.Path.{xeid_path}
use Rattle.ddt_cache.specs.Live.{moved}
use Rattle.ddt_cache.specs.laws.Known.{found_known, found_front, same_known}
use Rattle.ddt_cache.proofs.cache.Cache.longest_live.Goals as goal

pub returns : goal.returns
returns g c =
    let t = c.self.inside.time in
    let m = g.M.PrefixMap.content c.self.inside.held.entries in
    let n = g.M.PrefixMap.content c.drop_ended_over.new.entries in
    let roots = c.self.inside.held.root.servers in
    let x = xeid_path c.args.x in
    let p = c.longest_or_root-prefix.result.0 in
    let e = c.longest_or_root-prefix.result.1.now in
    let k = moved c.args.now c.args.self.now in
    let final = same_known t m n roots c.drop_ended_over.ensures.live ∙ c.self.view_is ∙ c.advance.ensures in
    let found = found_known t n x p e c.self.inside.held.root roots k
    c.self.invariant.0 c.drop_ended_over.ensures.longest c.longest_or_root-prefix.ensures final in
    let front = found_front k x p e found in
    let digits = c.len.ensures.digits in (
      (refl, (λ _. tt), search final),
      record {
        after = tt;
        short = rw digits front.0;
        found = rw (digits, front.1) found;
      },
    )
