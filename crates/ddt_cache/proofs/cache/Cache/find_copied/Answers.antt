use Rattle.std.proofs.Common.{refl, ap, inl, inr}
use Rattle.ddt_path.specs.Path.{xeid_path}
use Rattle.std.specs.Prelude.{is_some}
use Rattle.ddt_cache.specs.declared.cache_entry.Entry.{Entry}
use Rattle.std.proofs.Common.{Option}
use Rattle.ddt_cache.specs.Live.{known_of}
use Rattle.ddt_cache.specs.laws.Known.{found_known}
use Rattle.ddt_cache.specs.laws.Live.{only_longest}
use Rattle.ddt_cache.proofs.cache.Cache.find_copied.Goals as goal

pub returns-in-Some-clause-found : goal.returns-in-Some-clause-found
returns-in-Some-clause-found g c =
    let t = c.self.inside.time in
    let n = g.M.PrefixMap.content c.longest_live_over.new.entries in
    let root = c.self.inside.held.root in
    let x = xeid_path c.args.x in
    let p = c.in-Some.found.0 in
    let e = c.in-Some.found.1 in
    found_known t n x p e root root.servers (known_of t n root.servers) c.self.invariant.0
    (λ q f h. only_longest t n x p q e f c.in-Some.ensures.longest h c.in-Some.ensures.unended) (inl c.in-Some.ensures.longest) refl

pub returns-clause-found : goal.returns-clause-found
returns-clause-found g c =
    let t = c.self.inside.time in
    let n = g.M.PrefixMap.content c.longest_live_over.new.entries in
    let root = c.self.inside.held.root in
    let x = xeid_path c.args.x in
    let none = c.in_default.ensures.none in
    found_known t n x c.cut.result root root root.servers (known_of t n root.servers) c.self.invariant.0
    (λ q f h. absurd (none (q, ap (λ (o : Option Entry). is_some o) h.value, h.covers_it))) (inr (none, search c.cut.ensures, refl)) refl
