use Rattle.std.proofs.Common.{◌≡◌, [], ◌∷◌, ◌++◌, map, rules}
use Rattle.std.proofs.lemmas.List.{map-append}
use Rattle.std.proofs.lemmas.Map.Iter.{iter_end}
use Rattle.ddt_cache.proofs.InsideLemmas.{Row, each_more, all_more, all_same, all_listed}
use Rattle.ddt_cache.proofs.entries_inside.rows_inside.Goals as goal

pub loop-listed-preserved-in-Continue-1 : goal.loop-listed-preserved-in-Continue-1
loop-listed-preserved-in-Continue-1 g c =
    let t = c.args.time in
    let m = g.M.PrefixMap.content c.args.entries.now in
    let w = c.args.within in
    let rows = c.loop-listed.rows.items in
    let row : Row = c.in-Some-row_of.row in
    let ks = map (λ k. k.now) c.loop-listed.yielded in
    let more = map (λ k. k.now) (c.loop-listed.yielded ++ c.in-Some.listed ∷ []) in
    let h = c.loop-listed.invariant in
    let f = c.in-Some-row_of.ensures in
    let put : c.push.new.self.items ≡ rows ++ row ∷ [] = c.in_ok-push.ensures.items in
    rw put (record {
      each = each_more t m w rows row h.each f.each;
      all = all_more t m w rows row ks more c.in-Some.listed.now (map-append (λ k. k.now) c.loop-listed.yielded (c.in-Some.listed ∷ [])) h.all f.all;
    })

pub loop-listed-preserved : goal.loop-listed-preserved
loop-listed-preserved g c =
    let t = c.args.time in
    let m = g.M.PrefixMap.content c.args.entries.now in
    let w = c.args.within in
    let rows = c.loop-listed.rows.items in
    let ks = map (λ k. k.now) c.loop-listed.yielded in
    let more = map (λ k. k.now) (c.loop-listed.yielded ++ c.in-Some.listed ∷ []) in
    let h = c.loop-listed.invariant in record {
      each = h.each;
      all = all_same t m w rows ks more c.in-Some.listed.now (map-append (λ k. k.now) c.loop-listed.yielded (c.in-Some.listed ∷ [])) h.all c.in_default.ensures.all;
    }

pub returns-clause-all : goal.returns-clause-all
returns-clause-all g c =
    let ks = map (λ k. k.now) c.loop-listed.yielded in
    let whole : ks ≡ c.args.ends.now.listed.keys = search (rules, iter_end) in
    all_listed c.args.time (g.M.PrefixMap.content c.args.entries.now) c.args.within c.args.ends.now c.loop-listed.rows.items ks c.requires
    c.if-not-unlisted_ended_by.ensures whole c.loop-listed.invariant.all
