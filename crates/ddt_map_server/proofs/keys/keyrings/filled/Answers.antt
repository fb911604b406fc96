use Rattle.std.proofs.Common.{◌≡◌, ◌≢◌, ◌++◌, ◌+◌, [], ◌∷◌, List, length, take, drop, map, Ok, Err, sym, ap, subst, ◌∙◌, arith}
use Rattle.std.proofs.lemmas.List.{take_at, take_more}
use Rattle.std.proofs.lemmas.Result.{err_from_is_err_and}
use Rattle.ddt_map_server.specs.declared.keys.fault.KeysFault.{KeysFault}
use Rattle.ddt_map_server.specs.declared.keys.fault.KeysFault.TheVariants.{Memory}
use Rattle.ddt_map_server.specs.declared.keys.site_key.SiteKey.{SiteKey}
use Rattle.ddt_map_server.specs.Keys.KeyedSites.{judged, judged_after}
use Rattle.ddt_map_server.specs.Keys.Keyrings.{ring_of, given, AreInOrder, judged_among}
use Rattle.ddt_map_server.proofs.KeysLemmas.FillLemmas.{in_order, given-rings, judged-rings, next-good, next-bad}
use Rattle.ddt_map_server.proofs.keys.keyrings.filled.Goals as goal

pub place-requires : goal.place-requires
place-requires c =
    subst AreInOrder (sym (c.deref_mut.ensures.value ∙ c.loop-key.invariant.filled))
    (in_order (take c.loop-key.key-index c.args.keys.now) c.args.prefixes.now c.requires)

pub returns-in_err-place-clause-refused : goal.returns-in_err-place-clause-refused
returns-in_err-place-clause-refused c =
    let ps = c.args.prefixes.now in
    let keys = c.args.keys.now in
    let i = c.loop-key.key-index in
    let k = c.key-item.result in
    let fault = c.in_err-place.field-0.0 in
    let was = c.deref_mut.ensures.value ∙ c.loop-key.invariant.filled in
    let p = err_from_is_err_and c.from_residual-in_err-place.result c.from_residual-in_err-place.ensures.1 in
    rw p.1 (subst (λ (f : KeysFault). f ≢ Memory → judged_after ps [] keys ≡ Err f) (sym p.2) (λ ne.
    c.loop-key.invariant.judged ∙ next-bad ps keys i k c.loop-key-test.true c.key-item.is fault
    (sym (judged-rings k (take i keys) ps) ∙ ap (judged_among k) (sym was) ∙ c.in_err-place.ensures.judged ne)))

pub loop-key-preserved : goal.loop-key-preserved
loop-key-preserved c =
    let ps = c.args.prefixes.now in
    let keys = c.args.keys.now in
    let i = c.loop-key.key-index in
    let k = c.key-item.result in
    let was = c.deref_mut.ensures.value ∙ c.loop-key.invariant.filled in
    let more : take i keys ++ k ∷ [] ≡ take (i + 1) keys =
    sym (take_more keys i k c.loop-key-test.true ∙ ap (λ (x : SiteKey). take i keys ++ x ∷ []) (sym c.key-item.is)) in
    let now : c.place.new.keyrings ≡ map (ring_of (take (i + 1) keys)) ps =
    c.in_ok-place.ensures.added ∙ ap (map (given k)) was ∙ given-rings k (take i keys) ps ∙ ap (λ (l : List SiteKey). map (ring_of l) ps) more in
    let len : length c.place.new.keyrings ≡ c.loop-key.keyrings.len = omega (arith, c.deref_mut.ensures.len) in
    let good : judged ps (take i keys) k ≡ Ok tt =
    sym (judged-rings k (take i keys) ps) ∙ ap (judged_among k) (sym was) ∙ c.in_ok-place.ensures.judged in
    record {
      filled = take_at c.place.new.keyrings (drop (length c.place.new.keyrings) c.loop-key.keyrings.items) c.loop-key.keyrings.len len ∙ now;
      judged = c.loop-key.invariant.judged ∙ next-good ps keys i k c.loop-key-test.true c.key-item.is good;
    }
