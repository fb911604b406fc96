use Rattle.ddt_asking.proofs.SampleLemmas.{sampled_more}
use Rattle.ddt_asking.proofs.sample.at_places.Goals as goal

pub loop-place-preserved : goal.loop-place-preserved
loop-place-preserved c =
    rw c.in_ok-push.ensures.items
    (sampled_more c.args.identifiers.now c.args.places.now c.loop-place.some.items c.loop-place.place-index
    _ c.identifier_at-identifier.result c.loop-place-test.true
    c.identifier_at-identifier.ensures c.loop-place.invariant)
