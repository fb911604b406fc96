use Rattle.ddt_path.specs.declared.locator.Locator.TheVariants.{V4}
use Rattle.ddt_path.specs.declared.xeid.Xeid.{Xeid}
use Rattle.std.proofs.lemmas.Option.{slice_get-get_or}
use Rattle.ddt_loop.proofs.LoopLemmas.{asking_at_start, asking_on}
use Rattle.ddt_loop.proofs.start_lookups.ask_all.Goals as goal

pub loop-place-init : goal.loop-place-init
loop-place-init g c = asking_at_start c.requires

pub loop-place-preserved : goal.loop-place-preserved
loop-place-preserved g c =
    let w = c.ask_at.ensures.asks in
    let first : Xeid = record { iid = 0; address = V4 0 } in
    asking_on c.loop-place.invariant (slice_get-get_or c.args.ids.now c.loop-place.place first c.loop-place-test.true) w.1 w.2 c.ask_at.ensures.waiting
