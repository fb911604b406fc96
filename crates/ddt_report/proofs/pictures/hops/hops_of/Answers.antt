use Rattle.std.proofs.Common.{List, sym, ap, ◌∙◌}
use Rattle.std.specs.Prelude.{slice_get}
use Rattle.ddt_path.specs.declared.locator.Locator.{Locator}
use Rattle.ddt_path.specs.Path.{xeid_path}
use Rattle.ddt_check.specs.Zones.{roots}
use Rattle.ddt_report.proofs.PicturesLemmas.HopLemmas.{one_more}
use Rattle.ddt_report.proofs.pictures.hops.hops_of.Goals as goal
use Rattle.ddt_report.proofs.pictures.hops.hops_of.Goals.{else-loop-test, then-loop-test+in_default, then-loop-test+in-Some+in_ok-push+then-not-goes_on}

pub loop-preserved : goal.loop-preserved
loop-preserved c =
    let r = c.args.accepted.now in
    let first = ap (λ (s : List Locator). slice_get s 0) (sym c.as_slice.ensures.items)
    ∙ sym c.first.ensures.value ∙ sym c.copied.ensures ∙ c.in-Some.is in
    one_more r (xeid_path c.args.x) (roots r) c.loop.servers c.loop.hops.items c.push.new.self.items c.in-Some.server
    c.says-said.result c.loop.invariant first c.says-said.ensures c.in_ok-push.ensures.items

pub returns : goal.returns
returns c =
    let r = c.args.accepted.now in
    elim c.loop-test.branch [
      | else-loop-test w ↦ rw w.hops-is c.loop.invariant.0
      | then-loop-test+in_default w ↦ rw w.hops-is c.loop.invariant.0
      | then-loop-test+in-Some+in_ok-push+then-not-goes_on w ↦
          let first = ap (λ (s : List Locator). slice_get s 0) (sym w.as_slice.ensures.items)
          ∙ sym w.first.ensures.value ∙ sym w.copied.ensures ∙ w.in-Some.is in
          rw w.hops-is (one_more r (xeid_path c.args.x) (roots r) c.loop.servers c.loop.hops.items w.push.new.self.items
          w.in-Some.server w.says-said.result c.loop.invariant first w.says-said.ensures w.in_ok-push.ensures.items).0
    ]
