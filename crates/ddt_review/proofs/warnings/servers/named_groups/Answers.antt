use Rattle.std.proofs.Common.{refl, ap, ◌∙◌}
use Rattle.std.specs.List.{list_any}
use Rattle.std.specs.Ordering.{nat_cmp}
use Rattle.std.specs.Cmp.Lexicographic.{slice_cmp}
use Rattle.std.specs.BTreeSet.{contains}
use Rattle.std.proofs.lemmas.List.{take_all}
use Rattle.ddt_path.specs.Names.{is_same_name}
use Rattle.ddt_register.specs.declared.zone.Zone.{Zone}
use Rattle.ddt_review.proofs.WarningsLemmas.MarkLemmas.{inserted_now, marks_more}
use Rattle.ddt_review.proofs.warnings.servers.named_groups.Goals as goal

pub loop-zone-preserved : goal.loop-zone-preserved
loop-zone-preserved c = λ name.
    let z = c.zone-item.result in
    c.in_ok-insert.ensures.updates.0 name
    ∙ inserted_now name z.group (contains (slice_cmp nat_cmp) c.loop-zone.names name)
    ∙ marks_more (λ (y : Zone). is_same_name name y.group) c.args.zones.now c.loop-zone.zone-index z c.loop-zone-test.true
    c.zone-item.is _ _ (c.loop-zone.invariant name) refl

pub returns : goal.returns
returns c = λ name.
    c.loop-zone.invariant name
    ∙ ap (list_any (λ (z : Zone). is_same_name name z.group)) (take_all c.loop-zone.zone-index c.args.zones.now c.loop-zone-test.false)
