use Rattle.std.proofs.Common.{refl, ap, ◌∙◌}
use Rattle.std.specs.List.{list_any}
use Rattle.std.specs.Ordering.{nat_cmp}
use Rattle.std.specs.Cmp.Lexicographic.{slice_cmp}
use Rattle.std.specs.BTreeSet.{contains}
use Rattle.std.proofs.lemmas.List.{take_all}
use Rattle.ddt_path.specs.Covers.{is_same_path}
use Rattle.ddt_register.specs.declared.zone.Zone.{Zone}
use Rattle.ddt_review.proofs.WarningsLemmas.MarkLemmas.{inserted_now, marks_more}
use Rattle.ddt_review.proofs.warnings.missing_zone.zone_prefixes.Goals as goal

pub loop-zone-preserved : goal.loop-zone-preserved
loop-zone-preserved c = λ p.
    let s = c.zone-item.result in
    c.in_ok-insert.ensures.updates.0 p
    ∙ inserted_now p s.prefix (contains (slice_cmp nat_cmp) c.loop-zone.prefixes p)
    ∙ marks_more (λ (t : Zone). is_same_path p t.prefix) c.args.zones.now c.loop-zone.zone-index s c.loop-zone-test.true
    c.zone-item.is _ _ (c.loop-zone.invariant p) refl

pub returns : goal.returns
returns c = λ p.
    c.loop-zone.invariant p
    ∙ ap (list_any (λ (s : Zone). is_same_path p s.prefix)) (take_all c.loop-zone.zone-index c.args.zones.now c.loop-zone-test.false)
