use Rattle.std.proofs.Common.{Bool, true, false, not, List, Option, ap, ◌∙◌}
use Rattle.std.specs.Prelude.{◌&&◌}
use Rattle.std.specs.List.{list_any}
use Rattle.std.specs.Option.{option_copied, option_map_or}
use Rattle.std.proofs.lemmas.List.{take_all}
use Rattle.ddt_path.specs.Names.{is_same_name}
use Rattle.ddt_path.specs.laws.Member.{in_contained}
use Rattle.ddt_register.specs.declared.zone.Zone.{Zone}
use Rattle.ddt_check.specs.Zones.{is_direct_child}
use Rattle.ddt_review.specs.Warnings.Found.{is_marked, is_outside_above}
use Rattle.ddt_review.proofs.WarningsLemmas.MarkLemmas.{marks_more, marks_parent, marks_mixed}
use Rattle.ddt_review.proofs.warnings.children.children_of.Goals as goal

pub loop-zone-preserved : goal.loop-zone-preserved
loop-zone-preserved c =
    let r = c.args.tree.now.register.now in
    let zones = c.as_slice-zone-items.result.now in
    let i = c.loop-zone.zone-index in
    let x = c.zone-item.result in
    let above = c.zone_above-parent.ensures in
    record {
      parents = λ z k. c.in_ok-mark.ensures z.prefix
          ∙ marks_more (is_direct_child r z) zones i x c.loop-zone-test.true c.zone-item.is _ _
          (c.loop-zone.invariant.parents z k)
          (ap (λ (o : Option Zone). is_marked o true z.prefix) above ∙ marks_parent r c.requires.accepted z x k);
      mixed = λ z q k up. c.in_ok-mark-2.ensures z.prefix
          ∙ marks_more (λ (y : Zone). is_direct_child r z y && not (is_same_name y.group q.group)) zones i x
          c.loop-zone-test.true c.zone-item.is _ _ (c.loop-zone.invariant.mixed z q k up)
          (ap (λ (b : Bool). is_marked (option_copied c.zone_above-parent.result) b z.prefix) c.is_outside.ensures
          ∙ ap (λ (o : Option Zone). is_marked o (option_map_or (is_outside_above r x) o false) z.prefix) above
          ∙ marks_mixed r c.requires.accepted z x k q up);
    }

pub returns-clause-parents : goal.returns-clause-parents
returns-clause-parents c = λ z k.
    let r = c.args.tree.now.register.now in
    c.loop-zone.invariant.parents z (in_contained r.zones z k)
    ∙ ap (λ (zones : List Zone). list_any (is_direct_child r z) zones)
    (take_all c.loop-zone.zone-index c.as_slice-zone-items.result.now c.loop-zone-test.false ∙ c.as_slice-zone-items.ensures)

pub returns-clause-mixed : goal.returns-clause-mixed
returns-clause-mixed c = λ z q k up.
    let r = c.args.tree.now.register.now in
    c.loop-zone.invariant.mixed z q (in_contained r.zones z k) up
    ∙ ap (λ (zones : List Zone). list_any (λ (y : Zone). is_direct_child r z y && not (is_same_name y.group q.group)) zones)
    (take_all c.loop-zone.zone-index c.as_slice-zone-items.result.now c.loop-zone-test.false ∙ c.as_slice-zone-items.ensures)
