use Rattle.std.proofs.Common.{refl, ap, ◌∙◌}
use Rattle.std.specs.List.{list_any}
use Rattle.std.specs.Ordering.{nat_cmp}
use Rattle.std.specs.Cmp.Lexicographic.{slice_cmp}
use Rattle.std.specs.BTreeSet.{contains}
use Rattle.std.proofs.lemmas.List.{take_all}
use Rattle.ddt_path.specs.Names.{is_same_name}
use Rattle.ddt_plan.specs.declared.groups.GroupChange.{GroupChange}
use Rattle.ddt_organisations.proofs.SeamLemmas.NameLemmas.{inserted_now, names_more, listed_is}
use Rattle.ddt_organisations.proofs.seam.runs_by_group.changed_groups.Goals as goal

pub loop-change-preserved : goal.loop-change-preserved
loop-change-preserved c = λ name.
    let d = c.change-item.result in
    c.in_ok-insert.ensures.updates.0 name
    ∙ inserted_now name d.name (contains (slice_cmp nat_cmp) c.loop-change.names name)
    ∙ names_more (λ (y : GroupChange). is_same_name name y.name) c.deref-change-items.result.now c.loop-change.change-index d
    c.loop-change-test.true
    c.change-item.is _ _ (c.loop-change.invariant name) refl

pub returns : goal.returns
returns c = λ name.
    c.loop-change.invariant name
    ∙ ap (list_any (λ (y : GroupChange). is_same_name name y.name))
    (take_all c.loop-change.change-index c.deref-change-items.result.now c.loop-change-test.false ∙ c.deref-change-items.ensures.value)
    ∙ listed_is c.args.side.now c.args.joined.now c.in_ok-changes.changes.items c.in_ok-changes.ensures name
