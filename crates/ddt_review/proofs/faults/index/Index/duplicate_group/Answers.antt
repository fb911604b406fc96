use Rattle.std.proofs.Common.{refl, ap, ◌∙◌}
use Rattle.std.specs.Option.{option_map}
use Rattle.ddt_path.specs.Names.{is_same_name}
use Rattle.ddt_register.specs.declared.group.Group.{Group}
use Rattle.ddt_register.specs.laws.Rising.{groups_rise}
use Rattle.ddt_check.specs.declared.fault.Rule.TheVariants.{DuplicateGroup}
use Rattle.ddt_check.specs.Zones.{group_named}
use Rattle.ddt_review.specs.declared.faults.first_items.RowAndKind.{RowAndKind}
use Rattle.ddt_review.proofs.FaultsLemmas.ToldLemmas.{fault_same, row_of_first_group, told_duplicate}
use Rattle.ddt_review.proofs.faults.index.Index.duplicate_group.Goals as goal

pub returns : goal.returns
returns c = λ r index.
    let g = c.args.group.now in
    let first = c.row_of-first.result in
    c.fault_if.ensures
    ∙ fault_same _ _ g.row g.row DuplicateGroup first first c.is_before-breaks.ensures refl refl
    ∙ told_duplicate (λ (h : Group). h.row) (λ (h : Group). is_same_name h.name g.name) r.groups (groups_rise r) g.row
    DuplicateGroup first (c.row_of-first.ensures
    ∙ ap (option_map (λ (f : RowAndKind). f.row)) (c.get.ensures.value ∙ index.groups g.name)
    ∙ row_of_first_group (group_named r g.name))
