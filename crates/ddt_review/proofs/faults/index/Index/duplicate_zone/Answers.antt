use Rattle.std.proofs.Common.{find, refl, ap, ◌∙◌}
use Rattle.std.specs.Option.{option_map}
use Rattle.ddt_path.specs.Covers.{is_same_path}
use Rattle.ddt_register.specs.declared.zone.Zone.{Zone}
use Rattle.ddt_register.specs.laws.Rising.{zones_rise}
use Rattle.ddt_check.specs.declared.fault.Rule.TheVariants.{DuplicateZone}
use Rattle.ddt_review.specs.declared.faults.first_items.RowAndKind.{RowAndKind}
use Rattle.ddt_review.proofs.FaultsLemmas.ToldLemmas.{fault_same, row_of_first_zone, told_duplicate}
use Rattle.ddt_review.proofs.faults.index.Index.duplicate_zone.Goals as goal

pub returns : goal.returns
returns c = λ r index.
    let z = c.args.zone.now in
    let first = c.row_of-first.result in
    c.fault_if.ensures
    ∙ fault_same _ _ z.row z.row DuplicateZone first first c.is_before-breaks.ensures refl refl
    ∙ told_duplicate (λ (y : Zone). y.row) (λ (y : Zone). is_same_path y.prefix z.prefix) r.zones (zones_rise r) z.row
    DuplicateZone first (c.row_of-first.ensures
    ∙ ap (option_map (λ (f : RowAndKind). f.row)) (c.get.ensures ∙ index.zones z.prefix)
    ∙ row_of_first_zone (find (λ (y : Zone). is_same_path y.prefix z.prefix) r.zones))
