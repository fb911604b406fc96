use Rattle.std.proofs.Common.{sym, ◌∙◌}
use Rattle.ddt_register.specs.declared.zone.Zone.{Zone}
use Rattle.ddt_register.specs.laws.Rising.{zones_rise}
use Rattle.ddt_register.specs.laws.RowOrder.{rising_from_rise}
use Rattle.ddt_check.specs.Rules.{is_wrong_root}
use Rattle.ddt_check.proofs.LeastLemmas.{least_item}
use Rattle.ddt_check.proofs.rules.zones.no_root.Goals as goal

pub returns-then-has_root : goal.returns-then-has_root
returns-then-has_root c =
    let r = c.args.register.now in
    let row = λ (z : Zone). z.row in
    rw (c.wrong_root.ensures, sym c.has_root.ensures ∙ c.if-has_root.true)
    (least_item row (is_wrong_root r) r.zones (rising_from_rise row r.zones 0 (zones_rise r)))
