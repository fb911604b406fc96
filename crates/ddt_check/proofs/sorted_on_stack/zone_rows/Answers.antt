use Rattle.ddt_register.specs.laws.Count.{few_rows}
use Rattle.ddt_register.specs.laws.Rising.{zones_rise}
use Rattle.ddt_check.proofs.sorted_on_stack.zone_rows.Goals as goal

pub zone_rows_of_many-requires : goal.zone_rows_of_many-requires
zone_rows_of_many-requires c = few_rows _ _ (zones_rise c.args.register.now)
