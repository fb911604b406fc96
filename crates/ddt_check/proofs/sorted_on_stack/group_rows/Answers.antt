use Rattle.ddt_register.specs.laws.Count.{few_rows}
use Rattle.ddt_register.specs.laws.Rising.{groups_rise}
use Rattle.ddt_check.proofs.sorted_on_stack.group_rows.Goals as goal

pub group_rows_of_many-requires : goal.group_rows_of_many-requires
group_rows_of_many-requires c = few_rows _ _ (groups_rise c.args.register.now)
