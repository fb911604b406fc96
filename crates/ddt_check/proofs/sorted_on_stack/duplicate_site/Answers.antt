use Rattle.ddt_register.specs.laws.Count.{few_rows}
use Rattle.ddt_register.specs.laws.Rising.{sites_rise}
use Rattle.ddt_check.proofs.sorted_on_stack.duplicate_site.Goals as goal

pub duplicate_site_of_many-requires : goal.duplicate_site_of_many-requires
duplicate_site_of_many-requires c = few_rows _ _ (sites_rise c.args.register.now)
