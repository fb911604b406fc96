use Rattle.ddt_check.proofs.RootLemmas.{its_zone, root_is_served, one_group_of_locator}
use Rattle.ddt_check.proofs.laws.each_identifier_has_a_zone.Goals as goal

pub returns : goal.returns
returns c = record {
  one_zone = its_zone;
  root = root_is_served;
  one_group = one_group_of_locator;
}
