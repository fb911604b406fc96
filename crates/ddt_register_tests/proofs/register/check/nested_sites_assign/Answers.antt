use Rattle.std.proofs.Common.{refl}
use Rattle.ddt_path.specs.Path.{digits}
use Rattle.ddt_register_tests.proofs.register.check.nested_sites_assign.Goals as goal

pub returns : goal.returns
unfolding digits
returns c = record {
  part_of_the_outer_site = refl;
  inner_site = refl;
  outer_site = refl;
  inner_silent_site = refl;
  still_a_hole = refl;
  east_says_the_part = refl;
  east_acknowledges_the_inner_site = refl;
}
