use Rattle.std.proofs.Common.{refl}
use Rattle.ddt_path.specs.Path.{digits}
use Rattle.ddt_register_tests.proofs.register.check.campus_says.Goals as goal

pub returns : goal.returns
unfolding digits
returns c = record {
  root_refers = refl;
  ten_refers = refl;
  east_acknowledges = refl;
  east_knows_the_silent_site = refl;
  root_says_a_hole = refl;
  ten_is_not_in_charge = refl;
}
