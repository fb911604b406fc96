use Rattle.std.proofs.Common.{refl}
use Rattle.ddt_path.specs.Path.{digits}
use Rattle.ddt_register_tests.proofs.register.check.campus_assigns.Goals as goal

pub returns : goal.returns
unfolding digits
returns c = record {
  registered = refl;
  not_registered = refl;
  beside_a_zone = refl;
  beside_a_site = refl;
  beside_ten = refl;
  other_instance = refl;
  far_instance = refl;
  other_family = refl;
}
