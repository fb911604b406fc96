use Rattle.std.proofs.Common.{refl}
use Rattle.ddt_path.specs.Path.{digits}
use Rattle.ddt_register_tests.proofs.register.check.others_assign.Goals as goal

pub returns : goal.returns
unfolding digits
returns c = record {
  hole_stays_inside = refl;
  longest_authority = refl;
  ten_refers_to_root = refl;
  everything = refl;
  single_identifier = refl;
  free_beside_ten = refl;
  none_free = refl;
}
