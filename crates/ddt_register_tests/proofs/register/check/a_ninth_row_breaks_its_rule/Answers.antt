use Rattle.std.proofs.Common.{refl}
use Rattle.ddt_path.specs.Path.{digits}
use Rattle.ddt_register_tests.proofs.register.check.a_ninth_row_breaks_its_rule.Goals as goal

pub returns : goal.returns
unfolding digits
returns c = record {
  each_breaks = refl;
  each_rule = refl;
  none_breaks = refl;
  campus_is_whole = refl;
  campus_is_in_range = refl;
}
