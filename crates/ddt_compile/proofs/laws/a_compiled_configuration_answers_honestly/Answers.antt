use Rattle.ddt_compile.proofs.HonestLemmas.{honest_at}
use Rattle.ddt_compile.proofs.ShapedLemmas.{group_shaped}
use Rattle.ddt_compile.proofs.RoomLemmas.{group_has_room}
use Rattle.ddt_path.specs.laws.Member.{in_contained}
use Rattle.ddt_compile.proofs.laws.a_compiled_configuration_answers_honestly.Goals as goal

pub returns : goal.returns
returns c = record {
  honest = λ r g accepted k l x here. honest_at r accepted g l x (in_contained r.groups g k) here;
  shaped = λ r g accepted k. group_shaped r accepted g (in_contained r.groups g k);
  room = λ r g accepted k. group_has_room r accepted g (in_contained r.groups g k);
}
