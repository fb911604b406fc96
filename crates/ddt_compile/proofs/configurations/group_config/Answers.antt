use Rattle.ddt_path.specs.laws.Member.{in_contained}
use Rattle.ddt_check.specs.laws.Kept.{server_set}
use Rattle.ddt_compile.proofs.ShapedLemmas.{group_shaped}
use Rattle.ddt_compile.proofs.configurations.group_config.Goals as goal

pub of_few-requires : goal.of_few-requires
of_few-requires c =
    let r = c.args.accepted.now in
    rw c.as_slice.ensures (server_set r c.requires.accepted c.args.group.now (in_contained r.groups c.args.group.now c.requires.group)).0.1

pub invariant_of-result : goal.invariant_of-result
invariant_of-result c =
    let r = c.args.accepted.now in
    let g = c.args.group.now in
    record {
      shaped = rw (c.of_few.ensures, c.as_slice.ensures, c.take.ensures.here, c.requires.own)
          (group_shaped r c.requires.accepted g (in_contained r.groups g c.requires.group));
    }
