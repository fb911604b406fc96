use Rattle.std.proofs.Common.{arith}
use Rattle.ddt_check.proofs.FrontLemmas.{parted_step}
use Rattle.ddt_check.proofs.rules.zones.lower_fronts.Goals as goal

pub loop-size-init : goal.loop-size-init
loop-size-init c = record {
  within = omega arith;
  lower = λ k d low. absurd (omega arith);
  others = λ k d high last. absurd (omega arith);
}

pub loop-size-preserved : goal.loop-size-preserved
loop-size-preserved c =
    let next = parted_step c.args.groups.now c.requires c.args.front c.loop-size.base c.loop-size.size
    c.loop-size.invariant c.loop-size-test.true c.index-groups-middle.result in
    rw c.counted-step.ensures next

pub returns-clause-parted : goal.returns-clause-parted
returns-clause-parted c =
    let none = c.loop-size-test.false in (
      λ k d low lt. c.loop-size.invariant.lower k d lt,
      λ k d high last. c.loop-size.invariant.others k d (omega arith) last,
    )
