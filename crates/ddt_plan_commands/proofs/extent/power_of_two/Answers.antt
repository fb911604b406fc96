use Rattle.std.proofs.Common.{◌≤◌, ◌^◌, arith}
use Rattle.std.proofs.Math.Pow.{pow_mono}
use Rattle.ddt_plan_commands.proofs.extent.power_of_two.Goals as goal

pub returns-else-exponent-lt128 : goal.returns-else-exponent-lt128
returns-else-exponent-lt128 c =
    let large : 2 ^ 128 ≤ 2 ^ c.args.exponent = pow_mono c.if-exponent-lt128.false in
    omega (arith, large)
