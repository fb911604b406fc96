use Rattle.std.proofs.Common.{◌≤◌, length, arith}
use Rattle.ddt_organisations.proofs.ChargeLemmas.{nowhere_from}
use Rattle.ddt_organisations.proofs.organisation_in_charge.in_charge.Goals as goal

pub returns-clause-none : goal.returns-clause-none
returns-clause-none c =
    let digits = c.len-len.ensures.digits in
    let bound = c.len-len.ensures.bound in
    let few : length c.host-prefix.result ≤ 161 = omega arith in
    nowhere_from c.trees_hand_on.ensures c.args.all.now c.host-prefix.result few c.asked.result c.asked.ensures.none
