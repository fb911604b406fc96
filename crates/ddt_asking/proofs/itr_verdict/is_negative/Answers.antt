use Rattle.std.proofs.Common.{◌≡◌, subst}
use Rattle.ddt_wire.specs.declared.negative_reply.NegativeReply.{NegativeReply}
use Rattle.ddt_asking.specs.ItrVerdicts.{IsNegativeFor}
use Rattle.ddt_asking.proofs.itr_verdict.is_negative.Goals as goal

pub returns-in-Ok : goal.returns-in-Ok
returns-in-Ok c =
    let same = c.is_negative_for.ensures in (
      (λ t. (c.in-Ok.reply, c.in-Ok.ensures.found, same.0 t)),
      (λ s. same.1 (let only = c.in-Ok.ensures.only s.0 s.1 in
          let is : s.0 ≡ c.in-Ok.reply = cc in
          subst (λ (v : NegativeReply). IsNegativeFor c.args.x c.args.demanded.now c.args.nonce v) is s.2)),
    )

pub returns-in-Err : goal.returns-in-Err
returns-in-Err c = ((λ t. absurd (cc)), (λ s. let only = c.in-Err.ensures.only s.0 s.1 in absurd (cc)))
