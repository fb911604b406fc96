use Rattle.std.proofs.Common.{subst}
use Rattle.ddt_wire.specs.Referral.{Message, Spells, message_of}
use Rattle.ddt_asking.proofs.verdict.is_said.Goals as goal

pub returns-in-Ok : goal.returns-in-Ok
returns-in-Ok c =
    let wanted = message_of c.args.nonce c.args.demanded.now in
    let same = c.is_message_of.ensures in (
      (λ t. subst (λ (v : Message). Spells c.args.bytes.now v) (same.0 t) c.in-Ok.ensures.found),
      (λ s. same.1 (let only = c.in-Ok.ensures.only wanted s in cc)),
    )

pub returns-in-Err : goal.returns-in-Err
returns-in-Err c =
    let wanted = message_of c.args.nonce c.args.demanded.now in
    ((λ t. absurd (cc)), (λ s. let only = c.in-Err.ensures.only wanted s in absurd (cc)))
