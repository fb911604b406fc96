use Rattle.std.proofs.Common.{◌≡◌, ℕ, subst}
use Rattle.std.specs.Prelude.{OnOk}
use Rattle.ddt_path.specs.Path.{xeid_path}
use Rattle.ddt_path.specs.declared.record.ReferralRecord.{ReferralRecord}
use Rattle.ddt_wire.specs.Referral.{lent_record, written, message_of, Spells}
use Rattle.ddt_config.specs.Answer.{answer}
use Rattle.ddt_node.proofs.server.Server.put_reply.Goals as goal
use Rattle.ddt_node.proofs.server.Server.put_reply.Goals.{After-put_referral}

record_is : (g : _) (c : After-put_referral g) → lent_record c.record-record.result ≡ answer c.args.self.now (xeid_path c.args.request.now.xeid)
record_is g c =
    rw (c.record-record.ensures.record, c.locators.ensures, c.xeid.ensures) c.requires

pub returns-clause-put : goal.returns-clause-put
returns-clause-put g c =
    let put = λ (n : ℕ) (r : ReferralRecord). OnOk c.put_referral.result (c.put_referral.new.buffer.items ≡ written n r) in
    subst (put c.args.request.now.nonce) (record_is g c) (subst (λ n. put n (lent_record c.record-record.result)) c.nonce.ensures c.put_referral.ensures.written)

pub returns-clause-spelled : goal.returns-clause-spelled
returns-clause-spelled g c =
    let put = λ (n : ℕ) (r : ReferralRecord). OnOk c.put_referral.result (Spells c.put_referral.new.buffer.items (message_of n r)) in
    subst (put c.args.request.now.nonce) (record_is g c) (subst (λ n. put n (lent_record c.record-record.result)) c.nonce.ensures c.put_referral.ensures.spelled)
