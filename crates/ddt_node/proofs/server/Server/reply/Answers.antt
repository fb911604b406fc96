use Rattle.std.proofs.Common.{List, ℕ, subst, sym}
use Rattle.ddt_wire.specs.Referral.{Spells}
use Rattle.ddt_node.specs.Server.{reply_to}
use Rattle.ddt_node.proofs.ReplyLemmas.{replied, unread}
use Rattle.ddt_node.proofs.server.Server.reply.Goals as goal

pub returns-in_ok-put_reply-in-Some-clause-replied : goal.returns-in_ok-put_reply-in-Some-clause-replied
returns-in_ok-put_reply-in-Some-clause-replied g c m is =
    subst (λ (bytes : List ℕ). Spells bytes (reply_to c.args.self.now m)) (sym c.of.ensures)
    (replied c.args.self.now c.args.bytes.now m c.in-Some.request c.put_reply.new.buffer.items is c.in-Some.ensures c.in_ok-put_reply-in-Some.ensures.spelled)

pub returns-in-None-clause-replied : goal.returns-in-None-clause-replied
returns-in-None-clause-replied g c m is = absurd (unread c.args.bytes.now m is c.in-None.ensures)
