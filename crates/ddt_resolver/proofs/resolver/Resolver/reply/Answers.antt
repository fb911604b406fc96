use Rattle.std.proofs.Common.{sym, ap, ◌∙◌, refl}
use Rattle.std.specs.FinMap.{get}
use Rattle.ddt_wire.specs.Referral.{Message, message_record}
use Rattle.ddt_wire.specs.laws.Message.{messages_are_read}
use Rattle.ddt_resolver.specs.State.{State}
use Rattle.ddt_resolver.specs.MatchReply.{undecodable, unknown_nonce}
use Rattle.ddt_resolver.proofs.resolver.Resolver.reply.Goals as goal

pub returns-in-Err-clause-refused : goal.returns-in-Err-clause-refused
returns-in-Err-clause-refused g c = λ source. undecodable (λ v spells. cc (c.in-Err.ensures.only v spells)) refl

pub returns-in-None-clause-refused : goal.returns-in-None-clause-refused
returns-in-None-clause-refused g c = λ source.
    unknown_nonce c.nonce.result (message_record c.in-Ok.referral)
    (record { message = c.in-Ok.referral; spells = c.in-Ok.ensures.found; same_nonce = sym c.nonce.ensures; same_record = refl })
    (λ t l found. c.in-None.ensures.none t l (ap (λ (s : State). get s.pending t) c.self.view_is ∙ found)) refl

pub returns-in-Err-clause-none : goal.returns-in-Err-clause-none
returns-in-Err-clause-none g c = λ t l rec reply. cc (c.in-Err.ensures.only reply.tells.message reply.tells.spells)

pub returns-in-None-clause-none : goal.returns-in-None-clause-none
returns-in-None-clause-none g c = λ t l rec reply.
    c.in-None.ensures.none t l (ap (λ (s : State). get s.pending t) c.self.view_is ∙ reply.is_pending)
    (sym reply.tells.same_nonce ∙ ap (λ (m : Message). m.nonce) (messages_are_read.one c.args.bytes.now reply.tells.message c.in-Ok.referral reply.tells.spells c.in-Ok.ensures.found)
    ∙ sym c.nonce.ensures)
