use Rattle.std.proofs.Common.{ap, refl}
use Rattle.ddt_sockets.proofs.NoncesLemmas.TranslationLemmas.{prepared_by}
use Rattle.ddt_sockets.proofs.nonces.nonce_translator.NonceTranslator.prepare.Goals as goal

pub returns-in-Ok-note-clause-prepared : goal.returns-in-Ok-note-clause-prepared
returns-in-Ok-note-clause-prepared g c =
    prepared_by c.args.at c.args.to c.args.plain c.args.x (g.R.Rng.stream c.args.self.now.nonces) c.args.self.now.outstanding.sent.items
    c.note.new.self.sent.items c.in-Ok.request.items c.next_u64-wire.result (ap (λ p. p.0) c.next_u64-wire.ensures)
    (c.if-has.ensures.unused refl) c.in-Ok.ensures.written c.in-Ok-note.ensures.noted
