use Rattle.std.proofs.Common.{◌≡◌, subst, length, take, inl, inr, arith, length-take}
use Rattle.ddt_sockets.specs.Nonces.Outstanding.{Request}
use Rattle.ddt_sockets.specs.Nonces.Translation.{gives, drops, with_nonce}
use Rattle.ddt_sockets.proofs.NoncesLemmas.TranslationLemmas.{taken_off, none_taken, lifted}
use Rattle.ddt_sockets.proofs.nonces.nonce_translator.NonceTranslator.lift.Goals as goal

pub returns-in_default-clause-translated : goal.returns-in_default-clause-translated
returns-in_default-clause-translated g c =
    gives c.args.at (length c.args.buffer.now) c.args.packet (take c.args.packet.len c.args.buffer.now) c.in_default.ensures.none

pub returns-then-packet-ne-CONTROL_PORT-clause-translated : goal.returns-then-packet-ne-CONTROL_PORT-clause-translated
returns-then-packet-ne-CONTROL_PORT-clause-translated g c =
    drops c.args.at (length c.args.buffer.now) c.args.packet (take c.args.packet.len c.args.buffer.now) c.in-Some.wire c.in-Some.ensures.found
    (inl c.if-packet-ne-CONTROL_PORT.true)

pub returns-in-Some-take-clause-translated : goal.returns-in-Some-take-clause-translated
returns-in-Some-take-clause-translated g c =
    lifted c.args.at c.args.packet c.args.buffer.now c.put_nonce.new.bytes c.args.self.now.outstanding.sent.items c.take.new.self.sent.items
    c.in-Some-take.sent c.in-Some.wire c.requires
    (subst (λ (s : Request). c.put_nonce.new.bytes ≡ with_nonce s.plain (take c.args.packet.len c.args.buffer.now)) c.sent.view_is c.put_nonce.ensures) (omega (arith, c.put_nonce.auto.bytes, length-take c.args.packet.len c.args.buffer.now, c.requires)) c.in-Some.ensures.found
    c.if-packet-ne-CONTROL_PORT.false (taken_off c.in-Some-take.sent c.take.ensures c.in-Some-take.is)

pub returns-in-None-clause-translated : goal.returns-in-None-clause-translated
returns-in-None-clause-translated g c =
    let n = none_taken c.take.ensures c.in-None.is in
    rw n.1 (drops c.args.at (length c.args.buffer.now) c.args.packet (take c.args.packet.len c.args.buffer.now) c.in-Some.wire c.in-Some.ensures.found
    (inr n.0))
