use Rattle.std.proofs.Common.{◌≡◌, [], ◌∷◌, ◌∙◌, true}
use Rattle.rand_core.specs.Stream.{next_u64}
use Rattle.ddt_ecm.specs.Request.{written}
use Rattle.ddt_sockets.specs.laws.Tell.{tells_none}
use Rattle.ddt_sockets.specs.Nonces.Translation.{asks, unsent, passes}
use Rattle.ddt_sockets.proofs.nonces.nonce_translator.NonceTranslator.send.Goals as goal

pub returns-then-port-ne-CONTROL_PORT-clause-translated : goal.returns-then-port-ne-CONTROL_PORT-clause-translated
returns-then-port-ne-CONTROL_PORT-clause-translated g c =
    (_, c.send.ensures.told, passes c.args.at c.args.to c.args.port c.args.bytes.now c.send.result (λ same. absurd (c.if-port-ne-CONTROL_PORT.true same)))

pub returns-in_default-clause-translated : goal.returns-in_default-clause-translated
returns-in_default-clause-translated g c = (_, c.send-in_default.ensures.told, passes c.args.at c.args.to c.args.port c.args.bytes.now c.send-in_default.result (λ same. c.in_default.ensures.none))

pub returns-in_default-prepare-clause-translated : goal.returns-in_default-prepare-clause-translated
returns-in_default-prepare-clause-translated g c = ([], tells_none (g.W.Wires.calls c.args.wires.now), rw (c.if-port-ne-CONTROL_PORT.false, c.in_default-prepare.ensures.unchanged) (unsent c.args.at c.args.to c.args.bytes.now c.in-Some.plain c.in-Some.x c.in-Some.ensures.found))

pub returns-clause-translated : goal.returns-clause-translated
returns-clause-translated g c =
    let ready = c.in-Some-prepare.ensures.prepared in
    let is : c.deref.result.now ≡ written (next_u64 (g.R.Rng.stream c.args.self.now.nonces)).0 c.in-Some.x (c.args.at ∷ []) true = c.deref.ensures.value ∙ ready.spelled in
    (_, c.send-answer.ensures.told, rw (c.if-port-ne-CONTROL_PORT.false, is, c.note_tried.ensures, ready.outstanding) (asks c.args.at c.args.to c.args.bytes.now c.in-Some.plain (next_u64 (g.R.Rng.stream c.args.self.now.nonces)).0 c.in-Some.x c.send-answer.result c.in-Some.ensures.found ready.unused))
