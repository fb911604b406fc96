use Rattle.ddt_sockets.specs.declared.wire_calls.Call.TheVariants.{Tried}
use Rattle.ddt_sockets.proofs.NoncesLemmas.TranslationLemmas.{translation_on}
use Rattle.ddt_sockets.proofs.nonces.random_nonces.RandomNoncesWires.send.Goals as goal

pub invariant_of-self : goal.invariant_of-self
invariant_of-self g c =
    let v = c.send-answer.ensures.translated in
    translation_on c.self.inside.told.calls (g.W.Wires.calls c.self.inside.wires) c.self.inside.asking.outstanding.sent.items
    (Tried c.args.at c.args.to c.args.port c.args.bytes.now c.send-answer.result) v.0 c.send-answer.new.self.outstanding.sent.items
    c.self.invariant v.2 c.note_tried.new.self.calls (g.W.Wires.calls c.send-answer.new.wires) c.note_tried.ensures v.1
