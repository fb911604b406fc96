use Rattle.ddt_sockets.specs.Calls.{received}
use Rattle.ddt_sockets.proofs.NoncesLemmas.TranslationLemmas.{translation_on}
use Rattle.ddt_sockets.proofs.nonces.random_nonces.RandomNoncesWires.receive.Goals as goal

pub invariant_of-self : goal.invariant_of-self
invariant_of-self g c =
    let v = c.receive-answer.ensures.translated in
    translation_on c.self.inside.told.calls (g.W.Wires.calls c.self.inside.wires) c.self.inside.asking.outstanding.sent.items
    (received c.args.at c.receive-answer.result c.receive-answer.new.buffer) v.0 c.receive-answer.new.self.outstanding.sent.items
    c.self.invariant v.2 c.note_received.new.self.calls (g.W.Wires.calls c.receive-answer.new.wires) c.note_received.ensures v.1
