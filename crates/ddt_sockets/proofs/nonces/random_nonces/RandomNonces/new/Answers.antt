use Rattle.ddt_sockets.proofs.NoncesLemmas.TranslationLemmas.{first_translation}
use Rattle.ddt_sockets.proofs.nonces.random_nonces.RandomNonces.new.Goals as goal

pub invariant_of-result : goal.invariant_of-result
invariant_of-result g c = first_translation c.new-told.result.calls (g.W.Wires.calls c.args.wires) c.new-asking.result.outstanding.sent.items c.new-told.ensures c.requires c.new-asking.ensures
