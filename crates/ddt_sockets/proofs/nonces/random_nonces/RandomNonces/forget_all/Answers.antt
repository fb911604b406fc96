use Rattle.ddt_sockets.proofs.NoncesLemmas.TranslationLemmas.{forgetting}
use Rattle.ddt_sockets.proofs.nonces.random_nonces.RandomNonces.forget_all.Goals as goal

pub invariant_of-self : goal.invariant_of-self
invariant_of-self g c =
    forgetting c.self.inside.told.calls (g.W.Wires.calls c.self.inside.wires) c.self.inside.asking.outstanding.sent.items _ c.self.invariant c.forget_all.ensures
