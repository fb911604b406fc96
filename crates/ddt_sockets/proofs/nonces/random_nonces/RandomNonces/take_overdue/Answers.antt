use Rattle.std.proofs.Common.{subst, IfSome}
use Rattle.ddt_sockets.specs.Nonces.Outstanding.{IsOutstanding}
use Rattle.ddt_sockets.specs.Nonces.Translation.{Translation}
use Rattle.ddt_sockets.proofs.nonces.random_nonces.RandomNonces.take_overdue.Goals as goal

pub returns-clause-outstanding : goal.returns-clause-outstanding
returns-clause-outstanding g c =
    subst (λ (v : Translation). IfSome c.take_overdue.result (λ overdue. IsOutstanding overdue.nonce overdue.to v.sent)) c.self.view_is
    c.take_overdue.ensures.outstanding
