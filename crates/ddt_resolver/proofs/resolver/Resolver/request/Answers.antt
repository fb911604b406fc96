use Rattle.ddt_resolver.specs.State.{request_bytes}
use Rattle.ddt_resolver.proofs.resolver.Resolver.request.Goals as goal

pub returns : goal.returns
unfolding request_bytes
returns g c = rw (c.server.ensures c.self.inside.me, c.of.ensures, c.in_ok-bytes.ensures.written, c.next_nonce.ensures, ← c.self.view_is)
