use Rattle.std.proofs.Common.{◌<◌, length, IfSome}
use Rattle.ddt_sockets.proofs.nonces.outstanding_requests.first_timer.Given as goal

abbrev pub invariant-loop-place : goal.invariant-loop-place
invariant-loop-place l = IfSome l.first (λ first. first.0 < length l.sent.items)
