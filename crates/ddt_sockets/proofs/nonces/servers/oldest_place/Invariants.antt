use Rattle.std.proofs.Common.{◌<◌, length}
use Rattle.ddt_sockets.proofs.nonces.servers.oldest_place.Given as goal

abbrev pub invariant-loop-place : goal.invariant-loop-place
invariant-loop-place l = l.oldest < length l.rows
