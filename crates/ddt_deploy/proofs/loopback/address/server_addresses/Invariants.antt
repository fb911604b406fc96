use Rattle.std.proofs.Common.{◌≡◌, map}
use Rattle.std.specs.List.{range_with_len}
use Rattle.ddt_deploy.specs.Loopback.Addresses.{server_address}
use Rattle.ddt_deploy.proofs.loopback.address.server_addresses.Given as goal

abbrev pub invariant-loop-place : goal.invariant-loop-place
invariant-loop-place l = l.addresses.items ≡ map server_address (range_with_len l.first l.place)
