use Rattle.std.proofs.Common.{◌≡◌, map}
use Rattle.ddt_config.specs.Table.{outline}
use Rattle.ddt_sim.proofs.compiled_servers.build_each.Given as goal

-- the servers so far are those of the configurations so far
abbrev pub invariant-loop-config : goal.invariant-loop-config
invariant-loop-config g l = l.servers.items ≡ map outline l.yielded
