use Rattle.std.proofs.Common.{◌≡◌, ◌∷◌, map, take}
use Rattle.std.specs.List.{AllByRecursion}
use Rattle.ddt_check.specs.Rules.{IsAccepted}
use Rattle.ddt_sim.specs.Compiled.{configs_of}
use Rattle.ddt_commands.proofs.commands.replay.schedule.servers_of.Given as goal

-- the servers of the registers so far
abbrev pub invariant-loop-register : goal.invariant-loop-register
invariant-loop-register l = record {
  made : l.servers.items ≡ map configs_of (l.first ∷ take l.register-index l.others);
  accepted : AllByRecursion IsAccepted (l.first ∷ take l.register-index l.others);
}
