use Rattle.std.proofs.Common.{◌≡◌, ◌++◌, drop}
use Rattle.std.specs.List.{flat_map}
use Rattle.ddt_commands.proofs.commands.loops.task.locators_of_servers.Given as goal

-- the locators of the groups before this one
abbrev pub invariant-loop-group : goal.invariant-loop-group
invariant-loop-group l =
    l.locators.items ++ flat_map (λ g. g.locators) (drop l.group-index l.group-items) ≡ flat_map (λ g. g.locators) l.group-items
