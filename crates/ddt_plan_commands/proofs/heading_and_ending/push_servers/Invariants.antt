use Rattle.std.proofs.Common.{◌≡◌, ◌++◌, take}
use Rattle.std.specs.List.{flat_map}
use Rattle.ddt_plan_commands.specs.Ending.{written_servers}
use Rattle.ddt_plan_commands.proofs.heading_and_ending.push_servers.Given as goal

abbrev pub invariant-loop-group : goal.invariant-loop-group
invariant-loop-group l = l.text.items ≡ l.fn.text.items ++ flat_map (written_servers l.form) (take l.group-index l.groups)
