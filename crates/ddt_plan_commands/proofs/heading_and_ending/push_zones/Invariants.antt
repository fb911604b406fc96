use Rattle.std.proofs.Common.{◌≡◌, ◌++◌, take}
use Rattle.std.specs.List.{flat_map}
use Rattle.ddt_plan_commands.specs.Ending.{written_zone}
use Rattle.ddt_plan_commands.proofs.heading_and_ending.push_zones.Given as goal

abbrev pub invariant-loop-zone : goal.invariant-loop-zone
invariant-loop-zone l = l.text.items ≡ l.fn.text.items ++ flat_map (written_zone l.form) (take l.zone-index l.zones)
