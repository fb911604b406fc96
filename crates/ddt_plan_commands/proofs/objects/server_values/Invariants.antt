use Rattle.std.proofs.Common.{◌≡◌, map, take}
use Rattle.serde_json.specs.View.{view}
use Rattle.ddt_plan_commands.specs.Objects.{server_data}
use Rattle.ddt_plan_commands.proofs.objects.server_values.Given as goal

abbrev pub invariant-loop-server : goal.invariant-loop-server
invariant-loop-server l = map view l.values.items ≡ map server_data (take l.server-index l.servers)
