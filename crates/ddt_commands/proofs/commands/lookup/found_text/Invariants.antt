use Rattle.std.proofs.Common.{◌≡◌, take}
use Rattle.std.specs.List.{flat_map}
use Rattle.ddt_commands.specs.Commands.Lookup.{replied_line}
use Rattle.ddt_commands.proofs.commands.lookup.found_text.Given as goal

abbrev pub invariant-loop-hop : goal.invariant-loop-hop
invariant-loop-hop l = l.text.items ≡ flat_map replied_line (take l.hop-index l.hop-items)
