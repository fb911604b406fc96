use Rattle.std.proofs.Common.{◌≡◌, map, take}
use Rattle.ddt_deploy.proofs.export.nodes.zones_of.Given as goal

abbrev pub invariant-loop-authority : goal.invariant-loop-authority
invariant-loop-authority l = l.zones.items ≡ map (λ a. a.prefix) (take l.authority-index l.authorities)
