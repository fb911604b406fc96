use Rattle.std.proofs.Common.{◌≡◌}
use Rattle.ddt_config.specs.Table.{Outline}
use Rattle.ddt_node.proofs.EtrLemmas.{IsMappedSoFar}
use Rattle.ddt_registrar.specs.Taking.{site_at, in_force}
use Rattle.ddt_registrar.proofs.registrar.Registrar.end.Given as goal

abbrev pub invariant-loop-at : goal.invariant-loop-at
invariant-loop-at g l =
    IsMappedSoFar (site_at l.now) l.fn.self l.at l.self × ((c : Outline) → l.fn.server ≡ in_force l.fn.self c → l.server ≡ in_force l.self c)
