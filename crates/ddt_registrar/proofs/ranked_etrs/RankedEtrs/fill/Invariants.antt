use Rattle.std.proofs.Common.{◌≡◌, [], drop}
use Rattle.ddt_registrar.specs.Registration.{ranked_in}
use Rattle.ddt_registrar.proofs.ranked_etrs.RankedEtrs.fill.Given as goal

abbrev pub invariant-loop-registration : goal.invariant-loop-registration
invariant-loop-registration l = ranked_in (drop l.registration-index l.live) l.self ≡ ranked_in l.live []
