use Rattle.std.proofs.Common.{◌≡◌, drop}
use Rattle.ddt_registrar.specs.Registration.{all_joined}
use Rattle.ddt_registrar.proofs.ranked_etrs.RankedEtrs.join_all.Given as goal

abbrev pub invariant-loop-one : goal.invariant-loop-one
invariant-loop-one l = all_joined (drop l.one-index l.etrs) l.self ≡ all_joined l.etrs l.fn.self
