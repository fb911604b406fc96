use Rattle.std.proofs.Common.{◌≡◌, length, map, take}
use Rattle.ddt_foreign.specs.declared.order.Ranked.{Ranked}
use Rattle.ddt_registrar.proofs.ranked_etrs.RankedEtrs.addresses.Given as goal

abbrev pub invariant-loop-at : goal.invariant-loop-at
invariant-loop-at l =
    (take l.at l.addresses ≡ map (λ (r : Ranked). r.address) (take l.at l.self-inside.slots)) × (length l.addresses ≡ 8)
