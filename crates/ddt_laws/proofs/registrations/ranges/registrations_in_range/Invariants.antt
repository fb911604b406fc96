use Rattle.std.proofs.Common.{◌≡◌, true, take}
use Rattle.std.specs.List.{list_all}
use Rattle.ddt_laws.specs.Registrations.Ranges.{are_ranked}
use Rattle.ddt_laws.proofs.registrations.ranges.registrations_in_range.Given as goal

abbrev pub invariant-loop-registration : goal.invariant-loop-registration
invariant-loop-registration l = list_all (λ g. are_ranked g.etrs) (take l.registration-index l.live) ≡ true
