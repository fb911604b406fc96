use Rattle.std.proofs.Common.{◌≡◌, true, take}
use Rattle.ddt_laws.specs.Registrations.Ranges.{are_keyed_in_range}
use Rattle.ddt_laws.proofs.registrations.ranges.keyed_sites_are_in_range.Given as goal

abbrev pub invariant-loop-site : goal.invariant-loop-site
invariant-loop-site l = are_keyed_in_range (take l.site-index l.sites) ≡ true
