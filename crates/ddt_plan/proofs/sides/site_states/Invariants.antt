use Rattle.std.proofs.Common.{◌≡◌, map, take}
use Rattle.ddt_plan.specs.Fast.{state_of}
use Rattle.ddt_plan.proofs.sides.site_states.Given as goal

abbrev pub invariant-loop-site : goal.invariant-loop-site
invariant-loop-site l = l.sites.items ≡ map state_of (take l.site-index l.site-items)
