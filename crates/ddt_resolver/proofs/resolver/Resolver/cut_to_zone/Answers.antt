use Rattle.std.proofs.Common.{ap, Some}
use Rattle.ddt_resolver.specs.Within.{cut}
use Rattle.ddt_resolver.proofs.resolver.Resolver.cut_to_zone.Goals as goal

pub returns-in-Ok-clause-cut : goal.returns-in-Ok-clause-cut
returns-in-Ok-clause-cut g c =
    cut c.in-Some.wide.lookup c.in-Some.wide.told c.in-Some.wide.zone c.in-Some.ensures.wide
    (ap Some (rw c.of.ensures c.in-Ok.ensures.written)) (rw (← c.in-Ok.ensures.written) c.in-Ok.ensures.spelled)
