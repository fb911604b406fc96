use Rattle.ddt_sim.specs.Waiting.{requests_left}
use Rattle.ddt_sim.proofs.ExchangeLemmas.{IsOnItsWay}
use Rattle.ddt_sim.proofs.one_lookup.follow.Given as goal

-- the lookup is on its way from where it began
abbrev pub invariant-loop-next : goal.invariant-loop-next
invariant-loop-next g l = IsOnItsWay (g.S.Servers.honest l.fn.servers) (g.S.Servers.honest l.servers) l.now l.fn.resolver l.ticket l.fn.request l.hops.items l.resolver l.request

-- how many requests it can send yet
abbrev pub decreases-loop-next : goal.decreases-loop-next
decreases-loop-next g l = requests_left l.resolver l.ticket
