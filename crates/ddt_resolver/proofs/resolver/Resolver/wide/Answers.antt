use Rattle.ddt_resolver.proofs.WideLemmas.{wide_is, from_its_server, about_its_identifier, beyond_its_zone}
use Rattle.ddt_resolver.proofs.resolver.Resolver.wide.Goals as goal

pub returns-in-Err-clause-none : goal.returns-in-Err-clause-none
returns-in-Err-clause-none g c = λ l rec zone wide. c.in-Err.ensures.none wide.ticket l rec wide.from_server.reply

pub is_asked-requires : goal.is_asked-requires
is_asked-requires g c = (c.in_order.ensures.lookups _ _ c.in-Ok.ensures.found.is_pending).lookup.place

pub returns-then-not-is_asked-clause-none : goal.returns-then-not-is_asked-clause-none
returns-then-not-is_asked-clause-none g c = λ l rec zone wide.
    c.is_asked.ensures.no c.args.self.now.me c.if-not-is_asked.true (from_its_server c.in_order.ensures c.in-Ok.ensures.found l rec zone wide)

pub returns-then-not-is_about-clause-none : goal.returns-then-not-is_about-clause-none
returns-then-not-is_about-clause-none g c = λ l rec zone wide.
    c.is_about.ensures.no c.if-not-is_about.true (about_its_identifier c.in_order.ensures c.in-Ok.ensures.found l rec zone wide)

pub returns-in-Some-clause-wide : goal.returns-in-Some-clause-wide
returns-in-Some-clause-wide g c =
    wide_is c.in-Ok.ensures.found (c.is_asked.ensures.yes c.args.self.now.me c.if-not-is_asked.false) (c.is_about.ensures.yes c.if-not-is_about.false) c.in-Some.ensures.beyond

pub returns-in-None-clause-none : goal.returns-in-None-clause-none
returns-in-None-clause-none g c = λ l rec zone wide.
    c.in-None.ensures.none zone (beyond_its_zone c.in_order.ensures c.in-Ok.ensures.found l rec zone wide)
