use Rattle.std.proofs.Common.{refl, arith}
use Rattle.ddt_resolver.specs.MatchReply.{wrong_source, late, not_covering, no_servers}
use Rattle.ddt_resolver.proofs.ReplyLemmas.{in_time}
use Rattle.ddt_resolver.proofs.resolver.Resolver.match_reply.Goals as goal

pub returns-in-Err-clause-refused : goal.returns-in-Err-clause-refused
returns-in-Err-clause-refused g c = c.in-Err.ensures.refused c.args.source

pub is_asked-requires : goal.is_asked-requires
is_asked-requires g c = (c.in_order.ensures.lookups _ _ c.in-Ok.ensures.found.is_pending).lookup.place

pub returns-then-not-is_asked-clause-refused : goal.returns-then-not-is_asked-clause-refused
returns-then-not-is_asked-clause-refused g c = wrong_source _ _ _ c.in-Ok.ensures.found (c.is_asked.ensures.no c.args.self.now.me c.if-not-is_asked.true) refl

pub returns-then-reply-millis-clause-refused : goal.returns-then-reply-millis-clause-refused
returns-then-reply-millis-clause-refused g c =
    late _ _ _ (record { reply = c.in-Ok.ensures.found; same_source = c.is_asked.ensures.yes c.args.self.now.me c.if-not-is_asked.false }) (omega arith) refl

pub returns-then-not-is_about-clause-refused : goal.returns-then-not-is_about-clause-refused
returns-then-not-is_about-clause-refused g c =
    not_covering _ _ _ (in_time c.in-Ok.ensures.found (c.is_asked.ensures.yes c.args.self.now.me c.if-not-is_asked.false) (omega arith)) (c.is_about.ensures.no c.if-not-is_about.true) refl

pub returns-then-not-names_server-clause-refused : goal.returns-then-not-names_server-clause-refused
returns-then-not-names_server-clause-refused g c =
    no_servers _ _ _ (in_time c.in-Ok.ensures.found (c.is_asked.ensures.yes c.args.self.now.me c.if-not-is_asked.false) (omega arith))
    (c.is_about.ensures.yes c.if-not-is_about.false) (c.names_server.ensures.no c.if-not-names_server.true) refl

pub returns-clause-taken : goal.returns-clause-taken
returns-clause-taken g c = record {
  in_time = in_time c.in-Ok.ensures.found (c.is_asked.ensures.yes c.args.self.now.me c.if-not-is_asked.false) (omega arith);
  about = c.is_about.ensures.yes c.if-not-is_about.false;
  names_server = c.names_server.ensures.yes c.if-not-names_server.false;
}
