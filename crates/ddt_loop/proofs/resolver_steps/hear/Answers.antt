use Rattle.ddt_loop.specs.Acts.{running}
use Rattle.ddt_loop.proofs.EndLemmas.{ends_came}
use Rattle.ddt_loop.specs.Polls.{hears}
use Rattle.ddt_resolver.specs.State.{moved}
use Rattle.ddt_resolver.specs.MatchReply.{Ignores}
use Rattle.ddt_resolver.specs.laws.Order.{order_moved}
use Rattle.ddt_loop.proofs.IgnoredLemmas.{why_is, heard_why, not_ignored}
use Rattle.ddt_loop.proofs.resolver_steps.hear.Goals as goal

pub returns-clause-taken : goal.returns-clause-taken
returns-clause-taken g c =
    let w = c.resolve.ensures.resolves in
    (w.0, w.1, hears c.requires.plain c.if-packet-ne-CONTROL_PORT.false w.2)

pub returns-clause-came : goal.returns-clause-came
returns-clause-came g c =
    ends_came c.args.here.now.moment c.args.packet.from c.args.bytes.now (running c.args.resolver.now c.args.requesters.now)
    (running c.resolve.new.resolver c.resolve.new.requesters) c.resolve.result.ended c.resolve.ensures.ended

pub returns-clause-ignored : goal.returns-clause-ignored
returns-clause-ignored g c =
    heard_why (Ignores (moved c.args.here.now.moment c.args.resolver.now) c.args.packet.from c.args.bytes.now) c.args.packet.port c.if-packet-ne-CONTROL_PORT.false c.resolve.result.ignored
    (why_is c.usable_is_taken.ensures (moved c.args.here.now.moment c.args.resolver.now)
    (order_moved c.args.resolver.now c.args.here.now.moment c.millis-millis.ensures.bound c.in_order.ensures)
    c.args.packet.from c.args.bytes.now c.resolve.new.resolver c.resolve.result.ignored c.resolve.ensures.ignored).0

pub returns-clause-used : goal.returns-clause-used
returns-clause-used g c =
    not_ignored (Ignores (moved c.args.here.now.moment c.args.resolver.now) c.args.packet.from c.args.bytes.now) c.args.packet.port c.resolve.result.ignored
    (why_is c.usable_is_taken.ensures (moved c.args.here.now.moment c.args.resolver.now)
    (order_moved c.args.resolver.now c.args.here.now.moment c.millis-millis.ensures.bound c.in_order.ensures)
    c.args.packet.from c.args.bytes.now c.resolve.new.resolver c.resolve.result.ignored c.resolve.ensures.ignored).1

pub returns-then-packet-ne-CONTROL_PORT-clause-used : goal.returns-then-packet-ne-CONTROL_PORT-clause-used
returns-then-packet-ne-CONTROL_PORT-clause-used g c why is = c.if-packet-ne-CONTROL_PORT.true is.0
