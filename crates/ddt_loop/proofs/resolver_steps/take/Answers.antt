use Rattle.std.proofs.Common.{[], refl, sym, ◌∙◌, subst, arith}
use Rattle.std.proofs.lemmas.Option.{none-some}
use Rattle.ddt_sockets.specs.laws.Tell.{tells_none}
use Rattle.ddt_loop.specs.PacketOutcomes.{IsPacketOutcome}
use Rattle.ddt_loop.specs.Acts.{running}
use Rattle.ddt_loop.proofs.EndLemmas.{waits_came}
use Rattle.ddt_loop.specs.Polls.{asks, no_request}
use Rattle.ddt_loop.proofs.resolver_steps.take.Goals as goal

pub returns-in-Some-clause-taken : goal.returns-in-Some-clause-taken
returns-in-Some-clause-taken g c =
    let w = c.ask_for_itr-ticket.ensures.asks in
    (w.0, w.1, asks (sym c.is_of.ensures ∙ c.if-is_of.true) c.in-Some.request c.in-Some.ensures.found w.2)

pub returns-in-None-clause-taken : goal.returns-in-None-clause-taken
returns-in-None-clause-taken g c = (
  [],
  tells_none (g.W.Wires.calls c.args.wires.now),
  no_request (sym c.is_of.ensures ∙ c.if-is_of.true)
      (λ q is. none-some q (c.in-None.ensures.only q is)) refl refl,
)

pub returns-in-Some-clause-came : goal.returns-in-Some-clause-came
returns-in-Some-clause-came g c =
    let w = running c.args.resolver.now c.args.requesters.now in
    let new = running c.ask_for_itr-ticket.new.resolver c.ask_for_itr-ticket.new.requesters in
    subst (IsPacketOutcome c.args.here.now.moment c.args.packet.from c.args.bytes.now w new) (sym c.request_outcome.ensures)
    (waits_came c.args.here.now.moment c.args.packet.from c.args.bytes.now w new c.ask_for_itr-ticket.result _ c.in-Some.request
    (omega (arith, c.type_inv.bytes)) c.in-Some.ensures.found c.ask_for_itr-ticket.ensures.waits c.ask_for_itr-ticket.ensures.none)

pub returns-else-is_of-clause-came : goal.returns-else-is_of-clause-came
returns-else-is_of-clause-came g c =
    let w = running c.args.resolver.now c.args.requesters.now in
    let new = running c.hear-heard.new.resolver c.hear-heard.new.requesters in
    subst (IsPacketOutcome c.args.here.now.moment c.args.packet.from c.args.bytes.now w new) (sym c.reply_outcome.ensures) c.hear-heard.ensures.came
