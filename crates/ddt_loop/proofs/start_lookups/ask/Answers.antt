use Rattle.std.proofs.Common.{[], refl, ap, Ok}
use Rattle.ddt_resolver.specs.Step.{asks}
use Rattle.ddt_resolver.specs.laws.Order.{order_moved}
use Rattle.ddt_sockets.specs.laws.Tell.{tells_none}
use Rattle.ddt_loop.specs.Acts.{answered}
use Rattle.ddt_loop.proofs.PendingLemmas.{moved_owners, owners_start, room_for}
use Rattle.ddt_loop.proofs.ActLemmas.{ask_refused}
use Rattle.ddt_loop.proofs.start_lookups.ask.Goals as goal

pub after_ask-requires : goal.after_ask-requires
after_ask-requires g c =
    room_for _ (order_moved c.args.resolver.now c.args.here.now.moment c.millis-millis.ensures.bound c.in_order.ensures)
    (asks c.args.x (Ok c.in-Ok.asked) c.in-Ok.ensures.identifier c.in-Ok.ensures.step refl refl) c.args.requesters.now (moved_owners _ c.requires)

pub returns-in-Ok-clause-asks : goal.returns-in-Ok-clause-asks
returns-in-Ok-clause-asks g c =
    let w = c.after_ask.ensures.starts in (
      w.0,
      w.1,
      answered c.in-Ok.asked (asks c.args.x (Ok c.in-Ok.asked) c.in-Ok.ensures.identifier c.in-Ok.ensures.step refl refl) w.2
          (ap Ok c.after_ask.ensures.remembered),
    )

pub returns-in-Ok-clause-waiting : goal.returns-in-Ok-clause-waiting
returns-in-Ok-clause-waiting g c =
    let w = c.after_ask.ensures.starts in
    owners_start _ (order_moved c.args.resolver.now c.args.here.now.moment c.millis-millis.ensures.bound c.in_order.ensures)
    (asks c.args.x (Ok c.in-Ok.asked) c.in-Ok.ensures.identifier c.in-Ok.ensures.step refl refl)
    c.args.here.now.me c.args.requester c.args.requesters.now w.0 c.after_ask.new.requesters (moved_owners _ c.requires) w.2

pub returns-in-Err-clause-asks : goal.returns-in-Err-clause-asks
returns-in-Err-clause-asks g c =
    ([], tells_none _, ask_refused c.in-Err.why c.in-Err.ensures.identifier c.in-Err.ensures.step c.in-Err.ensures.memory)
