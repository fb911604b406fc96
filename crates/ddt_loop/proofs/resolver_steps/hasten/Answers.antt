use Rattle.std.proofs.Common.{[], refl, sym}
use Rattle.ddt_sockets.specs.laws.Tell.{tells_none}
use Rattle.ddt_resolver.specs.laws.Order.{order_moved}
use Rattle.ddt_loop.specs.Acts.{does, fails}
use Rattle.ddt_loop.proofs.EndLemmas.{ends_by_haste}
use Rattle.ddt_loop.proofs.ShapeLemmas.{of_haste}
use Rattle.ddt_loop.proofs.PendingLemmas.{moved_owners, owners_go_on}
use Rattle.ddt_loop.proofs.resolver_steps.hasten.Goals as goal

pub returns-in-Ok-clause-hastens : goal.returns-in-Ok-clause-hastens
returns-in-Ok-clause-hastens g c =
    let w = c.apply_progress.ensures.goes in (w.0, w.1, does c.in-Ok.ticked c.in-Ok.ensures.step (rw (← c.progress.ensures) w.2))

pub returns-in-Ok-clause-waiting : goal.returns-in-Ok-clause-waiting
returns-in-Ok-clause-waiting g c =
    let w = c.apply_progress.ensures.goes in
    let order = order_moved c.args.resolver.now c.args.here.now.moment c.millis-millis.ensures.bound c.in_order.ensures in
    owners_go_on order (of_haste c.in-Ok.ensures.step)
    c.args.here.now.me c.args.requesters.now w.0 c.apply_progress.new.requesters (moved_owners _ c.requires) (rw c.progress.ensures at w.2)

pub returns-in-Err-clause-hastens : goal.returns-in-Err-clause-hastens
returns-in-Err-clause-hastens g c = ([], tells_none _, fails c.in-Err.ensures.wanted c.in-Err.ensures.unchanged refl refl)

pub returns-in-Ok-clause-ended : goal.returns-in-Ok-clause-ended
returns-in-Ok-clause-ended g c =
    ends_by_haste c.args.requesters.now.waiting c.apply_progress.new.requesters.waiting c.progress.result c.apply_progress.result c.in-Ok.ensures.step (sym c.progress.ensures)
    c.apply_progress.ensures.ended
