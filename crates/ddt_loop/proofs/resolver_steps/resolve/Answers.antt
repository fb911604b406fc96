use Rattle.std.proofs.Common.{[], refl, sym}
use Rattle.ddt_sockets.specs.laws.Tell.{tells_none}
use Rattle.ddt_resolver.specs.Step.{call_of}
use Rattle.ddt_resolver.specs.laws.Order.{order_moved}
use Rattle.ddt_resolver.specs.laws.Shape.{moved_by_step}
use Rattle.ddt_loop.specs.Acts.{does, fails}
use Rattle.ddt_loop.specs.Ignoring.{replies, fails as lacks}
use Rattle.ddt_loop.proofs.EndLemmas.{ends_by}
use Rattle.ddt_loop.proofs.ShapeLemmas.{of_move}
use Rattle.ddt_loop.proofs.PendingLemmas.{moved_owners, owners_go_on}
use Rattle.ddt_loop.proofs.resolver_steps.resolve.Goals as goal

pub returns-in-Ok-clause-resolves : goal.returns-in-Ok-clause-resolves
returns-in-Ok-clause-resolves g c =
    let w = c.apply_progress-ended.ensures.goes in (w.0, w.1, does c.in-Ok.reply c.in-Ok.ensures.step (rw (← c.progress.ensures) w.2))

pub returns-in-Ok-clause-waiting : goal.returns-in-Ok-clause-waiting
returns-in-Ok-clause-waiting g c =
    let w = c.apply_progress-ended.ensures.goes in
    let order = order_moved c.args.resolver.now c.args.here.now.moment c.millis-millis.ensures.bound c.in_order.ensures in
    owners_go_on order (of_move (moved_by_step _ order (call_of c.args.input) c.step.new.self c.in-Ok.reply c.in-Ok.ensures.step).move)
    c.args.here.now.me c.args.requesters.now w.0 c.apply_progress-ended.new.requesters (moved_owners _ c.requires) (rw c.progress.ensures at w.2)

pub returns-in-Err-clause-resolves : goal.returns-in-Err-clause-resolves
returns-in-Err-clause-resolves g c = ([], tells_none _, fails c.in-Err.ensures.wanted c.in-Err.ensures.unchanged refl refl)

pub returns-in-Ok-clause-ended : goal.returns-in-Ok-clause-ended
returns-in-Ok-clause-ended g c =
    ends_by c.args.requesters.now.waiting c.apply_progress-ended.new.requesters.waiting c.progress.result c.apply_progress-ended.result c.in-Ok.ensures.step (sym c.progress.ensures)
    c.apply_progress-ended.ensures.ended

pub returns-in-Ok-clause-ignored : goal.returns-in-Ok-clause-ignored
returns-in-Ok-clause-ignored g c = replies c.in-Ok.reply c.in-Ok.ensures.step c.why_ignored-ignored.ensures

pub returns-in-Err-clause-ignored : goal.returns-in-Err-clause-ignored
returns-in-Err-clause-ignored g c = lacks c.in-Err.ensures.wanted refl
