use Rattle.std.proofs.Common.{◌≡◌, Err, refl, rules}
use Rattle.ddt_sim.specs.Lookup.{unfinished}
use Rattle.ddt_sim.proofs.SoundLemmas.{sound_moved}
use Rattle.ddt_sim.proofs.ExchangeLemmas.{came_back, turn_of, unreplied_well, unreplied_fails, taken_is, untaken_fails, untaken_well, taken_well, well_heard, turn_is_nearer}
use Rattle.ddt_sim.proofs.exchange.exchange.Goals as goal

pub returns-in_err-reply-clause-failed : goal.returns-in_err-reply-clause-failed
returns-in_err-reply-clause-failed g c =
    let e : c.from_residual.result ≡ Err c.in_err-reply.field-0.0 = search rules in rw e (unreplied_fails c.answer.result c.in_err-reply.ensures)

pub returns-in_err-reply-clause-honest : goal.returns-in_err-reply-clause-honest
returns-in_err-reply-clause-honest g c = λ r x honest under.
    let e : c.from_residual.result ≡ Err c.in_err-reply.field-0.0 = search rules in
    rw e (unreplied_well c.args.request c.answer.result c.as_slice.ensures c.answer.ensures.says honest under (c.requests_are_understood.ensures r _ x _ _ _ c.millis-millis.ensures.bound c.in_order.ensures under) c.in_err-reply.ensures)

pub returns-in-Err-clause-honest : goal.returns-in-Err-clause-honest
returns-in-Err-clause-honest g c = λ r x honest under.
    record { sound = rw c.in-Err.ensures.unchanged (sound_moved r c.args.resolver.now under.sound c.args.now); turn = tt; failure = tt; hops = λ all. tt }

pub returns-in_err-turn-clause-failed : goal.returns-in_err-turn-clause-failed
returns-in_err-turn-clause-failed g c =
    let e : c.from_residual-in_err-turn.result ≡ Err c.in_err-turn.field-0.0 = search rules in
    rw e (untaken_fails (came_back c.args.request c.answer.result c.as_slice.ensures c.answer.ensures.says c.in_ok-reply.ensures c.as_slice-2.ensures c.in-Ok.ensures.step) c.heard_for.result c.heard_for.ensures c.in_err-turn.ensures)

pub returns-in_err-turn-clause-honest : goal.returns-in_err-turn-clause-honest
returns-in_err-turn-clause-honest g c = λ r x honest under.
    let e : c.from_residual-in_err-turn.result ≡ Err c.in_err-turn.field-0.0 = search rules in
    rw e (untaken_well (came_back c.args.request c.answer.result c.as_slice.ensures c.answer.ensures.says c.in_ok-reply.ensures c.as_slice-2.ensures c.in-Ok.ensures.step) honest
    (c.requests_are_understood.ensures r _ x _ _ _ c.millis-millis.ensures.bound c.in_order.ensures under) c.heard_for.result c.heard_for.ensures c.in_err-turn.ensures)

pub returns-in-Ok-push-clause-turn : goal.returns-in-Ok-push-clause-turn
returns-in-Ok-push-clause-turn g c =
    turn_of (came_back c.args.request c.answer.result c.as_slice.ensures c.answer.ensures.says c.in_ok-reply.ensures c.as_slice-2.ensures c.in-Ok.ensures.step)
    (taken_is c.args.ticket c.heard_for.result c.heard_for.ensures c.in_ok-turn.ensures) c.in-Ok-push.ensures.items

pub returns-in-Ok-push-clause-honest : goal.returns-in-Ok-push-clause-honest
returns-in-Ok-push-clause-honest g c = λ r x honest under.
    taken_well (came_back c.args.request c.answer.result c.as_slice.ensures c.answer.ensures.says c.in_ok-reply.ensures c.as_slice-2.ensures c.in-Ok.ensures.step) honest
    (c.requests_are_understood.ensures r _ x _ _ _ c.millis-millis.ensures.bound c.in_order.ensures under)
    c.in_ok-turn.turn (taken_is c.args.ticket c.heard_for.result c.heard_for.ensures c.in_ok-turn.ensures) c.in-Ok-push.ensures.items

pub returns-in-Ok-push-clause-nearer : goal.returns-in-Ok-push-clause-nearer
returns-in-Ok-push-clause-nearer g c = λ x.
    turn_is_nearer c.in_ok-turn.turn c.in_order.ensures c.in-Ok.ensures.step c.in-Ok.ensures.nearer (taken_is c.args.ticket c.heard_for.result c.heard_for.ensures c.in_ok-turn.ensures)

pub returns-in-Err-push-clause-failed : goal.returns-in-Err-push-clause-failed
returns-in-Err-push-clause-failed g c =
    unfinished c.as_slice-2.result.now c.in_ok-turn.turn (rw (← taken_is c.args.ticket c.heard_for.result c.heard_for.ensures c.in_ok-turn.ensures) c.in-Ok.ensures.step) refl

pub returns-in-Err-push-clause-honest : goal.returns-in-Err-push-clause-honest
returns-in-Err-push-clause-honest g c = λ r x honest under.
    let well = well_heard (came_back c.args.request c.answer.result c.as_slice.ensures c.answer.ensures.says c.in_ok-reply.ensures c.as_slice-2.ensures c.in-Ok.ensures.step) honest
    (c.requests_are_understood.ensures r _ x _ _ _ c.millis-millis.ensures.bound c.in_order.ensures under) in
    record { sound = well.sound; turn = tt; failure = tt; hops = λ all. tt }
