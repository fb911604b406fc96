use Rattle.std.proofs.Common.{refl}
use Rattle.ddt_loop.specs.Acts.{running}
use Rattle.ddt_loop.proofs.WholeLemmas.{ran, answers, replies, stays_sound, unresolved}
use Rattle.ddt_loop.proofs.turn_loop.loop_turns.Goals as goal

pub returns : goal.returns
returns g c =
    let tree = c.args.tree.now in
    let run = ran (g.C.Clock.readings c.args.clock.now) (g.C.Clock.readings c.now-now.new.self) (g.C.Clock.readings c.take_turns.new.clock)
    (g.W.Wires.calls c.args.wires.now) (g.W.Wires.calls c.ask_all.new.wires) (g.W.Wires.calls c.take_turns.new.wires) tree.servers.now
    c.args.resolver.now tree.me tree.sockets.now c.args.ids.now c.args.turns c.into_ends.result.items c.take_turns.new.resolver
    c.now-now.result c.millis-millis.ensures.bound c.in_ok-requesters.requesters (running c.ask_all.new.resolver c.ask_all.new.requesters)
    (running c.take_turns.new.resolver c.take_turns.new.requesters) c.in_ok-requesters.ensures c.ask_all.ensures.asks c.now-now.ensures
    c.take_turns.ensures c.into_ends.ensures refl in
    let steps = c.a_step_keeps_a_resolver_sound.ensures.steps in
    let time = c.a_step_keeps_a_resolver_sound.ensures.time in
    record {
      answers = answers run steps time c.in_order.ensures;
      replies = replies run steps time c.in_order.ensures;
      sound = stays_sound run steps time c.in_order.ensures;
      unresolved = unresolved run;
      run = (run.moments, run.calls, run.reads, run.tells, run.loop);
      undone = tt;
      untold = tt;
      unread = tt;
    }
