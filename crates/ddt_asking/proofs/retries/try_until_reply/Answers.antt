use Rattle.std.proofs.Common.{ℕ, take, arith}
use Rattle.ddt_asking.proofs.TryLemmas.{no_try_yet, tries_are_answered, tries_go_on, tries_are_unanswered}
use Rattle.ddt_asking.proofs.retries.try_until_reply.Goals as goal

pub loop-try-init : goal.loop-try-init
loop-try-init g c = record {
  trying = no_try_yet (g.W.Wires.calls c.args.wires.now) (g.C.Clock.readings c.args.clock.now) c.args.options.now
      c.args.request.now c.args.awaited;
  room = c.requires;
}

pub returns-then-is_some-clause-tried : goal.returns-then-is_some-clause-tried
returns-then-is_some-clause-tried g c =
    let t = c.try_once-reply.ensures.tried in
    tries_are_answered (g.W.Wires.calls c.args.wires.now) (g.W.Wires.calls c.loop-try.wires)
    (g.W.Wires.calls c.try_once-reply.new.wires) (g.C.Clock.readings c.args.clock.now)
    (g.C.Clock.readings c.loop-try.clock) (g.C.Clock.readings c.try_once-reply.new.clock) c.args.options.now
    c.args.request.now c.args.awaited c.loop-try._try c.loop-try.invariant.trying t.0 t.1
    (λ (len : ℕ). take len c.try_once-reply.new.buffer) c.try_once-reply.result t.2
    (let there = c.if-is_some.true in let is = c.is_some.ensures in cc) (omega (arith, c.loop-try-test.true))

pub loop-try-preserved : goal.loop-try-preserved
loop-try-preserved g c =
    let t = c.try_once-reply.ensures.tried in record {
      trying = tries_go_on (g.W.Wires.calls c.args.wires.now) (g.W.Wires.calls c.loop-try.wires)
          (g.W.Wires.calls c.try_once-reply.new.wires) (g.C.Clock.readings c.args.clock.now)
          (g.C.Clock.readings c.loop-try.clock) (g.C.Clock.readings c.try_once-reply.new.clock) c.args.options.now
          c.args.request.now c.args.awaited c.loop-try._try c.loop-try.invariant.trying t.0 t.1
          (λ (len : ℕ). take len c.try_once-reply.new.buffer) c.try_once-reply.result t.2
          (let absent = c.if-is_some.false in let is = c.is_some.ensures in cc);
      room = c.try_once-reply.ensures.room;
    }

pub returns-clause-tried : goal.returns-clause-tried
returns-clause-tried g c =
    tries_are_unanswered (g.W.Wires.calls c.args.wires.now) (g.W.Wires.calls c.loop-try.wires)
    (g.C.Clock.readings c.args.clock.now) (g.C.Clock.readings c.loop-try.clock) c.args.options.now c.args.request.now
    c.args.awaited c.loop-try._try c.loop-try.invariant.trying
    (omega (arith, c.loop-try-test.false, c.loop-try.auto._try-end))
