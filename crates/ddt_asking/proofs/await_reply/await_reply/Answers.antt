use Rattle.std.proofs.Common.{◌≡◌, ℕ, ◌-◌, ◌<◌, ◌≤◌, length, take, arith}
use Rattle.ddt_sockets.specs.Turns.{most_bytes}
use Rattle.ddt_asking.proofs.TryLemmas.{wait_is_over, wait_is_replied, wait_goes_on, wait_is_used_up}
use Rattle.ddt_asking.proofs.await_reply.await_reply.Goals as goal

pub returns-then-saturating_sub-wait-clause-waited : goal.returns-then-saturating_sub-wait-clause-waited
returns-then-saturating_sub-wait-clause-waited g c =
    let room : length c.receive-answer.new.buffer ≡ most_bytes =
    omega (arith, c.receive-answer.auto.buffer, c.loop-poll.invariant.room) in
    let late : c.args.wait.now.millis ≤ c.now.result - c.args.wait.now.since =
    omega (arith, c.if-saturating_sub-wait.true, c.saturating_sub.ensures, c.millis-now.ensures.value) in
    wait_is_over (g.W.Wires.calls c.args.wires.now) (g.W.Wires.calls c.loop-poll.wires)
    (g.W.Wires.calls c.receive-answer.new.self) (g.C.Clock.readings c.args.clock.now)
    (g.C.Clock.readings c.loop-poll.clock) (g.C.Clock.readings c.now.new.self) c.args.wait.now c.loop-poll._poll
    c.receive-answer.result c.receive-answer.new.buffer c.now.result c.loop-poll.invariant.waiting
    c.receive-answer.ensures.told c.now.ensures room late

pub returns-then-is_some-clause-waited : goal.returns-then-is_some-clause-waited
returns-then-is_some-clause-waited g c =
    let room : length c.receive-answer.new.buffer ≡ most_bytes =
    omega (arith, c.receive-answer.auto.buffer, c.loop-poll.invariant.room) in
    let early : c.now.result - c.args.wait.now.since < c.args.wait.now.millis =
    omega (arith, c.if-saturating_sub-wait.false, c.saturating_sub.ensures, c.millis-now.ensures.value) in
    wait_is_replied (g.W.Wires.calls c.args.wires.now) (g.W.Wires.calls c.loop-poll.wires)
    (g.W.Wires.calls c.receive-answer.new.self) (g.C.Clock.readings c.args.clock.now)
    (g.C.Clock.readings c.loop-poll.clock) (g.C.Clock.readings c.now.new.self) c.args.wait.now c.loop-poll._poll
    c.receive-answer.result c.receive-answer.new.buffer c.now.result c.loop-poll.invariant.waiting
    c.receive-answer.ensures.told c.now.ensures room (λ (len : ℕ). take len c.receive-answer.new.buffer)
    c.reply_len-reply.result early c.reply_len-reply.ensures.reply
    (let there = c.if-is_some.true in let is = c.is_some.ensures in cc)

pub loop-poll-preserved : goal.loop-poll-preserved
loop-poll-preserved g c =
    let room : length c.receive-answer.new.buffer ≡ most_bytes =
    omega (arith, c.receive-answer.auto.buffer, c.loop-poll.invariant.room) in
    let early : c.now.result - c.args.wait.now.since < c.args.wait.now.millis =
    omega (arith, c.if-saturating_sub-wait.false, c.saturating_sub.ensures, c.millis-now.ensures.value) in record {
      waiting = wait_goes_on (g.W.Wires.calls c.args.wires.now) (g.W.Wires.calls c.loop-poll.wires)
          (g.W.Wires.calls c.receive-answer.new.self) (g.C.Clock.readings c.args.clock.now)
          (g.C.Clock.readings c.loop-poll.clock) (g.C.Clock.readings c.now.new.self) c.args.wait.now c.loop-poll._poll
          c.receive-answer.result c.receive-answer.new.buffer c.now.result c.loop-poll.invariant.waiting
          c.receive-answer.ensures.told c.now.ensures room (λ (len : ℕ). take len c.receive-answer.new.buffer)
          c.reply_len-reply.result early c.reply_len-reply.ensures.reply
          (let absent = c.if-is_some.false in let is = c.is_some.ensures in cc);
      room = room;
    }

pub returns-clause-waited : goal.returns-clause-waited
returns-clause-waited g c =
    wait_is_used_up (g.W.Wires.calls c.args.wires.now) (g.W.Wires.calls c.loop-poll.wires)
    (g.C.Clock.readings c.args.clock.now) (g.C.Clock.readings c.loop-poll.clock) c.args.wait.now c.loop-poll._poll
    c.loop-poll.invariant.waiting (omega (arith, c.loop-poll-test.false, c.loop-poll.auto._poll-end))
