use Rattle.std.proofs.Common.{◌≡◌, [], ◌∷◌, ◌++◌, refl}
use Rattle.ddt_asking.proofs.AskLemmas.{at_error, begun_of, none_asked_yet, one_more_asked, questions_so_far, stopped_at}
use Rattle.ddt_asking.proofs.prober.Prober.ask_each.Goals as goal

pub loop-question-init : goal.loop-question-init
loop-question-init g c = record {
  asking = rw c.new-findings.ensures.items
      (none_asked_yet (g.W.Wires.calls c.args.wires.now) (g.C.Clock.readings c.args.clock.now) c.args.self.now.options
      c.args.x (g.R.Rng.stream c.args.nonces.now));
  each = rw c.new-findings.ensures.items refl;
  room = refl;
}

pub loop-question-preserved : goal.loop-question-preserved
loop-question-preserved g c =
    let a = c.in_ok-finding.ensures.asked in
    let p = c.pause.ensures.pause in
    let items : c.push.new.self.items ≡ c.loop-question.findings.items ++ c.in_ok-finding.finding ∷ [] =
    c.in_ok-push.ensures.items in record {
      asking = rw items
          (one_more_asked (g.W.Wires.calls c.args.wires.now) (g.W.Wires.calls c.loop-question.wires)
          (g.W.Wires.calls c.ask_one.new.wires) (g.W.Wires.calls c.pause.new.wires)
          (g.C.Clock.readings c.args.clock.now) (g.C.Clock.readings c.loop-question.clock)
          (g.C.Clock.readings c.ask_one.new.clock) (g.C.Clock.readings c.pause.new.clock) c.args.self.now.options
          c.args.x (g.R.Rng.stream c.args.nonces.now) c.loop-question.findings.items
          (g.R.Rng.stream c.loop-question.nonces) c.next_u64-nonce.result (g.R.Rng.stream c.next_u64-nonce.new.self)
          a.0 p.0 c.in_ok-finding.finding c.loop-question.invariant.asking c.next_u64-nonce.ensures a.1 a.2 p.1 p.2);
      each = rw items
          (questions_so_far c.args.questions.now c.loop-question.findings.items c.loop-question.question-index
          c.question-item.result c.in_ok-finding.finding c.loop-question-test.true c.question-item.is
          c.in_ok-finding.ensures.question c.loop-question.invariant.each);
      room = c.pause.ensures.room;
    }

pub returns-in_err-finding-clause-stopped : goal.returns-in_err-finding-clause-stopped
returns-in_err-finding-clause-stopped g c =
    let a = c.in_err-finding.ensures.begun in
    at_error c.from_residual.result
    (stopped_at (g.W.Wires.calls c.args.wires.now) (g.W.Wires.calls c.loop-question.wires)
    (g.W.Wires.calls c.ask_one.new.wires) (g.C.Clock.readings c.args.clock.now)
    (g.C.Clock.readings c.loop-question.clock) (g.C.Clock.readings c.ask_one.new.clock) c.args.self.now.options c.args.x
    (g.R.Rng.stream c.args.nonces.now) c.args.questions.now c.loop-question.findings.items
    c.loop-question.question-index c.question-item.result (g.R.Rng.stream c.loop-question.nonces) c.next_u64-nonce.result
    (g.R.Rng.stream c.next_u64-nonce.new.self) a.0 c.loop-question-test.true c.question-item.is
    c.loop-question.invariant.each c.loop-question.invariant.asking c.next_u64-nonce.ensures a.1
    a.2)

pub returns-in_err-push-clause-stopped : goal.returns-in_err-push-clause-stopped
returns-in_err-push-clause-stopped g c =
    let a = c.in_ok-finding.ensures.asked in
    at_error c.from_residual-in_err-push.result
    (stopped_at (g.W.Wires.calls c.args.wires.now) (g.W.Wires.calls c.loop-question.wires)
    (g.W.Wires.calls c.ask_one.new.wires) (g.C.Clock.readings c.args.clock.now)
    (g.C.Clock.readings c.loop-question.clock) (g.C.Clock.readings c.ask_one.new.clock) c.args.self.now.options c.args.x
    (g.R.Rng.stream c.args.nonces.now) c.args.questions.now c.loop-question.findings.items
    c.loop-question.question-index c.question-item.result (g.R.Rng.stream c.loop-question.nonces) c.next_u64-nonce.result
    (g.R.Rng.stream c.next_u64-nonce.new.self) a.0 c.loop-question-test.true c.question-item.is
    c.loop-question.invariant.each c.loop-question.invariant.asking c.next_u64-nonce.ensures a.1
    (begun_of c.args.self.now.options c.args.x c.next_u64-nonce.result c.question-item.result a.0
    c.in_ok-finding.finding c.in_ok-finding.ensures.question a.2))
