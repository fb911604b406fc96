use Rattle.std.proofs.Common.{◌≡◌, ℕ, [], ◌∷◌, take}
use Rattle.ddt_ecm.specs.Request.{written}
use Rattle.std.specs.Option.{option_map}
use Rattle.ddt_asking.specs.Asked.{sets_d}
use Rattle.ddt_asking.proofs.AskLemmas.{at_error, none_begun, question_asked, question_begun}
use Rattle.ddt_asking.proofs.prober.Prober.ask_one.Goals as goal

pub returns-clause-asked : goal.returns-clause-asked
returns-clause-asked g c =
    let t = c.try_until_reply-reply.ensures.tried in
    let request : c.deref.result.now
    ≡ written c.args.nonce c.args.x (c.args.self.now.options.me ∷ []) (sets_d c.args.self.now.options.client) =
    (let lent = c.deref.ensures.value in let written_so = c.in_ok-request.ensures.written in
    let bit = c.is_ddt.ensures in cc) in (
      t.0,
      t.1,
      question_asked c.args.self.now.options c.args.x c.args.nonce c.deref.result.now t.0
          (option_map (λ (len : ℕ). take len c.try_until_reply-reply.new.buffer) c.try_until_reply-reply.result) c.args.question
          c.in_ok-verdict.verdict request t.2 c.in_ok-verdict.ensures,
    )

pub returns-in_err-request-clause-begun : goal.returns-in_err-request-clause-begun
returns-in_err-request-clause-begun g c =
    at_error c.from_residual.result
    (none_begun (g.W.Wires.calls c.args.wires.now) (g.C.Clock.readings c.args.clock.now) c.args.self.now.options c.args.x
    c.args.nonce c.args.question)

pub returns-in_err-verdict-clause-begun : goal.returns-in_err-verdict-clause-begun
returns-in_err-verdict-clause-begun g c =
    let t = c.try_until_reply-reply.ensures.tried in
    let request : c.deref.result.now
    ≡ written c.args.nonce c.args.x (c.args.self.now.options.me ∷ []) (sets_d c.args.self.now.options.client) =
    (let lent = c.deref.ensures.value in let written_so = c.in_ok-request.ensures.written in
    let bit = c.is_ddt.ensures in cc) in
    at_error c.from_residual-in_err-verdict.result (
      t.0,
      t.1,
      question_begun c.args.self.now.options c.args.x c.args.nonce c.deref.result.now t.0
          (option_map (λ (len : ℕ). take len c.try_until_reply-reply.new.buffer) c.try_until_reply-reply.result) c.args.question
          request t.2,
    )
