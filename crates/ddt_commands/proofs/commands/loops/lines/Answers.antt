use Rattle.std.proofs.Common.{◌≡◌, Err, List, ℕ, refl, rules, sym, subst, ◌∙◌}
use Rattle.std.proofs.lemmas.Result.{IfErr-weaker, IfOk-weaker}
use Rattle.ddt_commands.specs.CommandLine.Call.{call_of}
use Rattle.ddt_commands.specs.Register.{IsWhyNoRegister}
use Rattle.ddt_commands.specs.Commands.Loop.{bad, no_file, no_memory, no_run, not_loopback}
use Rattle.ddt_commands.proofs.LoopLemmas.{good_words}
use Rattle.ddt_commands.proofs.OverLemmas.{of_register}
use Rattle.ddt_commands.proofs.commands.loops.lines.Goals as goal

pub returns-in-Err-clause-refused : goal.returns-in-Err-clause-refused
returns-in-Err-clause-refused g c = bad c.in-Err.why (refl, refl) c.in-Err.ensures.bad

pub returns-then-not-is_loopback-clause-refused : goal.returns-then-not-is_loopback-clause-refused
returns-then-not-is_loopback-clause-refused g c =
    let words = c.in-Ok.ensures in
    not_loopback _ (refl, refl) (good_words (call_of c.args.words.now) _ _ _ words.identifiers words.resolver words.turns) words.resolver.0
    (sym c.is_loopback.ensures ∙ c.if-not-is_loopback.true)

pub returns-in_err-register-clause-refused : goal.returns-in_err-register-clause-refused
returns-in_err-register-clause-refused g c =
    let words = c.in-Ok.ensures in
    let e : c.from_residual.result ≡ Err c.in_err-register.field-0.0 = search rules in
    rw e (no_file _ _ (refl, refl) (good_words (call_of c.args.words.now) _ _ _ words.identifiers words.resolver words.turns) words.resolver.0
    (sym c.is_loopback.ensures ∙ c.if-not-is_loopback.false)
    (record { shown = c.in-Ok.asked.register; shows = words.path; says = record { met = c.open_file.ensures } })
    (subst (λ (p : List ℕ). IsWhyNoRegister g.F.Read.remaining c.open_file.result p c.in_err-register.field-0.0) words.path c.in_err-register.ensures.refused))

pub returns-in_default-clause-refused : goal.returns-in_default-clause-refused
returns-in_default-clause-refused g c =
    let words = c.in-Ok.ensures in
    let accepted = c.in_ok-register.ensures in
    no_run _ _ (good_words (call_of c.args.words.now) _ _ _ words.identifiers words.resolver words.turns) words.resolver.0
    (sym c.is_loopback.ensures ∙ c.if-not-is_loopback.false)
    (record { shown = c.in-Ok.asked.register; shows = words.path; says = record { met = c.open_file.ensures } })
    (of_register _ _ _ c.in_ok-register.register (λ e. search (rules, accepted.closed e)) accepted.accepted accepted.spelled no_memory)

pub returns-clause-text : goal.returns-clause-text
returns-clause-text g c =
    let words = c.in-Ok.ensures in
    let accepted = c.in_ok-register.ensures in
    IfOk-weaker c.loop_over.result _ _ (λ lines h. (
      c.open_file.result,
      record { shown = c.in-Ok.asked.register; shows = words.path; says = record { met = c.open_file.ensures } },
      of_register _ _ _ c.in_ok-register.register (λ e. search (rules, accepted.closed e)) accepted.accepted accepted.spelled h,
    )) (c.loop_over.ensures.text _ (record {
      identifiers = rw c.deref.ensures.value (rw c.in-Some.is at words.spelled);
      address = words.resolver.0;
      first = words.resolver.1;
      most = words.turns;
      loopback = sym c.is_loopback.ensures ∙ c.if-not-is_loopback.false;
    }))

pub returns-clause-refused : goal.returns-clause-refused
returns-clause-refused g c =
    let words = c.in-Ok.ensures in
    let accepted = c.in_ok-register.ensures in
    IfErr-weaker c.loop_over.result _ _ (λ why h.
    no_run _ _ (good_words (call_of c.args.words.now) _ _ _ words.identifiers words.resolver words.turns) words.resolver.0
    (sym c.is_loopback.ensures ∙ c.if-not-is_loopback.false)
    (record { shown = c.in-Ok.asked.register; shows = words.path; says = record { met = c.open_file.ensures } })
    (of_register _ _ _ c.in_ok-register.register (λ e. search (rules, accepted.closed e)) accepted.accepted accepted.spelled h))
    (c.loop_over.ensures.refused _ (record {
      identifiers = rw c.deref.ensures.value (rw c.in-Some.is at words.spelled);
      address = words.resolver.0;
      first = words.resolver.1;
      most = words.turns;
      loopback = sym c.is_loopback.ensures ∙ c.if-not-is_loopback.false;
    }))
