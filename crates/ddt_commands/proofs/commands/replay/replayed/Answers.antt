use Rattle.std.proofs.Common.{◌≡◌, true, is_ok, ℕ, ◌<◌, List, length, get_or, Bor, [], Err, inl, inr, refl, sym, ap, ◌∙◌, subst, arith, rules}
use Rattle.std.specs.Prelude.{All}
use Rattle.std.specs.Fn.{FnReturnsAt}
use Rattle.ddt_register.specs.declared.register.Register.{Register}
use Rattle.ddt_check.specs.Zones.{roots}
use Rattle.ddt_commands.specs.declared.refusal.Refusal.TheVariants.{OutOfMemory}
use Rattle.ddt_commands.specs.Commands.Replay.{IsFirstOther, no_register, other_roots}
use Rattle.ddt_commands.proofs.Texts.{texts}
use Rattle.ddt_commands.proofs.OverLemmas.{of_register}
use Rattle.ddt_commands.proofs.ReplayLemmas.{all_registers, as_many_words, one_register, path_at, text_over, why_memory, why_more}
use Rattle.ddt_commands.proofs.commands.replay.replayed.Goals as goal

-- the word that stands for one past the end
abbrev blank : Bor (List ℕ)
blank = record { ref_ptr = (0, 0); now = [] }

pub returns-in_err-steps-clause-refused : goal.returns-in_err-steps-clause-refused
returns-in_err-steps-clause-refused g c =
    let accepted = c.in_ok-first.ensures in
    let e : c.from_residual-in_err-steps.result ≡ Err c.in_err-steps.field-0.0 = search rules in
    rw e (
      c.open_file.result,
      record { shown = c.args.asked.now.register; shows = refl; says = record { met = c.open_file.ensures } },
      inr (of_register _ _ _ c.in_ok-first.first (λ e. search (rules, accepted.closed e)) accepted.accepted accepted.spelled (
        c.open_file-2.result,
        record { shown = c.args.asked.now.script; shows = refl; says = record { met = c.open_file-2.ensures } },
        inl c.in_err-steps.ensures.refused,
      )),
    )

pub loop-path-preserved : goal.loop-path-preserved
loop-path-preserved g c =
    let here = c.in_ok-register.ensures in
    let pushed : is_ok c.push.result ≡ true = sym c.map_err.ensures.variant ∙ ap is_ok c.in_ok-map_err.was in
    let words = c.args.registers.now in
    one_register (FnReturnsAt g.O.Fn c.args.open_file.now) g.F.Read.remaining words c.loop-path.path-index blank c.loop-path.others.items c.push.new.self.items c.in_ok-register.register c.loop-path-test.true c.loop-path.invariant (
      c.open_file-in-loop-path.result,
      record { shown = get_or words c.loop-path.path-index blank; shows = refl; says = record { met = c.open_file-in-loop-path.ensures } },
      of_register _ _ _ c.in_ok-register.register (λ e. search (rules, here.closed e)) here.accepted here.spelled refl,
    ) (c.push.ensures.items ∙ rw pushed)

pub returns-in_err-register-clause-refused : goal.returns-in_err-register-clause-refused
returns-in_err-register-clause-refused g c =
    let accepted = c.in_ok-first.ensures in
    let spelled = c.in_ok-steps.ensures in
    let opens = FnReturnsAt g.O.Fn c.args.open_file.now in
    let words = c.args.registers.now in
    let e : c.from_residual-in_err-register.result ≡ Err c.in_err-register.field-0.0 = search rules in
    rw e (why_more opens g.F.Read.remaining c.args.asked.now.register.now c.args.asked.now.script.now (texts words) c.open_file.result
    (record { shown = c.args.asked.now.register; shows = refl; says = record { met = c.open_file.ensures } }) c.in_ok-first.first (λ e. search (rules, accepted.closed e)) accepted.accepted accepted.spelled
    c.open_file-2.result (record { shown = c.args.asked.now.script; shows = refl; says = record { met = c.open_file-2.ensures } }) (λ e. search (rules, spelled.closed e))
    c.in_ok-steps.steps.items spelled.spelled c.in_err-register.field-0.0
    (no_register c.loop-path.path-index (get_or words c.loop-path.path-index blank).now c.loop-path.others.items c.open_file-in-loop-path.result (path_at opens g.F.Read.remaining words c.loop-path.path-index blank c.loop-path-test.true)
    c.loop-path.invariant (record { shown = get_or words c.loop-path.path-index blank; shows = refl; says = record { met = c.open_file-in-loop-path.ensures } }) c.in_err-register.ensures.refused))

pub returns-in_err-map_err-clause-refused : goal.returns-in_err-map_err-clause-refused
returns-in_err-map_err-clause-refused g c =
    let accepted = c.in_ok-first.ensures in
    let spelled = c.in_ok-steps.ensures in
    let opens = FnReturnsAt g.O.Fn c.args.open_file.now in
    let words = c.args.registers.now in
    let e : c.from_residual-in_err-map_err.result ≡ Err OutOfMemory = search rules in
    rw e (why_memory opens g.F.Read.remaining c.args.asked.now.register.now c.args.asked.now.script.now (texts words) c.open_file.result
    (record { shown = c.args.asked.now.register; shows = refl; says = record { met = c.open_file.ensures } }) c.in_ok-first.first (λ e. search (rules, accepted.closed e)) accepted.accepted accepted.spelled
    c.open_file-2.result (record { shown = c.args.asked.now.script; shows = refl; says = record { met = c.open_file-2.ensures } }) (λ e. search (rules, spelled.closed e)))

pub returns-in_err-text-clause-refused : goal.returns-in_err-text-clause-refused
returns-in_err-text-clause-refused g c =
    let accepted = c.in_ok-first.ensures in
    let spelled = c.in_ok-steps.ensures in
    let opens = FnReturnsAt g.O.Fn c.args.open_file.now in
    let words = c.args.registers.now in
    let e : c.from_residual-in_err-text.result ≡ Err OutOfMemory = search rules in
    rw e (why_memory opens g.F.Read.remaining c.args.asked.now.register.now c.args.asked.now.script.now (texts words) c.open_file.result
    (record { shown = c.args.asked.now.register; shows = refl; says = record { met = c.open_file.ensures } }) c.in_ok-first.first (λ e. search (rules, accepted.closed e)) accepted.accepted accepted.spelled
    c.open_file-2.result (record { shown = c.args.asked.now.script; shows = refl; says = record { met = c.open_file-2.ensures } }) (λ e. search (rules, spelled.closed e)))

pub bounds-registers-place : goal.bounds-registers-place
bounds-registers-place g c =
    let within = c.in-Some.ensures.within in
    let same = as_many_words (FnReturnsAt g.O.Fn c.args.open_file.now) g.F.Read.remaining c.args.registers.now c.loop-path.path-index c.loop-path.others.items c.loop-path-test.false c.loop-path.invariant in
    let count = ap (λ (l : List Register). length l) c.deref.ensures.value in
    omega (arith, within, same, count)

pub returns-in-Some-clause-refused : goal.returns-in-Some-clause-refused
returns-in-Some-clause-refused g c =
    let accepted = c.in_ok-first.ensures in
    let spelled = c.in_ok-steps.ensures in
    let opens = FnReturnsAt g.O.Fn c.args.open_file.now in
    let words = c.args.registers.now in
    let first = subst (λ (l : List Register). IsFirstOther c.in_ok-first.first l c.in-Some.place) c.deref.ensures.value c.in-Some.ensures in
    let within = first.within in
    let same = as_many_words opens g.F.Read.remaining words c.loop-path.path-index c.loop-path.others.items c.loop-path-test.false c.loop-path.invariant in
    let lt : c.in-Some.place < length words = omega (arith, within, same) in
    why_more opens g.F.Read.remaining c.args.asked.now.register.now c.args.asked.now.script.now (texts words) c.open_file.result
    (record { shown = c.args.asked.now.register; shows = refl; says = record { met = c.open_file.ensures } }) c.in_ok-first.first (λ e. search (rules, accepted.closed e)) accepted.accepted accepted.spelled
    c.open_file-2.result (record { shown = c.args.asked.now.script; shows = refl; says = record { met = c.open_file-2.ensures } }) (λ e. search (rules, spelled.closed e))
    c.in_ok-steps.steps.items spelled.spelled _
    (other_roots c.in-Some.place (get_or words c.in-Some.place blank).now c.loop-path.others.items (path_at opens g.F.Read.remaining words c.in-Some.place blank lt)
    (all_registers opens g.F.Read.remaining words c.loop-path.path-index c.loop-path.others.items c.loop-path-test.false c.loop-path.invariant) first refl)

pub returns-clause-text : goal.returns-clause-text
returns-clause-text g c =
    let accepted = c.in_ok-first.ensures in
    let spelled = c.in_ok-steps.ensures in
    let opens = FnReturnsAt g.O.Fn c.args.open_file.now in
    let words = c.args.registers.now in
    text_over opens g.F.Read.remaining c.args.asked.now.register.now c.args.asked.now.script.now (texts words) c.open_file.result
    (record { shown = c.args.asked.now.register; shows = refl; says = record { met = c.open_file.ensures } }) c.in_ok-first.first (λ e. search (rules, accepted.closed e)) accepted.accepted accepted.spelled
    c.open_file-2.result (record { shown = c.args.asked.now.script; shows = refl; says = record { met = c.open_file-2.ensures } }) (λ e. search (rules, spelled.closed e))
    c.in_ok-steps.steps.items spelled.spelled c.loop-path.others.items c.args.asked.now.me c.args.asked.now.seed c.whole.result.text.items
    (all_registers opens g.F.Read.remaining words c.loop-path.path-index c.loop-path.others.items c.loop-path-test.false c.loop-path.invariant)
    (subst (λ (l : List Register). All (λ q. roots q ≡ roots c.in_ok-first.first) l) c.deref.ensures.value c.in_default.ensures)
    (rw c.whole.ensures.text (rw (c.deref-2.ensures.value, c.deref-3.ensures.value) at c.in_ok-text.ensures))
