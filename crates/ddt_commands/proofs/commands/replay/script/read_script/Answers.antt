use Rattle.std.proofs.Common.{◌≡◌, ℕ, ◌+◌, true, eqb, List, length, is_ok, ap, sym, subst, ◌∙◌, arith, rules, tests}
use Rattle.std.specs.Prelude.{not}
use Rattle.std.proofs.lemmas.Iterator.Consumers.{YieldsList-at, YieldsList-from_filter}
use Rattle.std.proofs.lemmas.Iterator.Splits.{YieldsList-from_slice_split}
use Rattle.ddt_commands.specs.Commands.Script.{SpellSteps, lines_in}
use Rattle.ddt_commands.proofs.ScriptLemmas.{ended, one_line, read_more, refused_here, turned}
use Rattle.ddt_commands.proofs.commands.replay.script.read_script.Goals as goal

pub loop-line-preserved : goal.loop-line-preserved
loop-line-preserved c =
    let pushed : is_ok c.push.result ≡ true = sym c.map_err.ensures.variant ∙ ap is_ok c.in_ok-map_err-in-Ok.was in
    read_more c.loop-line.yielded c.in-Some.line c.loop-line.steps.items c.push.new.self.items c.in-Ok.step c.loop-line.invariant c.in-Ok.ensures.step
    (c.push.ensures.items ∙ rw pushed)

pub returns-in-Err-clause-refused : goal.returns-in-Err-clause-refused
returns-in-Err-clause-refused c = λ number is.
    let here : c.len.result + 1 ≡ number = one_line (c.len.result + 1) number c.in-Err.fault c.in-Err.ensures.none.0 is in
    let at = turned c.loop-line.yielded _ c.loop-line.yielded_by _ _ c.in-Some.line c.in-Some.is c.next.ensures.steps (λ t. t.now) (lines_in c.args.text.now)
    (YieldsList-at c.into_iter-line-iterator.ensures.into_iter_gives (YieldsList-from_filter _ (λ (line : List ℕ). not (eqb (length line) 0)) (YieldsList-at c.filter-line-items.ensures.source
    (YieldsList-from_slice_split _ (λ (b : ℕ). eqb b 10) c.args.text.now c.split-lines.ensures.rest c.split-lines.ensures.done c.split-lines.ensures.closure (λ x b q k. search (rules, tests))))
    c.filter-line-items.ensures.closure (λ x b q k. search (rules, tests)))) in
    refused_here c.args.text.now c.loop-line.yielded c.loop-line.steps.items c.in-Some.line.now number c.loop-line.invariant at.0 at.1
    c.in-Err.ensures.none.1 (omega (arith, c.len.ensures, c.loop-line.steps.ok.0))

pub returns-clause-spelled : goal.returns-clause-spelled
returns-clause-spelled c =
    let all = ended c.loop-line.yielded _ c.loop-line.yielded_by _ _ c.in-None.is c.next.ensures.steps (λ t. t.now) (lines_in c.args.text.now)
    (YieldsList-at c.into_iter-line-iterator.ensures.into_iter_gives (YieldsList-from_filter _ (λ (line : List ℕ). not (eqb (length line) 0)) (YieldsList-at c.filter-line-items.ensures.source
    (YieldsList-from_slice_split _ (λ (b : ℕ). eqb b 10) c.args.text.now c.split-lines.ensures.rest c.split-lines.ensures.done c.split-lines.ensures.closure (λ x b q k. search (rules, tests))))
    c.filter-line-items.ensures.closure (λ x b q k. search (rules, tests)))) in
    subst (λ (ls : List (List ℕ)). SpellSteps ls c.loop-line.steps.items) all c.loop-line.invariant
