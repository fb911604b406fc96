use Rattle.std.proofs.Common.{◌≡◌, ◌∙◌, ℕ, List, inr, refl, rules, subst}
use Rattle.std.specs.Prelude.{Err}
use Rattle.std.specs.List.{flat_map}
use Rattle.ddt_lines.specs.Printing.{AppendsFront}
use Rattle.std.specs.Io.KnownBytes.{Appends}
use Rattle.ddt_plan_commands.specs.Ending.{written_ending, written_heading}
use Rattle.ddt_plan_commands.specs.Review.{is_different}
use Rattle.ddt_plan_commands.specs.Written.{written_change}
use Rattle.ddt_plan_commands.proofs.AnswerLemmas.{changes_of, lines_stop}
use Rattle.ddt_plan_commands.proofs.SinkLemmas.{change_writer}
use Rattle.ddt_plan_commands.proofs.WriterLemmas.{appends_both, front_after, front_before, front_behind, given_front, taken_text, text_front, whole_front}
use Rattle.ddt_plan_commands.proofs.diff_command.list_changes.Goals as goal

pub returns-in_err-print-clause-front : goal.returns-in_err-print-clause-front
returns-in_err-print-clause-front g c =
    let lines = c.args.lines.now in
    let v = c.in_ok-found.found in
    let is = c.in_ok-found.ensures.found in
    let all = is.effects in
    inr (
      _,
      (is_different v, (v, is, refl, (all.0, all.1, refl))),
      front_before _ _ (written_heading lines.form v) _
          (subst (AppendsFront _ _) (c.deref.ensures.value ∙ c.in_ok-heading.ensures) c.print.ensures.front),
    )

pub returns-in_err-changes_of_sorted-clause-front : goal.returns-in_err-changes_of_sorted-clause-front
returns-in_err-changes_of_sorted-clause-front g c =
    let lines = c.args.lines.now in
    let v = c.in_ok-found.found in
    let is = c.in_ok-found.ensures.found in
    let given = c.in_err-changes_of_sorted.ensures.given in
    let all = given.0 in
    inr (
      _,
      (
        is_different v,
        (v, is, refl, (all, changes_of c.args.reading c.in_ok-found.pair c.args.before.now c.args.after.now c.in_ok-found.ensures.sorted _ all c.everything.ensures given.1, refl)),
      ),
      front_behind _ _ _ (written_heading lines.form v) (flat_map (written_change lines.form) all) (written_ending lines.form v)
          (subst (Appends _ _) (c.deref.ensures.value ∙ c.in_ok-heading.ensures) c.in_ok-print.ensures.whole)
          (given_front _ (λ s. g.W.Write.contents s.out) (written_change lines.form) (λ s. s.form ≡ lines.form) (change_writer g.W.Write.contents lines.form)
          all (record lines { out = c.print.new.out }) c.changes_of_sorted.new.sink (Err c.in_err-changes_of_sorted.field-0.0) refl given.2),
    )

pub returns-in_err-changes_of_sorted-clause-refused : goal.returns-in_err-changes_of_sorted-clause-refused
returns-in_err-changes_of_sorted-clause-refused g c = search (rules, lines_stop c.in_err-changes_of_sorted.field-0.0)

pub returns-in_err-ending-clause-front : goal.returns-in_err-ending-clause-front
returns-in_err-ending-clause-front g c =
    let lines = c.args.lines.now in
    let v = c.in_ok-found.found in
    let is = c.in_ok-found.ensures.found in
    let given = c.in_ok-changes_of_sorted.ensures.given in
    let all = given.0 in
    inr (
      _,
      (
        is_different v,
        (v, is, refl, (all, changes_of c.args.reading c.in_ok-found.pair c.args.before.now c.args.after.now c.in_ok-found.ensures.sorted _ all c.everything.ensures given.1, refl)),
      ),
      front_behind _ _ _ (written_heading lines.form v) (flat_map (written_change lines.form) all) (written_ending lines.form v)
          (subst (Appends _ _) (c.deref.ensures.value ∙ c.in_ok-heading.ensures) c.in_ok-print.ensures.whole)
          (whole_front _ _ _ (taken_text _ (λ s. g.W.Write.contents s.out) (written_change lines.form) (λ s. s.form ≡ lines.form) (change_writer g.W.Write.contents lines.form)
          all (record lines { out = c.print.new.out }) c.changes_of_sorted.new.sink refl given.2)),
    )

pub returns-in_err-print-2-clause-front : goal.returns-in_err-print-2-clause-front
returns-in_err-print-2-clause-front g c =
    let lines = c.args.lines.now in
    let v = c.in_ok-found.found in
    let is = c.in_ok-found.ensures.found in
    let given = c.in_ok-changes_of_sorted.ensures.given in
    let all = given.0 in
    inr (
      _,
      (
        is_different v,
        (v, is, refl, (all, changes_of c.args.reading c.in_ok-found.pair c.args.before.now c.args.after.now c.in_ok-found.ensures.sorted _ all c.everything.ensures given.1, refl)),
      ),
      front_after _ _ _ (written_heading lines.form v) _
          (subst (Appends _ _) (c.deref.ensures.value ∙ c.in_ok-heading.ensures) c.in_ok-print.ensures.whole)
          (front_after _ _ _ (flat_map (written_change lines.form) all) (written_ending lines.form v)
          (taken_text _ (λ s. g.W.Write.contents s.out) (written_change lines.form) (λ s. s.form ≡ lines.form) (change_writer g.W.Write.contents lines.form)
          all (record lines { out = c.print.new.out }) c.changes_of_sorted.new.sink refl given.2)
          (subst (AppendsFront _ _) (c.deref-2.ensures.value ∙ c.in_ok-ending.ensures) c.print-2.ensures.front)),
    )

pub returns-clause-whole : goal.returns-clause-whole
returns-clause-whole g c =
    let lines = c.args.lines.now in
    let v = c.in_ok-found.found in
    let is = c.in_ok-found.ensures.found in
    let given = c.in_ok-changes_of_sorted.ensures.given in
    let all = given.0 in (
      _,
      (v, is, c.is_different.ensures, (all, changes_of c.args.reading c.in_ok-found.pair c.args.before.now c.args.after.now c.in_ok-found.ensures.sorted _ all c.everything.ensures given.1, refl)),
      appends_both _ _ _ (written_heading lines.form v) _
          (subst (Appends _ _) (c.deref.ensures.value ∙ c.in_ok-heading.ensures) c.in_ok-print.ensures.whole)
          (appends_both _ _ _ (flat_map (written_change lines.form) all) (written_ending lines.form v)
          (taken_text _ (λ s. g.W.Write.contents s.out) (written_change lines.form) (λ s. s.form ≡ lines.form) (change_writer g.W.Write.contents lines.form)
          all (record lines { out = c.print.new.out }) c.changes_of_sorted.new.sink refl given.2)
          (subst (Appends _ _) (c.deref-2.ensures.value ∙ c.in_ok-ending.ensures) c.in_ok-print-2.ensures.whole)),
    )

pub returns-clause-front : goal.returns-clause-front
returns-clause-front g c =
    let whole = returns-clause-whole g c in
    text_front _ _ _ (whole.0, (c.is_different.result, whole.1), whole.2)
