use Rattle.std.proofs.Common.{◌≡◌, ◌∙◌, ℕ, Bool, List, ap, inr, refl, sym, subst, rules}
use Rattle.std.specs.Prelude.{◌||◌}
use Rattle.ddt_plan.specs.declared.counts.ChangeCounts.{ChangeCounts}
use Rattle.ddt_plan.specs.Changes.{AreChanges}
use Rattle.ddt_plan.specs.Groups.{AreGroupChanges}
use Rattle.ddt_plan_commands.specs.Counted.{no_changes, with_changes}
use Rattle.ddt_plan_commands.specs.Written.{differs, has_some}
use Rattle.ddt_plan_commands.proofs.AnswerLemmas.{all_counted}
use Rattle.ddt_plan_commands.proofs.SinkLemmas.{taken_change_counts}
use Rattle.ddt_plan_commands.proofs.WriterLemmas.{text_front}
use Rattle.ddt_plan_commands.proofs.diff_command.count_changes.Goals as goal

pub returns-in_err-print-clause-front : goal.returns-in_err-print-clause-front
returns-in_err-print-clause-front g c =
    let given = c.in_ok-changes.ensures in
    let all = given.0 in
    let slice = c.as_slice-groups in
    let none : c.default-counts.result ≡ no_changes = search rules in
    let counted = all_counted c.args.form c.changes.new.sink all slice.result.now
    (taken_change_counts all c.default-counts.result c.changes.new.sink given.2 ∙ ap (λ (n : ChangeCounts). with_changes n all) none) in
    inr (
      _,
      (
        differs all slice.result.now,
        (
          all,
          subst (λ (p : List ℕ). AreChanges c.args.reading c.args.before.now c.args.after.now p all) c.everything.ensures given.1,
          (
            slice.result.now,
            subst (AreGroupChanges c.args.before.now c.args.after.now) (sym slice.ensures.value) c.in_ok-groups.ensures,
            refl,
            c.deref.ensures.value ∙ (c.in_ok-change_counts_lines.ensures ∙ counted.text),
          ),
        ),
      ),
      c.print.ensures.front,
    )

pub returns-clause-whole : goal.returns-clause-whole
returns-clause-whole g c =
    let given = c.in_ok-changes.ensures in
    let all = given.0 in
    let slice = c.as_slice-groups in
    let none : c.default-counts.result ≡ no_changes = search rules in
    let counted = all_counted c.args.form c.changes.new.sink all slice.result.now
    (taken_change_counts all c.default-counts.result c.changes.new.sink given.2 ∙ ap (λ (n : ChangeCounts). with_changes n all) none) in (
      _,
      (
        all,
        subst (λ (p : List ℕ). AreChanges c.args.reading c.args.before.now c.args.after.now p all) c.everything.ensures given.1,
        (
          slice.result.now,
          subst (AreGroupChanges c.args.before.now c.args.after.now) (sym slice.ensures.value) c.in_ok-groups.ensures,
          c.are_different.ensures ∙ (ap (λ (b : Bool). b || has_some slice.result.now) c.has_counted.ensures ∙ counted.differs_so),
          c.deref.ensures.value ∙ (c.in_ok-change_counts_lines.ensures ∙ counted.text),
        ),
      ),
      c.in_ok-print.ensures.whole,
    )

pub returns-clause-front : goal.returns-clause-front
returns-clause-front g c =
    let whole = returns-clause-whole g c in
    text_front _ _ _ (whole.0, (c.are_different.result, whole.1), whole.2)
