use Rattle.ddt_path.specs.Path.{xeid_path}
use Rattle.ddt_asking.specs.Changed.{no_question}
use Rattle.ddt_asking.proofs.ChangedLemmas.{same_so_far, another_so_far}
use Rattle.ddt_asking.proofs.questions_of_change.of_other_records.Goals as goal
use Rattle.ddt_asking.proofs.questions_of_change.of_other_records.Goals.{then-not-is_the_same+in_ok-push, else-not-is_the_same}

pub loop-question-init : goal.loop-question-init
loop-question-init c = rw c.new-changed.ensures.items no_question

pub loop-question-preserved : goal.loop-question-preserved
loop-question-preserved c =
    let r = c.args.before.now in
    let x = xeid_path c.args.x in
    let questions = c.args.questions.now in
    let so_far = c.loop-question.changed.items in
    let i = c.loop-question.question-index in
    let q = c.question-item.result in
    elim c.if-not-is_the_same.branch [
      | then-not-is_the_same+in_ok-push w ↦ rw (w.changed-is, w.in_ok-push.ensures.items)
          (another_so_far r x questions so_far i q c.loop-question-test.true c.question-item.is c.is_the_same.result
          c.is_the_same.ensures w.if-not-is_the_same.true c.loop-question.invariant)
      | else-not-is_the_same w ↦ rw w.changed-is
          (same_so_far r x questions so_far i q c.loop-question-test.true c.question-item.is c.is_the_same.result
          c.is_the_same.ensures w.if-not-is_the_same.false c.loop-question.invariant)
    ]
