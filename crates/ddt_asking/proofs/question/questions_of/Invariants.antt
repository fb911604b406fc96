use Rattle.std.proofs.Common.{◌≡◌, true, List, ◌++◌, length}
use Rattle.ddt_path.specs.Path.{xeid_path}
use Rattle.ddt_asking.specs.declared.question.Question.{Question}
use Rattle.ddt_asking.specs.Questions.{refers, root_referral, AreBehind}
use Rattle.ddt_asking.proofs.QuestionLemmas.{IsLed, steps_left}
use Rattle.ddt_asking.proofs.question.questions_of.Given as goal

-- The questions so far, with those behind the referral, are all; the servers are those of a zone.
abbrev pub invariant-loop-x : goal.invariant-loop-x
invariant-loop-x l = record {
  behind : (later : List Question) → AreBehind l.accepted (xeid_path l.x) l.referral later
      → AreBehind l.accepted (xeid_path l.x) (root_referral l.accepted) (l.questions.items ++ later);
  led : refers l.referral.action ≡ true → IsLed l.accepted (xeid_path l.x) l.referral;
}

abbrev pub decreases-loop-x : goal.decreases-loop-x
decreases-loop-x l = steps_left (length (xeid_path l.x)) l.referral
