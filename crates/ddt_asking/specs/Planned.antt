-- How much is asked, before anything is.
use Rattle.std.specs.Prelude.{ℕ, ◌*◌, ◌/◌, ◌-◌, ◌^◌, min, List, ◌++◌, codes, decimal}
use Rattle.ddt_path.specs.declared.action.Action.{Action}
use Rattle.ddt_path.specs.declared.action.Action.TheVariants.{NodeReferral, MsReferral, MsAck, MsNotRegistered, DelegationHole, NotAuthoritative}
use Rattle.ddt_asking.specs.declared.question_counts.QuestionCounts.{QuestionCounts}
use Rattle.ddt_asking.specs.declared.question.Question.{Question}
use Rattle.ddt_asking.specs.Asked.{pause_of}
use Rattle.ddt_asking.specs.Counted.{one_more}

-- the requests that go on to an ETR, with one more question whose honest answer has this action: by MS-ACK a Map-Server
-- says that it forwards the request
abbrev pub forwarded_with : ℕ → Action → ℕ
forwarded_with n MsAck = one_more n
forwarded_with n NodeReferral = n
forwarded_with n MsReferral = n
forwarded_with n MsNotRegistered = n
forwarded_with n DelegationHole = n
forwarded_with n NotAuthoritative = n

-- the counts with one more question
abbrev pub planned : QuestionCounts → Question → QuestionCounts
planned n q = record {
  questions = one_more n.questions;
  forwarded = forwarded_with n.forwarded q.demanded.action;
}

-- how many seconds so many questions take at least, at a rate of so many a second
abbrev pub seconds_at_least : ℕ → ℕ → ℕ
seconds_at_least questions rate = min (questions * pause_of rate) (2 ^ 64 - 1) / 1000

-- the line of the counts, without the line feed that ends it
abbrev pub planned_text : QuestionCounts → ℕ → List ℕ
planned_text n rate =
    decimal n.questions ++ codes " questions, " ++ decimal (seconds_at_least n.questions rate)
    ++ codes " seconds at least; ETRs of registered sites get " ++ decimal n.forwarded ++ codes " of them"
