-- The exit status of a command, as a number.
use Rattle.std.specs.Prelude.{ℕ, Bool, true, false}
use Rattle.ddt_commands.specs.declared.status.Status.{Status}
use Rattle.ddt_commands.specs.declared.status.Status.TheVariants.{Answered, Incomplete, Refused, BadWords, Unprinted}

-- 0 where all that was asked is answered; 2 where the words fit no command; 1 for an identifier without an outcome, a
-- refusal, or a writer that failed.
abbrev pub number_of : Status → ℕ
number_of Answered = 0
number_of Incomplete = 1
number_of Refused = 1
number_of BadWords = 2
number_of Unprinted = 1

-- how a command ends whose answer is complete, and whose answer isn't
abbrev pub answer_status : Bool → Status
answer_status true = Answered
answer_status false = Incomplete
