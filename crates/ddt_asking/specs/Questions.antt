-- The questions that a register has for an identifier: each server from the root on, and the record that an honest one
-- answers (RFC 8111, sections 6.1 and 7.3).
use Rattle.std.specs.Prelude.{ℕ, ◌≡◌, Bool, true, false, List, [], ◌++◌, map}
use Rattle.ddt_path.specs.declared.locator.Locator.{Locator}
use Rattle.ddt_path.specs.declared.action.Action.{Action}
use Rattle.ddt_path.specs.declared.action.Action.TheVariants.{NodeReferral, MsReferral, MsAck, MsNotRegistered, DelegationHole, NotAuthoritative}
use Rattle.ddt_path.specs.declared.record.Role.TheVariants.{Node}
use Rattle.ddt_path.specs.declared.record.ReferralRecord.{ReferralRecord}
use Rattle.ddt_path.specs.Records.{referral}
use Rattle.ddt_register.specs.declared.register.Register.{Register}
use Rattle.ddt_check.specs.Zones.{roots, first_locator}
use Rattle.ddt_check.specs.Says.{says}
use Rattle.ddt_asking.specs.declared.question.Question.{Question}

-- whether an action refers to other servers
abbrev pub refers : Action → Bool
refers NodeReferral = true
refers MsReferral = true
refers MsAck = false
refers MsNotRegistered = false
refers DelegationHole = false
refers NotAuthoritative = false

-- the question to a server, with what an honest server at its locator says
abbrev pub question_to : Register → List ℕ → Locator → Question
question_to r x l = record { to = l; demanded = says r l x }

-- the referral to the root's servers, of which everything begins
abbrev pub root_referral : Register → ReferralRecord
root_referral r = referral Node [] (roots r)

-- The questions behind a record. Where it refers, they go to each server of its set, in the set's order, and then come
-- those behind what the first of these has to say; the others have to say the same. Behind any other record are none.
pub data AreBehind (r : Register) (x : List ℕ) : ReferralRecord → List Question → Type 0 where
  none_more : (rec : ReferralRecord) → refers rec.action ≡ false → AreBehind r x rec []
  each_server : (rec : ReferralRecord) (later : List Question) → refers rec.action ≡ true
      → AreBehind r x (says r (first_locator rec.servers) x) later
      → AreBehind r x rec (map (question_to r x) rec.servers ++ later)

-- the questions for an identifier: those behind the referral to the root
abbrev pub AreQuestions : Register → List ℕ → List Question → Type 0
AreQuestions r x questions = AreBehind r x (root_referral r) questions
