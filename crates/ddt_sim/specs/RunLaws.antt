-- The laws that the contract of a run of a schedule rests on.
use Rattle.ddt_register.specs.declared.register.Register.{Register}
use Rattle.ddt_check.specs.Rules.{IsAccepted}
use Rattle.ddt_check.specs.laws.Statements.{AnswersCover, AnswersHaveServers, AnswersCanBeSent, FinalAnswersAreTheAssignment, NegativesHoldOfAll}
use Rattle.ddt_wire.specs.laws.Statements.{MessagesAreRead, RecordsComeBack}
use Rattle.ddt_ecm.specs.laws.Statements.{WrittenSpells}
use Rattle.ddt_sim.specs.Sound.{StepsKeepSoundness, TimeKeepsSoundness}

-- A sound resolver stays sound, messages are read as they are written, the answers of honest servers are such that they
-- can be written, and those that end a lookup are the assignment, of all that a negative one covers.
pub record LawsOfRuns : Type 0 where
  pub keeps : StepsKeepSoundness
  pub time : TimeKeepsSoundness
  pub messages : MessagesAreRead
  pub back : RecordsComeBack
  pub cover : (r : Register) → IsAccepted r → AnswersCover r
  pub servers : (r : Register) → IsAccepted r → AnswersHaveServers r
  pub sendable : (r : Register) → IsAccepted r → AnswersCanBeSent r
  pub written : WrittenSpells
  pub decided : (r : Register) → IsAccepted r → FinalAnswersAreTheAssignment r
  pub negatives : (r : Register) → IsAccepted r → NegativesHoldOfAll r
