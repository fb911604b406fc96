-- The line of a finding.
use Rattle.std.specs.Prelude.{ℕ, List, ◌++◌, codes, decimal, Result, Ok, Err}
use Rattle.ddt_path.specs.declared.action.Action.{Action}
use Rattle.ddt_path.specs.declared.record.ReferralRecord.{ReferralRecord}
use Rattle.ddt_path.specs.declared.xeid.Xeid.{Xeid}
use Rattle.ddt_path.specs.Actions.{name}
use Rattle.ddt_text.specs.Written.{written_locator, written_prefix, written_xeid}
use Rattle.ddt_wire.specs.declared.fault.ReferralFault.{ReferralFault}
use Rattle.ddt_wire.specs.Referral.{Message, message_of, message_in}
use Rattle.ddt_lines.specs.Lines.{spaced, whole_text}
use Rattle.ddt_asking.specs.declared.verdict.Finding.{Finding}
use Rattle.ddt_asking.specs.declared.verdict.Verdict.{Verdict}
use Rattle.ddt_asking.specs.declared.verdict.Verdict.TheVariants.{Agrees, Differs, Silent, NotJudged}

-- an action, a prefix and a TTL in minutes
abbrev pub front_text : Action → List ℕ → ℕ → List ℕ
front_text action prefix ttl = name action ++ codes " " ++ written_prefix prefix ++ codes " ttl " ++ decimal ttl

-- what a Map-Referral says: action, prefix, TTL in minutes, Incomplete bit, and all its locators
abbrev pub said_text : Message → List ℕ
said_text v = front_text v.action v.prefix v.ttl ++ whole_text v.incomplete ++ spaced v.locators

-- what bytes say, or that they are no Map-Referral
abbrev pub read_text : Result Message ReferralFault → List ℕ
read_text (Ok v) = said_text v
read_text (Err fault) = codes "no Map-Referral"

-- what a reply says beside what is demanded
abbrev pub difference_text : ReferralRecord → List ℕ → List ℕ
difference_text demanded reply =
    codes " differs: it says " ++ read_text (message_in reply) ++ codes ", the register says "
    ++ said_text (message_of 0 demanded)

-- what comes of a question
abbrev pub verdict_text : ReferralRecord → Verdict → List ℕ
verdict_text demanded Agrees = codes " agrees"
verdict_text demanded (Differs reply) = difference_text demanded reply
verdict_text demanded Silent = codes " silent"
verdict_text demanded NotJudged = codes " not judged"

-- the identifier, the locator of the server that was asked, and what comes of it
abbrev pub finding_text : Xeid → Finding → List ℕ
finding_text x f =
    written_xeid x ++ codes " " ++ written_locator f.question.to ++ verdict_text f.question.demanded f.verdict
