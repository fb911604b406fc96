-- The line of what is found of an ITR's question.
use Rattle.std.specs.Prelude.{ℕ, List, ◌++◌, codes, decimal, Result, Ok, Err}
use Rattle.ddt_path.specs.declared.record.ReferralRecord.{ReferralRecord}
use Rattle.ddt_path.specs.declared.xeid.Xeid.{Xeid}
use Rattle.ddt_text.specs.Written.{written_locator, written_prefix, written_xeid}
use Rattle.ddt_wire.specs.declared.negative_reply.NegativeReply.{NegativeReply}
use Rattle.ddt_wire.specs.declared.negative_reply.ReplyFault.{ReplyFault}
use Rattle.ddt_wire.specs.NegativeReply.{reply_in}
use Rattle.ddt_asking.specs.declared.verdict.Finding.{Finding}
use Rattle.ddt_asking.specs.declared.verdict.Verdict.{Verdict}
use Rattle.ddt_asking.specs.declared.verdict.Verdict.TheVariants.{Agrees, Differs, Silent, NotJudged}
use Rattle.ddt_asking.specs.Lines.{front_text}

-- what a negative Map-Reply says: its prefix and its TTL in minutes
abbrev pub negative_text : NegativeReply → List ℕ
negative_text v = codes "negative " ++ written_prefix v.prefix ++ codes " ttl " ++ decimal v.ttl

-- what bytes say, or that they are no such reply
abbrev pub got_text : Result NegativeReply ReplyFault → List ℕ
got_text (Ok v) = negative_text v
got_text (Err fault) = codes "no negative Map-Reply"

-- what comes beside what is demanded: the action, the prefix and the TTL of the record
abbrev pub itr_difference_text : ReferralRecord → List ℕ → List ℕ
itr_difference_text demanded reply =
    codes " differs: it gives " ++ got_text (reply_in reply) ++ codes ", the register says "
    ++ front_text demanded.action demanded.prefix demanded.ttl

abbrev pub itr_verdict_text : ReferralRecord → Verdict → List ℕ
itr_verdict_text demanded Agrees = codes " agrees"
itr_verdict_text demanded (Differs reply) = itr_difference_text demanded reply
itr_verdict_text demanded Silent = codes " silent"
itr_verdict_text demanded NotJudged = codes " not judged"

-- the identifier, the Map-Resolver's address, and what comes of the question
abbrev pub itr_finding_text : Xeid → Finding → List ℕ
itr_finding_text x f =
    written_xeid x ++ codes " " ++ written_locator f.question.to ++ itr_verdict_text f.question.demanded f.verdict
