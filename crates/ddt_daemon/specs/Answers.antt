-- How a server has answered, as it is counted. A count that is full stays so.
use Rattle.std.specs.Prelude.{ℕ, Bool, true, false, List, take, Result, Ok, Err, Option, Some, None}
use Rattle.ddt_path.specs.declared.action.Action.{Action}
use Rattle.ddt_path.specs.declared.action.Action.TheVariants.{NodeReferral, MsReferral, MsAck, MsNotRegistered, DelegationHole, NotAuthoritative}
use Rattle.ddt_wire.specs.declared.fault.ReferralFault.{ReferralFault}
use Rattle.ddt_wire.specs.declared.message_type.MessageType.TheVariants.{Encapsulated}
use Rattle.ddt_wire.specs.MessageType.{is_of}
use Rattle.ddt_wire.specs.Referral.{Message, message_in}
use Rattle.ddt_sockets.specs.declared.wire_calls.NetFault.{NetFault}
use Rattle.ddt_sockets.specs.declared.wire_calls.Packet.{Packet}
use Rattle.ddt_daemon.specs.declared.answers.AnswerCounts.{AnswerCounts}
use Rattle.ddt_daemon.specs.Counted.{plus}

-- nothing is counted yet
abbrev pub none_answered : AnswerCounts
none_answered = record {
  not_encapsulated = 0;
  node_referral = 0;
  ms_referral = 0;
  ms_ack = 0;
  not_registered = 0;
  hole = 0;
  not_authoritative = 0;
}

-- one more Map-Referral of this action
abbrev pub with_action : AnswerCounts → Action → AnswerCounts
with_action c NodeReferral = record c { node_referral = plus c.node_referral 1 }
with_action c MsReferral = record c { ms_referral = plus c.ms_referral 1 }
with_action c MsAck = record c { ms_ack = plus c.ms_ack 1 }
with_action c MsNotRegistered = record c { not_registered = plus c.not_registered 1 }
with_action c DelegationHole = record c { hole = plus c.hole 1 }
with_action c NotAuthoritative = record c { not_authoritative = plus c.not_authoritative 1 }

-- one more datagram that came: only one that is no Encapsulated Control Message is counted
abbrev pub with_sort : AnswerCounts → Bool → AnswerCounts
with_sort c true = c
with_sort c false = record c { not_encapsulated = plus c.not_encapsulated 1 }

abbrev pub with_came : AnswerCounts → List ℕ → AnswerCounts
with_came c bytes = with_sort c (is_of Encapsulated bytes)

-- what `receive` has given, and left in the buffer
abbrev pub with_given : AnswerCounts → Result (Option Packet) NetFault → List ℕ → AnswerCounts
with_given c (Ok (Some p)) buffer = with_came c (take p.len buffer)
with_given c (Ok None) buffer = c
with_given c (Err fault) buffer = c

-- one more datagram that goes out: only a Map-Referral is counted
abbrev pub with_message : AnswerCounts → Result Message ReferralFault → AnswerCounts
with_message c (Ok m) = with_action c m.action
with_message c (Err fault) = c

abbrev pub with_answer : AnswerCounts → List ℕ → AnswerCounts
with_answer c bytes = with_message c (message_in bytes)
