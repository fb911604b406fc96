-- The record that a decision leads to (RFC 8111, sections 6.1, 7.1 and 7.2).
use Rattle.std.specs.Prelude.{ℕ, false, List, Option, Some, None}
use Rattle.ddt_path.specs.declared.action.Action.{Action}
use Rattle.ddt_path.specs.declared.locator.Locator.{Locator}
use Rattle.ddt_path.specs.declared.record.ReferralRecord.{ReferralRecord}
use Rattle.ddt_path.specs.declared.record.Outcome.TheVariants as outcome
use Rattle.ddt_path.specs.Records.{referral, record_of, not_authoritative}
use Rattle.ddt_node.specs.declared.decision.Decision.{Decision}
use Rattle.ddt_node.specs.declared.decision.Decision.TheVariants.{Child, Registered, NotRegistered, Hole, Outside}

-- a record with a complete referral set
abbrev pub whole_record : Action → List ℕ → ℕ → List Locator → ReferralRecord
whole_record action_ prefix_ ttl_ servers_ =
    record { action = action_; prefix = prefix_; ttl = ttl_; incomplete = false; servers = servers_ }

-- of servers with these locators, for an identifier
abbrev pub record_by : List Locator → List ℕ → Decision → ReferralRecord
record_by servers x (Child prefix set) = referral set.now.role prefix set.now.locators
record_by servers x (Registered prefix etr) = record_of (outcome.Registered prefix servers)
record_by servers x (NotRegistered prefix) = record_of (outcome.NotRegistered prefix servers)
record_by servers x (Hole prefix) = record_of (outcome.Hole prefix)
record_by servers x Outside = not_authoritative x

-- the ETR to which a request is forwarded
abbrev pub etr_by : Decision → Option Locator
etr_by (Registered prefix etr) = Some etr
etr_by (Child prefix set) = None
etr_by (NotRegistered prefix) = None
etr_by (Hole prefix) = None
etr_by Outside = None
