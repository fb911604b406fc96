-- The record that a server sends for each case (RFC 8111, sections 6.1, 7.1 and 7.2).
use Rattle.std.specs.Prelude.{ℕ, true, false, List, []}
use Rattle.ddt_path.specs.declared.record.Role.{Role}
use Rattle.ddt_path.specs.declared.record.Role.TheVariants.{Node, Ms}
use Rattle.ddt_path.specs.declared.action.Action.{Action}
use Rattle.ddt_path.specs.declared.action.Action.TheVariants.{NodeReferral, MsReferral, MsAck, MsNotRegistered, DelegationHole, NotAuthoritative}
use Rattle.ddt_path.specs.declared.record.Outcome.{Outcome}
use Rattle.ddt_path.specs.declared.record.Outcome.TheVariants.{Registered, NotRegistered, Hole}
use Rattle.ddt_path.specs.declared.record.ReferralRecord.{ReferralRecord}
use Rattle.ddt_path.specs.declared.locator.Locator.{Locator}

-- The TTL of NODE-REFERRAL, MS-REFERRAL and MS-ACK, in minutes, as the pseudocode of RFC 8111, section 8.3, has it.
abbrev pub positive_ttl : ℕ
positive_ttl = 1440

-- The TTL of a DELEGATION-HOLE, in minutes (RFC 8111, section 8.3).
abbrev pub hole_ttl : ℕ
hole_ttl = 15

-- The TTL of MS-NOT-REGISTERED, in minutes (RFC 8111, section 8.3).
abbrev pub not_registered_ttl : ℕ
not_registered_ttl = 1

-- The TTL of NOT-AUTHORITATIVE, in minutes: 0, so that it is never cached (RFC 8111, section 8.3).
abbrev pub not_authoritative_ttl : ℕ
not_authoritative_ttl = 0

-- DDT nodes are referred to by NODE-REFERRAL, Map-Servers by MS-REFERRAL (RFC 8111, section 6.1).
abbrev pub referral_action : Role → Action
referral_action Node = NodeReferral
referral_action Ms = MsReferral

-- the referral to the servers of a prefix
abbrev pub referral : Role → List ℕ → List Locator → ReferralRecord
referral role prefix servers = record {
  action = referral_action role;
  prefix = prefix;
  ttl = positive_ttl;
  incomplete = false;
  servers = servers;
}

-- the record of an outcome
abbrev pub record_of : Outcome → ReferralRecord
record_of (Registered prefix servers) = record {
  action = MsAck;
  prefix = prefix;
  ttl = positive_ttl;
  incomplete = false;
  servers = servers;
}
record_of (NotRegistered prefix servers) = record {
  action = MsNotRegistered;
  prefix = prefix;
  ttl = not_registered_ttl;
  incomplete = false;
  servers = servers;
}
record_of (Hole prefix) = record {
  action = DelegationHole;
  prefix = prefix;
  ttl = hole_ttl;
  incomplete = false;
  servers = [];
}

-- the answer of a server that is in charge of no prefix of the identifier: the whole identifier, not to be kept
abbrev pub not_authoritative : List ℕ → ReferralRecord
not_authoritative x = record {
  action = NotAuthoritative;
  prefix = x;
  ttl = not_authoritative_ttl;
  incomplete = true;
  servers = [];
}
