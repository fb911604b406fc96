-- What is kept of a record, and how long: its TTL is in minutes (RFC 8111, section 6.4), an end in milliseconds.
use Rattle.std.specs.Prelude.{ℕ, ◌+◌, ◌*◌, min, Bool, true, false, List}
use Rattle.ddt_path.specs.declared.locator.Locator.{Locator}
use Rattle.ddt_path.specs.declared.action.Action.{Action}
use Rattle.ddt_path.specs.declared.action.Action.TheVariants.{NodeReferral, MsReferral, MsAck, MsNotRegistered, DelegationHole, NotAuthoritative}
use Rattle.ddt_path.specs.declared.record.ReferralRecord.{ReferralRecord}
use Rattle.ddt_path.specs.Records.{positive_ttl, hole_ttl, not_authoritative_ttl}
use Rattle.ddt_cache.specs.declared.cache_entry.Entry.{Entry}
use Rattle.ddt_cache.specs.Moment.{minute}

-- whether an action names servers to ask: NODE-REFERRAL, MS-REFERRAL and MS-ACK
abbrev pub is_positive : Action → Bool
is_positive NodeReferral = true
is_positive MsReferral = true
is_positive MsAck = true
is_positive MsNotRegistered = false
is_positive DelegationHole = false
is_positive NotAuthoritative = false

-- whether an action says that nothing is there: MS-NOT-REGISTERED and DELEGATION-HOLE
abbrev pub is_negative : Action → Bool
is_negative NodeReferral = false
is_negative MsReferral = false
is_negative MsAck = false
is_negative MsNotRegistered = true
is_negative DelegationHole = true
is_negative NotAuthoritative = false

-- how many minutes a positive record is kept at most: a day, as honest servers allow
abbrev pub most_positive_minutes : ℕ
most_positive_minutes = positive_ttl

-- how many minutes a negative record is kept at most: a quarter of an hour, as honest servers allow for a hole
abbrev pub most_negative_minutes : ℕ
most_negative_minutes = hole_ttl

-- how many minutes a record of an action is kept at most
abbrev pub most_minutes : Action → ℕ
most_minutes NodeReferral = most_positive_minutes
most_minutes MsReferral = most_positive_minutes
most_minutes MsAck = most_positive_minutes
most_minutes MsNotRegistered = most_negative_minutes
most_minutes DelegationHole = most_negative_minutes
most_minutes NotAuthoritative = not_authoritative_ttl

-- the end of a record that is saved at a time
abbrev pub end_of : ℕ → ReferralRecord → ℕ
end_of time r = time + min r.ttl (most_minutes r.action) * minute

-- the entry of a record that is saved at a time
abbrev pub entry_of : ℕ → ReferralRecord → Entry
entry_of time r = record { action = r.action; servers = r.servers; end = end_of time r }

-- the entry of the root, which never ends
abbrev pub root_entry : List Locator → Entry
root_entry roots = record { action = NodeReferral; servers = roots; end = 18446744073709551615 }
