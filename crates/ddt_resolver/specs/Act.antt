-- The resolver's step on a datagram: what it does with a reply that it takes, by the record's action (RFC 8111,
-- sections 6.1 and 7.3).
use Rattle.std.specs.Prelude.{ℕ, ◌≡◌, ◌+◌, ◌<◌, ◌≤◌, IsTrue, false, List, length, Some}
use Rattle.ddt_cache.specs.Saved.{is_added}
use Rattle.ddt_path.specs.declared.locator.Locator.{Locator}
use Rattle.ddt_path.specs.declared.action.Action.TheVariants.{MsAck, MsNotRegistered, DelegationHole, NotAuthoritative}
use Rattle.ddt_path.specs.declared.record.ReferralRecord.{ReferralRecord}
use Rattle.ddt_resolver.specs.declared.pending.Pending.{Pending}
use Rattle.ddt_resolver.specs.declared.results.Ignored.{Ignored as Reason}
use Rattle.ddt_resolver.specs.declared.results.Why.TheVariants.{Loop, NotAuthoritative as NobodyInCharge, Exhausted}
use Rattle.ddt_resolver.specs.declared.results.Heard.{Heard}
use Rattle.ddt_resolver.specs.declared.results.Heard.TheVariants.{Ignored, Followed, Answer, GaveUp}
use Rattle.ddt_resolver.specs.State.{State, last_nonce, request_sent, dropped, stored, forgotten, request, referred, passed_on, started_over}
use Rattle.ddt_path.specs.Actions.{IsReferral}
use Rattle.ddt_resolver.specs.Records.{IsBelow, outcome_of}
use Rattle.ddt_resolver.specs.MatchReply.{Ignores, IsTaken}

-- The lookup may start over: it started at the remembered entry of this prefix, and hasn't started over before.
pub record MayStartOver (l : Pending) (p : List ℕ) : Type 0 where
  pub start : l.start_entry ≡ Some p
  pub first : l.restarted ≡ false

-- The record makes the lookup go on: a referral below the saved prefix, an MS-NOT-REGISTERED with a server left in the
-- set, or NOT-AUTHORITATIVE where the lookup may start over.
pub data GoesOn (l : Pending) (rec : ReferralRecord) : Type 0 where
  by_referral : IsReferral rec.action → IsBelow l.last_referral rec.prefix → GoesOn l rec
  to_next : rec.action ≡ MsNotRegistered → l.server_index + 1 < length l.servers → GoesOn l rec
  from_root : (p : List ℕ) → rec.action ≡ NotAuthoritative → MayStartOver l p → GoesOn l rec

-- The nine cases. `loops`: a referral that isn't below the saved prefix. `refers`: another referral is saved and
-- followed. `acknowledges`, `closes`: MS-ACK and DELEGATION-HOLE are saved and answered. `passes_on`: an
-- MS-NOT-REGISTERED is kept and the next server asked. `concludes`: that of the last server is saved and answered.
-- `starts_over`: at a server that isn't in charge, the entry that the lookup started at is forgotten, and the root
-- asked. `nobody`: the lookup may not start over. `used_up`: it would go on, but no nonce is left.
pub data Act (s : State) (t : ℕ) (l : Pending) (rec : ReferralRecord) (new : State) (heard : Heard) : Type 0 where
  loops : IsReferral rec.action → (IsBelow l.last_referral rec.prefix → ⊥)
      → new ≡ dropped s t → heard ≡ GaveUp t Loop → Act s t l rec new heard
  refers : IsReferral rec.action → IsBelow l.last_referral rec.prefix → s.next < last_nonce
      → new ≡ request_sent (stored s rec) t (referred l rec) → heard ≡ Followed t (request s (referred l rec))
      → Act s t l rec new heard
  acknowledges : rec.action ≡ MsAck
      → new ≡ dropped (stored s rec) t → heard ≡ Answer t (outcome_of rec) → Act s t l rec new heard
  closes : rec.action ≡ DelegationHole
      → new ≡ dropped (stored s rec) t → heard ≡ Answer t (outcome_of rec) → Act s t l rec new heard
  passes_on : rec.action ≡ MsNotRegistered → l.server_index + 1 < length l.servers → s.next < last_nonce
      → new ≡ request_sent s t (passed_on l rec) → heard ≡ Followed t (request s (passed_on l rec))
      → Act s t l rec new heard
  concludes : rec.action ≡ MsNotRegistered → length l.servers ≤ l.server_index + 1
      → new ≡ dropped (stored s rec) t → heard ≡ Answer t (outcome_of rec) → Act s t l rec new heard
  starts_over : (p : List ℕ) → rec.action ≡ NotAuthoritative → MayStartOver l p → s.next < last_nonce
      → new ≡ request_sent (forgotten s p) t (started_over s l) → heard ≡ Followed t (request s (started_over s l))
      → Act s t l rec new heard
  nobody : rec.action ≡ NotAuthoritative → ((p : List ℕ) → MayStartOver l p → ⊥)
      → new ≡ dropped s t → heard ≡ GaveUp t NobodyInCharge → Act s t l rec new heard
  used_up : GoesOn l rec → s.next ≡ last_nonce
      → new ≡ dropped s t → heard ≡ GaveUp t Exhausted → Act s t l rec new heard

-- the step: a datagram is ignored, or taken and acted on
pub data HearStep (s : State) (source : Locator) (bytes : List ℕ) (new : State) (heard : Heard) : Type 0 where
  ignored : (why : Reason) → Ignores s source bytes why → new ≡ s → heard ≡ Ignored why → HearStep s source bytes new
      heard
  taken : (t : ℕ) (l : Pending) (rec : ReferralRecord) → IsTaken s source bytes t l rec
      → Act s t l rec new heard → HearStep s source bytes new heard

-- a reply whose record is saved or makes the lookup send
pub data Saves (s : State) (l : Pending) (rec : ReferralRecord) : Type 0 where
  sends : GoesOn l rec → s.next < last_nonce → Saves s l rec
  acknowledged : rec.action ≡ MsAck → IsTrue (is_added s.known.live rec) → Saves s l rec
  closed : rec.action ≡ DelegationHole → IsTrue (is_added s.known.live rec) → Saves s l rec
  concluded : rec.action ≡ MsNotRegistered → length l.servers ≤ l.server_index + 1 → IsTrue (is_added s.known.live rec)
      → Saves s l rec

-- the step would send a request or save a record, and so wants memory
pub record HearWants (s : State) (source : Locator) (bytes : List ℕ) : Type 0 where
  pub ticket : ℕ
  pub lookup : Pending
  pub told : ReferralRecord
  pub taken : IsTaken s source bytes ticket lookup told
  pub saves : Saves s lookup told
