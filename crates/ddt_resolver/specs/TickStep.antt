-- The resolver's step on a tick: the lookup that waits longest, of those whose deadline has come, goes on or ends. And
-- its step where a lookup is hastened: the lookup whose last request has this nonce does.
use Rattle.std.specs.Prelude.{ℕ, ◌≡◌, ◌+◌, ◌<◌, ◌≤◌, ◌⊎◌, true, false, length, None, Some}
use Rattle.std.specs.FinMap.{get}
use Rattle.ddt_path.specs.declared.record.ReferralRecord.{ReferralRecord}
use Rattle.ddt_path.specs.declared.record.Outcome.TheVariants.{NotRegistered}
use Rattle.ddt_resolver.specs.declared.pending.Pending.{Pending}
use Rattle.ddt_resolver.specs.declared.results.Why.TheVariants.{NoReply, Exhausted}
use Rattle.ddt_resolver.specs.declared.results.Ticked.{Ticked}
use Rattle.ddt_resolver.specs.declared.results.Ticked.TheVariants.{Nothing, Sent, Answer, GaveUp}
use Rattle.ddt_resolver.specs.Table.{IsUnknown}
use Rattle.ddt_resolver.specs.State.{State, last_nonce, request_sent, dropped, request, tried_again, at_next}

-- a pending lookup whose deadline has come, of these the one whose last request has the least nonce
pub record IsDue (s : State) (t : ℕ) (l : Pending) : Type 0 where
  pub is_pending : get s.pending t ≡ Some l
  pub over : l.deadline ≤ s.known.time
  pub least : (u : ℕ) (m : Pending) → get s.pending u ≡ Some m → m.deadline ≤ s.known.time → l.nonce ≤ m.nonce

-- it has another try, at the same server or at the next one
abbrev pub HasTry : Pending → Type 0
HasTry l = (l.is_retry ≡ false) ⊎ (l.server_index + 1 < length l.servers)

-- How a pending lookup goes on or ends without a reply. The five cases. `again`: the same server gets a second request.
-- `next_place`: after the second the next server gets a first. `answered`: no server is left, and one of the set has
-- said that the site isn't registered. `no_reply`: none has. `used_up`: it has another try, but no nonce is left.
-- Nothing is saved.
pub data GoOn (s : State) (t : ℕ) (l : Pending) (new : State) (ticked : Ticked) : Type 0 where
  again : l.is_retry ≡ false → s.next < last_nonce
      → new ≡ request_sent s t (tried_again l) → ticked ≡ Sent t (request s (tried_again l)) → GoOn s t l new ticked
  next_place : l.is_retry ≡ true → l.server_index + 1 < length l.servers → s.next < last_nonce
      → new ≡ request_sent s t (at_next l) → ticked ≡ Sent t (request s (at_next l)) → GoOn s t l new ticked
  answered : (rec : ReferralRecord) → l.is_retry ≡ true → length l.servers ≤ l.server_index + 1
      → l.last_not_registered ≡ Some rec
      → new ≡ dropped s t → ticked ≡ Answer t (NotRegistered rec.prefix rec.servers) → GoOn s t l new ticked
  no_reply : l.is_retry ≡ true → length l.servers ≤ l.server_index + 1 → l.last_not_registered ≡ None
      → new ≡ dropped s t → ticked ≡ GaveUp t NoReply → GoOn s t l new ticked
  used_up : HasTry l → s.next ≡ last_nonce
      → new ≡ dropped s t → ticked ≡ GaveUp t Exhausted → GoOn s t l new ticked

-- the step: no deadline has come, or the lookup that is due goes on or ends
pub data TickStep (s : State) (new : State) (ticked : Ticked) : Type 0 where
  nothing : ((t : ℕ) (l : Pending) → get s.pending t ≡ Some l → s.known.time < l.deadline)
      → new ≡ s → ticked ≡ Nothing → TickStep s new ticked
  due : (t : ℕ) (l : Pending) → IsDue s t l → GoOn s t l new ticked → TickStep s new ticked

-- The step where the lookup whose last request has this nonce is hastened. `unknown`: no pending lookup has the nonce.
-- `hastened`: its lookup goes on or ends just as one that is due, whether its deadline has come or not.
pub data HastenStep (s : State) (nonce : ℕ) (new : State) (ticked : Ticked) : Type 0 where
  unknown : IsUnknown s.pending nonce → new ≡ s → ticked ≡ Nothing → HastenStep s nonce new ticked
  hastened : (t : ℕ) (l : Pending) → get s.pending t ≡ Some l → l.nonce ≡ nonce → GoOn s t l new ticked
      → HastenStep s nonce new ticked

-- the step would send a request, and so wants memory
pub record TickWants (s : State) : Type 0 where
  pub ticket : ℕ
  pub lookup : Pending
  pub is_due : IsDue s ticket lookup
  pub has_try : HasTry lookup
  pub nonce : s.next < last_nonce

-- so would the step where the lookup of this nonce is hastened
pub record HastenWants (s : State) (named : ℕ) : Type 0 where
  pub ticket : ℕ
  pub lookup : Pending
  pub is_pending : get s.pending ticket ≡ Some lookup
  pub its_nonce : lookup.nonce ≡ named
  pub has_try : HasTry lookup
  pub nonce : s.next < last_nonce
