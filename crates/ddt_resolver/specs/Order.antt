-- What holds of each resolver at all times.
use Rattle.std.specs.Prelude.{ℕ, ◌≡◌, ◌≢◌, ◌+◌, ◌<◌, ◌≤◌, true, IsTrue, List, [], length, None, Some}
use Rattle.std.specs.FinMap.{get, len}
use Rattle.ddt_path.specs.declared.action.Action.TheVariants.{MsNotRegistered}
use Rattle.ddt_path.specs.declared.record.ReferralRecord.{ReferralRecord}
use Rattle.ddt_path.specs.Path.{xeid_path, is_path}
use Rattle.ddt_path.specs.Covers.{covers}
use Rattle.ddt_path.specs.Locators.{most_locators}
use Rattle.ddt_cache.specs.InOrder.{IsCacheInOrder as IsKnownInOrder}
use Rattle.ddt_resolver.specs.declared.pending.Pending.{Pending}
use Rattle.ddt_resolver.specs.State.{State, last_nonce, most_pending, reply_timeout_ms}

-- What holds of a lookup: it asks one of 1 to 8 servers. What it has saved, kept and started at covers its identifier.
-- What is kept is an MS-NOT-REGISTERED of an earlier server of the set. It started at an entry that isn't everything,
-- or at the root, as after its one restart.
pub record IsLookup (l : Pending) : Type 0 where
  pub identifier : IsTrue (is_path (xeid_path l.x))
  pub place : l.server_index < length l.servers
  pub few : length l.servers ≤ most_locators
  pub saved : (p : List ℕ) → l.last_referral ≡ Some p → IsTrue (covers p (xeid_path l.x))
  pub kept : (rec : ReferralRecord) → l.last_not_registered ≡ Some rec → IsTrue (covers rec.prefix (xeid_path l.x))
  pub kept_action : (rec : ReferralRecord) → l.last_not_registered ≡ Some rec → rec.action ≡ MsNotRegistered
  pub kept_place : (rec : ReferralRecord) → l.last_not_registered ≡ Some rec → 0 < l.server_index
  pub start : (p : List ℕ) → l.start_entry ≡ Some p → IsTrue (covers p (xeid_path l.x))
  pub below_root : l.start_entry ≢ Some []
  pub once : l.restarted ≡ true → l.start_entry ≡ None

-- What holds of one that is pending: its ticket is no later than its last nonce, which was given out, and it waits no
-- longer than 2,000 milliseconds.
pub record IsWaiting (s : State) (t : ℕ) (l : Pending) : Type 0 where
  pub lookup : IsLookup l
  pub ticket : t ≤ l.nonce
  pub nonce : l.nonce < s.next
  pub deadline : l.deadline ≤ s.known.time + reply_timeout_ms

-- What holds of a state: what it remembers is in order; the root has a server; the nonce counter stops at its last
-- value; at most 1,024 lookups are pending, each in order, and no two with one nonce.
pub record IsStateInOrder (s : State) : Type 0 where
  pub known : IsKnownInOrder s.known
  pub root : 0 < length s.known.roots
  pub next : s.next ≤ last_nonce
  pub few : len s.pending ≤ most_pending
  pub lookups : (t : ℕ) (l : Pending) → get s.pending t ≡ Some l → IsWaiting s t l
  pub nonces : (t u : ℕ) (l m : Pending) → get s.pending t ≡ Some l → get s.pending u ≡ Some m → l.nonce ≡ m.nonce
      → t ≡ u
