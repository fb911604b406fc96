-- A resolver's state, and how a step changes it (RFC 8111, section 7.3).
use Rattle.std.specs.Prelude.{ℕ, ◌+◌, true, false, List, [], ◌∷◌, get_or, Option, None, Some, refl}
use Rattle.std.specs.Coded.{Coded, code_by, coded×, coded_ℕ}
use Rattle.std.specs.Ordering.{nat_cmp}
use Rattle.std.specs.FinMap.{FinMap, insert, remove, empty, code}
use Rattle.ddt_path.specs.declared.locator.Locator.{Locator}
use Rattle.ddt_path.specs.declared.xeid.Xeid.{Xeid}
use Rattle.ddt_path.specs.declared.record.ReferralRecord.{ReferralRecord}
use Rattle.ddt_ecm.specs.Request.{written}
use Rattle.ddt_ecm.specs.UdpHeader.{control_port}
use Rattle.ddt_cache.specs.declared.cache_entry.Entry.{Entry}
use Rattle.ddt_cache.specs.Live.{Known, known_code, nothing_known}
use Rattle.ddt_cache.specs.Live as cache
use Rattle.ddt_cache.specs.Saved as cache_saved
use Rattle.ddt_resolver.specs.declared.results.Outgoing.{Outgoing}
use Rattle.ddt_resolver.specs.declared.pending.Pending.{Pending}
use Rattle.ddt_resolver.specs.declared.requests.Change.{Change}
use Rattle.ddt_resolver.specs.declared.requests.Change.TheVariants.{Keep, Save, Forget}

-- what it remembers, with the time and the root's locators; its own address; the next nonce; the pending lookups by
-- their tickets
pub record State : Type 0 where
  pub known : Known
  pub me : Locator
  pub next : ℕ
  pub pending : FinMap nat_cmp Pending

-- how a compiled program may store it: as its parts
abbrev pub state_code : Coded Entry → Coded Locator → Coded Pending → Coded State
state_code entry locator pending =
    code_by (Known × (Locator × (ℕ × FinMap nat_cmp Pending)))
    (coded× (known_code entry locator) (coded× locator (coded× coded_ℕ (code coded_ℕ pending))))
    (λ s. (s.known, (s.me, (s.next, s.pending)))) (λ p.
    record { known = p.0; me = p.1.0; next = p.1.1.0; pending = p.1.1.1 }) (λ _. refl)

-- a resolver that has heard nothing yet, at moment 0
abbrev pub fresh : List Locator → Locator → ℕ → State
fresh roots me_ seed = record { known = nothing_known roots; me = me_; next = seed; pending = empty }

-- the nonce that is never sent: where it is next, no nonce is left
abbrev pub last_nonce : ℕ
last_nonce = 18446744073709551615

-- the most lookups that are pending at once
abbrev pub most_pending : ℕ
most_pending = 1024

-- the number of milliseconds for which a lookup waits for the reply to a request
abbrev pub reply_timeout_ms : ℕ
reply_timeout_ms = 2000

-- the server that a lookup asks
abbrev pub server : Locator → Pending → Locator
server me l = get_or l.servers l.server_index me

-- the request for an identifier, with the bit D, and with the resolver's address as its one ITR-RLOC
unfoldable pub request_bytes : ℕ → Xeid → Locator → List ℕ
request_bytes nonce x me = written nonce x (me ∷ []) true

-- the request that a lookup sends next
abbrev pub request : State → Pending → Outgoing
request s l = record { to = server s.me l; port = control_port; bytes = request_bytes s.next l.x s.me }

-- a lookup once that request is sent
abbrev pub numbered : State → Pending → Pending
numbered s l = record l { nonce = s.next; deadline = s.known.time + reply_timeout_ms }

-- after sending the request of a lookup, which is pending under a ticket
abbrev pub request_sent : State → ℕ → Pending → State
request_sent s t l = record s { pending = insert s.pending t (numbered s l); next = s.next + 1 }

-- a ticket isn't pending any more
abbrev pub dropped : State → ℕ → State
dropped s t = record s { pending = remove s.pending t }

-- a record is saved where it is one to keep and there is room
abbrev pub stored : State → ReferralRecord → State
stored s rec = record s { known = cache_saved.stored_in s.known rec }

-- the remembered entry of a prefix is forgotten
abbrev pub forgotten : State → List ℕ → State
forgotten s p = record s { known = cache.forgotten s.known p }

-- at the later of its time and `now`: what has ended is remembered no more, and nothing else changes
abbrev pub moved : ℕ → State → State
moved now s = record s { known = cache.moved now s.known }

-- what a step does to what is remembered: nothing, a record is saved, or the entry of a prefix forgotten
abbrev pub changed : Known → Change → Known
changed k Keep = k
changed k (Save rec) = cache_saved.stored_in k rec
changed k (Forget p) = cache.forgotten k p

-- a resolver after a change of what it remembers: its time, its nonce counter and its pending lookups stay as they are
abbrev pub with_change : State → Change → State
with_change s change = record s { known = changed s.known change }

-- a lookup at the first server of another set
abbrev pub at_set : Pending → List Locator → Pending
at_set l servers = record l { servers = servers; server_index = 0; is_retry = false }

-- a new lookup, at the first server of a set; it started at an entry of this prefix, or at the root
abbrev pub opening : Xeid → List Locator → Option (List ℕ) → Pending
opening x servers start =
    record {
      x = x;
      servers = servers;
      server_index = 0;
      is_retry = false;
      nonce = 0;
      deadline = 0;
      last_referral = None;
      last_not_registered = None;
      restarted = false;
      start_entry = start;
    }

-- a lookup that follows a referral
abbrev pub referred : Pending → ReferralRecord → Pending
referred l rec = record (at_set l rec.servers) { last_referral = Some rec.prefix; last_not_registered = None }

-- a lookup that goes on to the next server of its set after an MS-NOT-REGISTERED
abbrev pub passed_on : Pending → ReferralRecord → Pending
passed_on l rec = record l { server_index = l.server_index + 1; is_retry = false; last_not_registered = Some rec }

-- a lookup that starts again at the root
abbrev pub started_over : State → Pending → Pending
started_over s l =
    record (at_set l s.known.roots) {
      last_referral = None;
      last_not_registered = None;
      start_entry = None;
      restarted = true;
    }

-- a lookup that asks the same server again
abbrev pub tried_again : Pending → Pending
tried_again l = record l { is_retry = true }

-- a lookup that goes on to the next server without a reply
abbrev pub at_next : Pending → Pending
at_next l = record l { server_index = l.server_index + 1; is_retry = false }
