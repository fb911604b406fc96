-- The resolver's step on an ask (RFC 8111, section 7.3).
use Rattle.std.specs.Prelude.{ℕ, ◌≡◌, ◌<◌, ◌≤◌, List, Option, None, Some, Result, Ok, Err}
use Rattle.std.specs.FinMap.{len}
use Rattle.ddt_path.specs.declared.xeid.Xeid.{Xeid}
use Rattle.ddt_path.specs.declared.record.Outcome.{Outcome}
use Rattle.ddt_path.specs.Path.{xeid_path}
use Rattle.ddt_cache.specs.declared.cache_entry.Entry.{Entry}
use Rattle.ddt_cache.specs.Found.{IsFound}
use Rattle.ddt_path.specs.declared.locator.Locator.{Locator}
use Rattle.ddt_resolver.specs.declared.results.Beginning.{Beginning}
use Rattle.ddt_resolver.specs.declared.results.Beginning.TheVariants.{Answer as BeginsAnswered, Servers as BeginsAt}
use Rattle.ddt_resolver.specs.declared.results.Asked.{Asked}
use Rattle.ddt_resolver.specs.declared.results.Asked.TheVariants.{Answer, Sent}
use Rattle.ddt_resolver.specs.declared.results.AskError.{AskError}
use Rattle.ddt_resolver.specs.declared.results.AskError.TheVariants.{TooMany, Exhausted, Memory}
use Rattle.ddt_resolver.specs.State.{State, last_nonce, most_pending, opening, request_sent, request}
use Rattle.ddt_resolver.specs.Records.{negative_answer, start_at}

-- what an entry answers by itself
abbrev pub answer_of : List ℕ → Entry → Option Outcome
answer_of p e = negative_answer e.action p e.servers

-- what an ask begins with where an entry is found: its answer, or the servers that a lookup would ask
abbrev pub begins_with : Option Outcome → List Locator → Beginning
begins_with (Some o) servers = BeginsAnswered o
begins_with None servers = BeginsAt servers

abbrev pub beginning_at : List ℕ → Entry → Beginning
beginning_at p e = begins_with (answer_of p e) e.servers

-- no answer to an identifier is remembered
abbrev pub IsUnanswered : State → Xeid → Type 0
IsUnanswered s x = (p : List ℕ) (e : Entry) → IsFound s.known (xeid_path x) p e → answer_of p e ≡ None

-- no answer is remembered, fewer than 1,024 lookups are pending, and a nonce is left
pub record IsFree (s : State) (p : List ℕ) (e : Entry) : Type 0 where
  pub unanswered : answer_of p e ≡ None
  pub few : len s.pending < most_pending
  pub nonce : s.next < last_nonce

-- The step, where the entry e of the prefix p is found. `cached`: a negative entry answers at once. `full`: 1,024
-- lookups are pending. `used_up`: no nonce is left. `opened`: a lookup starts at the entry's servers; its ticket is its
-- nonce.
pub data Start (s : State) (x : Xeid) (p : List ℕ) (e : Entry) (new : State) (r : Result Asked AskError) :
    Type 0 where
  cached : (o : Outcome) → answer_of p e ≡ Some o → new ≡ s → r ≡ Ok (Answer o) → Start s x p e new r
  full : answer_of p e ≡ None → most_pending ≤ len s.pending → new ≡ s → r ≡ Err TooMany → Start s x p e new r
  used_up : answer_of p e ≡ None → len s.pending < most_pending → s.next ≡ last_nonce → new ≡ s → r ≡ Err Exhausted
      → Start s x p e new r
  opened : IsFree s p e
      → new ≡ request_sent s s.next (opening x e.servers (start_at p))
      → r ≡ Ok (Sent s.next (request s (opening x e.servers (start_at p))))
      → Start s x p e new r

-- the step, at the entry that is found for the identifier
pub record AskStep (s : State) (x : Xeid) (new : State) (r : Result Asked AskError) : Type 0 where
  pub prefix : List ℕ
  pub entry : Entry
  pub found : IsFound s.known (xeid_path x) prefix entry
  pub start : Start s x prefix entry new r

-- the step would send a request, and so wants memory
pub record AskWants (s : State) (x : Xeid) : Type 0 where
  pub prefix : List ℕ
  pub entry : Entry
  pub found : IsFound s.known (xeid_path x) prefix entry
  pub free : IsFree s prefix entry

-- a fact that is claimed of every answer to an ask but the refusal for want of memory
abbrev pub UnlessAskLacksMemory : Result Asked AskError → Type 0 → Type 0
UnlessAskLacksMemory (Err Memory) P = Unit {0}
UnlessAskLacksMemory (Err TooMany) P = P
UnlessAskLacksMemory (Err Exhausted) P = P
UnlessAskLacksMemory (Ok asked) P = P

-- a fact that is claimed only of an ask that is refused for want of memory; of other answers nothing is claimed
abbrev pub OnMemory : Result Asked AskError → Type 0 → Type 0
OnMemory (Err Memory) P = P
OnMemory (Err TooMany) P = Unit {0}
OnMemory (Err Exhausted) P = Unit {0}
OnMemory (Ok asked) P = Unit {0}
