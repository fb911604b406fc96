-- A lookup: an ask, then requests and replies, one after the other, until the identifier's outcome is there (RFC 8111,
-- section 7.3).
use Rattle.std.specs.Prelude.{ℕ, ◌≡◌, ◌⊎◌, ◌++◌, List, [], ◌∷◌, Option, None, Some, Result, Ok, Err}
use Rattle.ddt_path.specs.declared.record.Outcome.{Outcome}
use Rattle.ddt_path.specs.declared.xeid.Xeid.{Xeid}
use Rattle.ddt_path.specs.Path.{xeid_path}
use Rattle.ddt_cache.specs.declared.cache_entry.Entry.{Entry}
use Rattle.ddt_cache.specs.Found.{IsFound}
use Rattle.ddt_resolver.specs.declared.results.Outgoing.{Outgoing}
use Rattle.ddt_resolver.specs.declared.results.Asked.{Asked}
use Rattle.ddt_resolver.specs.declared.results.Asked.TheVariants as asked
use Rattle.ddt_resolver.specs.declared.results.AskError.{AskError}
use Rattle.ddt_resolver.specs.declared.results.AskError.TheVariants as ask_error
use Rattle.ddt_resolver.specs.declared.results.Heard.{Heard}
use Rattle.ddt_resolver.specs.declared.results.Heard.TheVariants as heard
use Rattle.ddt_resolver.specs.declared.results.Why.{Why}
use Rattle.ddt_resolver.specs.declared.results.Why.TheVariants.{NoReply, Exhausted}
use Rattle.ddt_resolver.specs.State.{State, moved, dropped}
use Rattle.ddt_resolver.specs.AskStep.{AskStep, AskWants, answer_of}
use Rattle.ddt_resolver.specs.Act.{HearStep}
use Rattle.ddt_sim.specs.declared.lookup_result.Hop.{Hop}
use Rattle.ddt_sim.specs.declared.lookup_result.LookupError.{LookupError}
use Rattle.ddt_sim.specs.declared.lookup_result.LookupError.TheVariants.{GaveUp, TooMany, Memory}
use Rattle.ddt_sim.specs.declared.exchange.LookupProgress.{LookupProgress}
use Rattle.ddt_sim.specs.declared.exchange.LookupProgress.TheVariants.{GoesOn, Ends}

-- a request and the reply to it
abbrev pub hop_of : Outgoing → List ℕ → Hop
hop_of d reply_ = record { to = d.to; request = d.bytes; reply = reply_ }

-- ---- one request of a lookup and what comes back

-- an answer to a datagram that isn't for a ticket: it was ignored, or another lookup took it
abbrev pub IsNotFor : ℕ → Heard → Type 0
IsNotFor t (heard.Ignored why) = Unit {0}
IsNotFor t (heard.Followed u d) = u ≡ t → ⊥
IsNotFor t (heard.Answer u o) = u ≡ t → ⊥
IsNotFor t (heard.GaveUp u why) = u ≡ t → ⊥

-- what a resolver answers to a reply of its lookup under a ticket
abbrev pub heard_of : ℕ → Result LookupProgress Why → Heard
heard_of t (Ok (GoesOn e)) = heard.Followed t e
heard_of t (Ok (Ends o)) = heard.Answer t o
heard_of t (Err why) = heard.GaveUp t why

-- the reply to a request, or what the request fails as: for want of a reply, or of memory
abbrev pub reply_or_failure : {E : Type 0} → Result (Option (List ℕ)) E → Result (List ℕ) LookupError
reply_or_failure (Ok (Some reply)) = Ok reply
reply_or_failure (Ok None) = Err (GaveUp NoReply)
reply_or_failure (Err refused) = Err Memory

-- the turn of a lookup whose reply was answered so, or what it fails as; a reply that isn't its own is none
abbrev pub turn_or_failure : Option (Result LookupProgress Why) → Result LookupProgress LookupError
turn_or_failure (Some (Ok turn)) = Ok turn
turn_or_failure (Some (Err why)) = Err (GaveUp why)
turn_or_failure None = Err (GaveUp NoReply)

-- The request d of the ticket t was sent at `now` in the state s, and its reply, which one hop more tells, was taken.
pub record IsLookupTurn (now : ℕ) (s : State) (t : ℕ) (d : Outgoing) (hops : List Hop) (turn : LookupProgress)
    (more : List Hop) (new : State) : Type 0 where
  pub reply : List ℕ
  pub step : HearStep (moved now s) d.to reply new (heard_of t (Ok turn))
  pub hop : more ≡ hops ++ hop_of d reply ∷ []

-- How it fails. `gave_up`: the reply made the lookup give up. `unanswered`: nothing came back. `not_taken`: what came
-- back was no reply to it. In the others memory runs out: `stopped` before a reply was taken, `unfinished` after one.
pub data TurnFails (now : ℕ) (s : State) (t : ℕ) (d : Outgoing) (error : LookupError) (after : State) : Type 0 where
  gave_up : (reply : List ℕ) (why : Why) → HearStep (moved now s) d.to reply after (heard_of t (Err why))
      → error ≡ GaveUp why → TurnFails now s t d error after
  unanswered : after ≡ s → error ≡ GaveUp NoReply → TurnFails now s t d error after
  not_taken : (reply : List ℕ) (h : Heard) → HearStep (moved now s) d.to reply after h → IsNotFor t h
      → error ≡ GaveUp NoReply → TurnFails now s t d error after
  stopped : (after ≡ s) ⊎ (after ≡ moved now s) → error ≡ Memory → TurnFails now s t d error after
  unfinished : (reply : List ℕ) (turn : LookupProgress) → HearStep (moved now s) d.to reply after (heard_of t (Ok turn))
      → error ≡ Memory → TurnFails now s t d error after

-- ---- a lookup

-- The lookup of x that was asked at `now` in the state `start` has come this far: after these hops its ticket is t, the
-- request d is to be sent, and the resolver is in the state s.
pub data Reaches (now : ℕ) (x : Xeid) (start : State) : List Hop → ℕ → Outgoing → State → Type 0 where
  sent : (t : ℕ) (d : Outgoing) (s : State) → AskStep (moved now start) x s (Ok (asked.Sent t d))
      → Reaches now x start [] t d s
  followed : {hops : List Hop} {t : ℕ} {d : Outgoing} {s : State} (reply : List ℕ) (e : Outgoing) (new : State)
      → Reaches now x start hops t d s → HearStep (moved now s) d.to reply new (heard.Followed t e)
      → Reaches now x start (hops ++ hop_of d reply ∷ []) t e new

-- a lookup that has come some way under a ticket, and whose next request fails
pub record FailsUnder (now : ℕ) (x : Xeid) (start : State) (t : ℕ) (error : LookupError) (after : State)
    : Type 0 where
  pub hops : List Hop
  pub request : Outgoing
  pub state : State
  pub reaches : Reaches now x start hops t request state
  pub fails : TurnFails now state t request error after

-- How a lookup ends with an outcome: at once, by what is remembered, or by the reply of its last hop.
pub data HasOutcome (now : ℕ) (x : Xeid) (start : State) (outcome : Outcome) (hops : List Hop) (new : State)
    : Type 0 where
  at_once : AskStep (moved now start) x new (Ok (asked.Answer outcome)) → hops ≡ []
      → HasOutcome now x start outcome hops new
  by_reply : {before : List Hop} {t : ℕ} {d : Outgoing} {s : State} → Reaches now x start before t d s
      → IsLookupTurn now s t d before (Ends outcome) hops new → HasOutcome now x start outcome hops new

-- what a lookup fails as whose ask is refused, or wants memory
abbrev pub ask_failure : AskError → LookupError
ask_failure ask_error.TooMany = TooMany
ask_failure ask_error.Exhausted = GaveUp Exhausted
ask_failure ask_error.Memory = Memory

-- How it ends with an error: the ask was refused, or wanted memory, or one of its requests failed. Its own lookup is
-- pending no more, and nothing else is undone.
pub data Fails (now : ℕ) (x : Xeid) (start : State) (error : LookupError) (new : State) : Type 0 where
  too_many : AskStep (moved now start) x new (Err ask_error.TooMany) → error ≡ TooMany → Fails now x start error new
  used_up : AskStep (moved now start) x new (Err ask_error.Exhausted) → error ≡ GaveUp Exhausted
      → Fails now x start error new
  unasked : AskWants (moved now start) x → new ≡ moved now start → error ≡ Memory → Fails now x start error new
  at_request : {hops : List Hop} {t : ℕ} {d : Outgoing} {s after : State} → Reaches now x start hops t d s
      → TurnFails now s t d error after → new ≡ dropped after t → Fails now x start error new

-- a negative entry that is found for x, and answers by itself
pub record IsRemembered (x : Xeid) (s : State) : Type 0 where
  pub prefix : List ℕ
  pub entry : Entry
  pub outcome : Outcome
  pub found : IsFound s.known (xeid_path x) prefix entry
  pub answers : answer_of prefix entry ≡ Some outcome

-- ---- over all identifiers and states that it may have begun with

-- what was asked under this answer was asked so
abbrev pub WhateverAsked : ℕ → State → Asked → (Xeid → State → Type 0) → Type 0
WhateverAsked now s asked fact = (x : Xeid) (start : State) → AskStep (moved now start) x s (Ok asked) → fact x start

-- the lookup whose first request this is was asked so
abbrev pub WhateverSent : ℕ → State → ℕ → Outgoing → (Xeid → State → Type 0) → Type 0
WhateverSent now s t d fact = (x : Xeid) (start : State) → Reaches now x start [] t d s → fact x start
