-- What becomes of the requests that wait for a lookup which has ended, and what is counted of lookups.
use Rattle.std.specs.Prelude.{ℕ, ◌≡◌, ◌≢◌, List, [], ◌∷◌, ◌++◌, All, Option, Some, None, Result}
use Rattle.ddt_path.specs.declared.locator.Locator.{Locator}
use Rattle.ddt_path.specs.declared.record.Outcome.{Outcome}
use Rattle.ddt_sockets.specs.declared.wire_calls.Call.{Call}
use Rattle.ddt_sockets.specs.Turns.{Outgoing, AreTried}
use Rattle.ddt_resolver.specs.declared.results.Why.{Why}
use Rattle.ddt_loop.specs.declared.packet_outcome.Ended.{Ended as End}
use Rattle.ddt_loop.specs.Ends.{IsToldEnd}
use Rattle.ddt_loop.specs.Sharing.{Sharer}
use Rattle.ddt_daemon.specs.Onward.{onward}
use Rattle.ddt_daemon.specs.declared.counts.ResolverCounts.{ResolverCounts}
use Rattle.ddt_daemon.specs.declared.itr_requests.WaitingRequest.{WaitingRequest}
use Rattle.ddt_daemon.specs.Counted.{plus, with_ended}

-- of the requests that wait, those that share a lookup, each with the lookup's ticket: none has begun for them
abbrev pub sharer_if : Option (List Locator) → WaitingRequest → List Sharer
sharer_if None k = record { ticket = k.ticket; request = k.request } ∷ []
sharer_if (Some servers) k = []

abbrev pub sharers : List WaitingRequest → List Sharer
sharers [] = []
sharers (k ∷ kept) = sharer_if k.begins k ++ sharers kept

-- an ITR that shares a lookup is told its end here; the one that has started it is told by the resolver
abbrev pub IsSharerTold : Locator → Result Outcome Why → Option (List Locator) → WaitingRequest → List Call → Type 0
IsSharerTold me end None k calls = IsToldEnd me end k.request calls
IsSharerTold me end (Some servers) k calls = calls ≡ []

-- a request goes on to the server whose datagram has ended its lookup as registered; at another end, or where no
-- datagram did, nothing goes on
abbrev pub goes_on : Option Locator → Result Outcome Why → List ℕ → List Outgoing
goes_on None end bytes = []
goes_on (Some server) end bytes = onward server end (Some bytes)

-- The requests that wait for a lookup which has ended are closed, the first first: each is told, if it shares the
-- lookup, and goes on, if its site is registered.
pub data Closes (me : Locator) (by : Option Locator) (e : End) (old : List WaitingRequest)
    : List Call → List Call → List WaitingRequest → Type 0
  where
    starts : Closes me by e old [] [] old
    one : {near far : List Call} {left : List WaitingRequest} (before after : List WaitingRequest) (k : WaitingRequest)
        (told on : List Call)
        → Closes me by e old near far left → left ≡ before ++ k ∷ after → All (λ k. k.ticket ≢ e.ticket) before
        → k.ticket ≡ e.ticket → IsSharerTold me e.end k.begins k told → AreTried me (goes_on by e.end k.bytes) on
        → Closes me by e old (near ++ told) (far ++ on) (before ++ after)

-- all that wait for it are closed, and none does any more
pub record AreClosed (me : Locator) (by : Option Locator) (e : End) (old : List WaitingRequest) (near far : List Call)
    (new : List WaitingRequest) : Type 0 where
  pub closes : Closes me by e old near far new
  pub nobody : All (λ k. k.ticket ≢ e.ticket) new

-- where the lookup of an ITR has ended, all that wait for it are closed
abbrev pub Follows : Locator → Option Locator → Option End → List WaitingRequest
    → List Call → List Call → List WaitingRequest → Type 0
Follows me by None old near far new = (near ≡ []) × (far ≡ []) × (new ≡ old)
Follows me by (Some e) old near far new = AreClosed me by e old near far new

-- the end of a lookup is counted by the outcome, or by why it gave up
abbrev pub with_end : ResolverCounts → Option End → ResolverCounts
with_end c None = c
with_end c (Some e) = with_ended c e.end
