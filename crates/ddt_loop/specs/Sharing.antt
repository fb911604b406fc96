-- ITRs that share the lookup of another's request for the same identifier (RFC 8111, section 8.1.1).
use Rattle.std.specs.Prelude.{ℕ, ◌≡◌, ◌==◌, not, List, [], ◌∷◌, ◌++◌, Contains, map, Option, Some, None, Result}
use Rattle.std.specs.List.{filter}
use Rattle.ddt_path.specs.declared.locator.Locator.{Locator}
use Rattle.ddt_path.specs.declared.record.Outcome.{Outcome}
use Rattle.ddt_sockets.specs.declared.wire_calls.Call.{Call}
use Rattle.ddt_resolver.specs.declared.itr_messages.ItrRequest.{ItrRequest}
use Rattle.ddt_resolver.specs.declared.results.Why.{Why}
use Rattle.ddt_path.specs.declared.xeid.Xeid.{Xeid}
use Rattle.ddt_loop.specs.declared.packet_outcome.Ended.{Ended}
use Rattle.ddt_loop.specs.declared.requester.Requester.TheVariants.{Itr}
use Rattle.ddt_loop.specs.declared.requester.WaitingRequester.{WaitingRequester}
use Rattle.ddt_loop.specs.Requesters.{Desk, waiting_for}
use Rattle.ddt_loop.specs.Ends.{IsToldEnd}

-- an ITR's request that waits for the lookup of a ticket, which another request has started
pub record Sharer : Type 0 where
  pub ticket : ℕ
  pub request : ItrRequest

-- an ITR waits for the lookup of this ticket, and asked for this identifier
abbrev pub IsAskedBy : List WaitingRequester → ℕ → Xeid → Type 0
IsAskedBy waiting t x = (q : ItrRequest) × Contains waiting (waiting_for t (Itr q)) × (q.xeid ≡ x)

-- a request may share a lookup that an ITR waits for: it is for the same identifier
abbrev pub MayShare : Desk → Sharer → Type 0
MayShare d j = IsAskedBy d.waiting j.ticket j.request.xeid

-- the requests of those who share a lookup, in the order in which they came
abbrev pub sharing : ℕ → List Sharer → List ItrRequest
sharing t sharers = map (λ j. j.request) (filter (λ j. j.ticket == t) sharers)

-- those who share other lookups
abbrev pub not_sharing : ℕ → List Sharer → List Sharer
not_sharing t sharers = filter (λ j. not (j.ticket == t)) sharers

-- each of these ITRs is told the end of its lookup, once, in their order
pub data AreToldEnd (me : Locator) (end : Result Outcome Why) : List ItrRequest → List Call → Type 0 where
  nobody : AreToldEnd me end [] []
  one : (q : ItrRequest) (others : List ItrRequest) (calls more : List Call) → IsToldEnd me end q calls
      → AreToldEnd me end others more → AreToldEnd me end (q ∷ others) (calls ++ more)

-- What becomes of those who share lookups. `wait_on`: no lookup of an ITR has ended. `told`: one has, and those who
-- shared it are told its end.
pub data TellsSharers (me : Locator) (old : List Sharer) : Option Ended → List Call → List Sharer → Type 0 where
  wait_on : TellsSharers me old None [] old
  told : (e : Ended) (calls : List Call) → AreToldEnd me e.end (sharing e.ticket old) calls
      → TellsSharers me old (Some e) calls (not_sharing e.ticket old)
