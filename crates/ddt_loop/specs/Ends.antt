-- The ends of lookups that ITRs wait for.
use Rattle.std.specs.Prelude.{ℕ, ◌≡◌, List, [], ◌∷◌, ◌++◌, Option, Some, None, Result, Ok, Err}
use Rattle.ddt_path.specs.declared.locator.Locator.{Locator}
use Rattle.ddt_path.specs.declared.record.Outcome.{Outcome}
use Rattle.ddt_sockets.specs.declared.wire_calls.Call.{Call as WireCall}
use Rattle.ddt_resolver.specs.declared.results.Why.{Why}
use Rattle.ddt_resolver.specs.declared.itr_messages.ItrRequest.{ItrRequest}
use Rattle.ddt_resolver.specs.declared.step.Progress.{Progress}
use Rattle.ddt_resolver.specs.declared.step.Progress.TheVariants.{Stays, Sends, Ends}
use Rattle.ddt_resolver.specs.declared.step.Reply.{Reply}
use Rattle.ddt_resolver.specs.declared.step.Reply.TheVariants.{ToTick}
use Rattle.ddt_resolver.specs.declared.results.Ticked.{Ticked}
use Rattle.ddt_resolver.specs.TickStep.{HastenStep}
use Rattle.ddt_resolver.specs.State.{State}
use Rattle.ddt_resolver.specs.Step.{ResolverCall, Step, progress_of}
use Rattle.ddt_loop.specs.declared.packet_outcome.Ended.{Ended}
use Rattle.ddt_loop.specs.declared.requester.Requester.{Requester}
use Rattle.ddt_loop.specs.declared.requester.Requester.TheVariants.{Identifier, Itr}
use Rattle.ddt_loop.specs.declared.requester.WaitingRequester.{WaitingRequester}
use Rattle.ddt_loop.specs.Requesters.{TakesOff}
use Rattle.ddt_loop.specs.Acts.{IsToldItr}

-- what an ITR is told at the end of its lookup
abbrev pub IsToldEnd : Locator → Result Outcome Why → ItrRequest → List WireCall → Type 0
IsToldEnd me (Ok o) q calls = IsToldItr me o q calls
IsToldEnd me (Err why) q calls = calls ≡ []

-- the ITRs among those who wait, each with its ticket
abbrev pub if_itr : WaitingRequester → Requester → List WaitingRequester
if_itr o (Identifier place) = []
if_itr o (Itr q) = o ∷ []

-- of all who wait only the ITRs, in the order of their asks; the identifiers of the loop's own list are left out
abbrev pub waiting_itrs : List WaitingRequester → List WaitingRequester
waiting_itrs [] = []
waiting_itrs (o ∷ waiting) = if_itr o o.requester ++ waiting_itrs waiting

-- the end of a lookup that this one waited for: an ITR's
abbrev pub ended_of : ℕ → Result Outcome Why → Option Requester → Option Ended
ended_of t end None = None
ended_of t end (Some (Identifier place)) = None
ended_of t end (Some (Itr q)) = Some (record { ticket = t; end = end })

-- whoever waited for the lookup of a ticket is taken off the list, and this is its end if an ITR did
pub record IsEnd (t : ℕ) (end : Result Outcome Why) (waiting after : List WaitingRequester) (ended : Option Ended)
    : Type 0 where
  pub taken : Option Requester
  pub takes : TakesOff t waiting after taken
  pub is : ended ≡ ended_of t end taken

-- A lookup that goes on leaves all who wait. Where one ends, whoever waited for it is taken off the list, and the end
-- is given only if that was an ITR.
abbrev pub HasEnded : Progress → List WaitingRequester → List WaitingRequester → Option Ended → Type 0
HasEnded Stays waiting after ended = (after ≡ waiting) × (ended ≡ None)
HasEnded (Sends t d) waiting after ended = (after ≡ waiting) × (ended ≡ None)
HasEnded (Ends t end) waiting after ended = IsEnd t end waiting after ended

-- the resolver's step by a call ends this lookup so, and the ITR that waited for it does so no longer
pub record EndsBy (call : ResolverCall) (s new : State) (waiting after : List WaitingRequester) (e : Ended)
    : Type 0 where
  pub reply : Reply
  pub step : Step s call new reply
  pub ends : progress_of reply ≡ Ends e.ticket e.end
  pub request : ItrRequest
  pub takes : TakesOff e.ticket waiting after (Some (Itr request))

-- the lookup that an ITR waited for has ended, or the same ITRs wait as before
abbrev pub HasEndedBy : ResolverCall → State → State → List WaitingRequester → List WaitingRequester → Option Ended
    → Type 0
HasEndedBy call s new waiting after (Some e) = EndsBy call s new waiting after e
HasEndedBy call s new waiting after None = waiting_itrs after ≡ waiting_itrs waiting

-- a lookup that is hastened ends so, and the ITR that waited for it does so no longer
pub record EndsByHaste (nonce : ℕ) (s new : State) (waiting after : List WaitingRequester) (e : Ended) : Type 0 where
  pub ticked : Ticked
  pub step : HastenStep s nonce new ticked
  pub ends : progress_of (ToTick ticked) ≡ Ends e.ticket e.end
  pub request : ItrRequest
  pub takes : TakesOff e.ticket waiting after (Some (Itr request))

-- the lookup that an ITR waited for has ended, or the same ITRs wait as before
abbrev pub HasEndedByHaste : ℕ → State → State → List WaitingRequester → List WaitingRequester → Option Ended → Type 0
HasEndedByHaste nonce s new waiting after (Some e) = EndsByHaste nonce s new waiting after e
HasEndedByHaste nonce s new waiting after None = waiting_itrs after ≡ waiting_itrs waiting
