use Rattle.std.proofs.Common.{◌≡◌, ◌<◌, ℕ, get_or}
use Rattle.std.specs.Prelude.{◌≢◌}
use Rattle.ddt_resolver.specs.declared.itr_messages.ItrRequest.{ItrRequest}
use Rattle.ddt_loop.specs.declared.requester.Requester.TheVariants.{Itr}
use Rattle.ddt_loop.specs.declared.requester.WaitingRequester.{WaitingRequester}
use Rattle.ddt_loop.proofs.requesters.ticket_of.Given as goal

-- none of those who were looked at is an ITR that asked for it
abbrev pub invariant-loop-place : goal.invariant-loop-place
invariant-loop-place l =
    (k : ℕ) (d : WaitingRequester) (q : ItrRequest) → k < l.place → (get_or l.waiting.items k d).requester ≡ Itr q → q.xeid ≢ l.x
