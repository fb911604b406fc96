-- The tries of a question, by their steps.
use Rattle.std.specs.Prelude.{ℕ, ◌+◌, ◌<◌, List, [], ◌∷◌, ◌++◌, Option, Some, None, Ok, Err}
use Rattle.ddt_ecm.specs.UdpHeader.{control_port}
use Rattle.ddt_sockets.specs.declared.wire_calls.Call.TheVariants.{Tried}
use Rattle.ddt_sockets.specs.declared.wire_calls.NetFault.{NetFault}
use Rattle.ddt_asking.specs.declared.probe_options.ProbeOptions.{ProbeOptions}
use Rattle.ddt_asking.specs.declared.reply_match.AwaitedReply.{AwaitedReply}
use Rattle.ddt_asking.specs.declared.await_reply.Wait.{Wait}
use Rattle.ddt_asking.specs.Steps.{WireStep, step_of}
use Rattle.ddt_asking.specs.Waits.{IsWait}

-- the wait for a reply, from the moment behind the request on
abbrev pub wait_for : ProbeOptions → AwaitedReply → ℕ → Wait
wait_for m a now = record { at = m.me; awaited = Some a; since = now; millis = m.millis }

module _ (m : ProbeOptions) (request : List ℕ) (a : AwaitedReply) where
  -- A try, and the reply that it brings. `sent`: the request is sent to port 4342 of the server, and then the reply is
  -- waited for. `lost`: it can't be sent, and nothing is waited for.
  pub data IsTry : List WireStep → Option (List ℕ) → Type 0 where
    sent : (now : ℕ) (polls : List WireStep) (reply : Option (List ℕ)) → IsWait (wait_for m a now) polls reply
        → IsTry (step_of (Tried m.me a.from control_port request (Ok tt)) now ∷ polls) reply
    lost : (now : ℕ) (fault : NetFault)
        → IsTry (step_of (Tried m.me a.from control_port request (Err fault)) now ∷ []) None

  -- so many tries, none of which brings a reply
  pub data HasTried : ℕ → List WireStep → Type 0 where
    no_try : HasTried 0 []
    one_try : (n : ℕ) (before more : List WireStep) → HasTried n before → IsTry more None
        → HasTried (n + 1) (before ++ more)

  -- All tries of a question, and the reply that they bring. `answered`: the last try brings it, and there may be as
  -- many. `unanswered`: there are as many as there may be.
  pub data AreTries : List WireStep → Option (List ℕ) → Type 0 where
    answered : (n : ℕ) (before more : List WireStep) (bytes : List ℕ) → HasTried n before → n < m.tries
        → IsTry more (Some bytes) → AreTries (before ++ more) (Some bytes)
    unanswered : (before : List WireStep) → HasTried m.tries before → AreTries before None
