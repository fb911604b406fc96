-- A Map-Resolver, as its contracts see it.
use Rattle.std.specs.Prelude.{ℕ, List, Option}
use Rattle.ddt_resolver.specs.State.{moved}
use Rattle.ddt_loop.specs.Acts.{Running, running}
use Rattle.ddt_daemon.specs.declared.itr_requests.WaitingRequest.{WaitingRequest}
use Rattle.ddt_daemon.specs.declared.recent_requests.Recent.{Recent}
use Rattle.ddt_daemon.specs.declared.counts.ResolverCounts.{ResolverCounts}

-- a resolver, the requests that wait for its lookups, what it has counted, and the requests that came lately
pub record Resolving : Type 0 where
  pub running : Running
  pub kept : List WaitingRequest
  pub counts : ResolverCounts
  pub recent : List (Option Recent)

-- a resolver of these four parts, as a round or a tick begins with it and leaves it
abbrev pub resolving : Running → List WaitingRequest → ResolverCounts → List (Option Recent) → Resolving
resolving w k c r = record { running = w; kept = k; counts = c; recent = r }

-- the resolver at the moment of a request
abbrev pub at_moment : ℕ → Running → Running
at_moment now w = running (moved now w.state) w.desk
