-- A lookup that waits for the reply to its last request, and how many more it can send.
use Rattle.std.specs.Prelude.{ℕ, ◌≡◌, ◌+◌, ◌<◌, ◌≤◌, ◌^◌, Some}
use Rattle.std.specs.Option.{option_map_or}
use Rattle.std.specs.FinMap.{get}
use Rattle.ddt_path.specs.declared.xeid.Xeid.{Xeid}
use Rattle.ddt_path.specs.declared.locator.Locator.{Locator}
use Rattle.ddt_wire.specs.Address.{IsAddress}
use Rattle.ddt_resolver.specs.declared.pending.Pending.{Pending}
use Rattle.ddt_resolver.specs.declared.results.Outgoing.{Outgoing}
use Rattle.ddt_resolver.specs.State.{State, server, request_bytes, reply_timeout_ms}
use Rattle.ddt_resolver.specs.Bound.{measure}
use Rattle.ddt_sim.specs.declared.exchange.LookupProgress.{LookupProgress}
use Rattle.ddt_sim.specs.declared.exchange.LookupProgress.TheVariants.{GoesOn, Ends}

-- The lookup of x under the ticket t waits for the reply to the request d, which was sent at the resolver's time.
pub record Waits (now : ℕ) (x : Xeid) (s : State) (t : ℕ) (d : Outgoing) : Type 0 where
  pub lookup : Pending
  pub is_pending : get s.pending t ≡ Some lookup
  pub its_x : lookup.x ≡ x
  pub to : d.to ≡ server s.me lookup
  pub bytes : d.bytes ≡ request_bytes lookup.nonce x s.me
  pub deadline : lookup.deadline ≡ s.known.time + reply_timeout_ms
  pub time : now ≤ s.known.time

-- a lookup of some identifier waits for it
pub record IsAwaited (now : ℕ) (s : State) (t : ℕ) (d : Outgoing) : Type 0 where
  pub identifier : Xeid
  pub waits : Waits now identifier s t d

-- how many requests the lookup of a ticket can send yet, this one among them
abbrev pub requests_left : State → ℕ → ℕ
requests_left s t = option_map_or measure (get s.pending t) 0

-- how many after a reply
abbrev pub left_after : State → ℕ → LookupProgress → ℕ
left_after new t (GoesOn e) = requests_left new t
left_after new t (Ends o) = 0

-- an identifier and an address whose numbers lie in the ranges of their types, so that a request can spell them
pub record CanBeAsked (x : Xeid) (me : Locator) : Type 0 where
  pub iid_fits : x.iid < 2 ^ 32
  pub address_fits : IsAddress x.address
  pub me_fits : IsAddress me
