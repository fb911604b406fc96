-- Requests that came lately, each in the place of its nonce.
use Rattle.std.specs.Prelude.{ℕ, ◌≡◌, ◌≢◌, ◌<◌, ◌-◌, ◌%◌, ◌==◌, ◌&&◌, Bool, true, not, nat_lt, List, length, slice_index_or, Option, Some, None}
use Rattle.ddt_path.specs.declared.locator.Locator.{Locator}
use Rattle.ddt_path.specs.Locators.{is_same_locator}
use Rattle.ddt_resolver.specs.declared.itr_messages.ItrRequest.{ItrRequest}
use Rattle.ddt_daemon.specs.declared.recent_requests.Recent.{Recent}
use Rattle.ddt_daemon.specs.WaitingRequest.{is_same_request}

-- the milliseconds for which a request is remembered
abbrev pub memory : ℕ
memory = 4000

-- the most requests remembered
abbrev pub most_recent : ℕ
most_recent = 4096

-- a request that comes from there at this moment
abbrev pub coming : ItrRequest → Locator → ℕ → Recent
coming q from_ now = record { request = q; from = from_; at = now }

-- the place of a request: what is left of its nonce
abbrev pub place_of : Recent → ℕ
place_of came = came.request.nonce % most_recent

-- the request that is remembered in a place, if one is
abbrev pub recent_in : List (Option Recent) → ℕ → Option Recent
recent_in places place = slice_index_or places place None

-- whether a request comes back: the same came before, less than 4,000 milliseconds ago, from another address
abbrev pub comes_back : Recent → Recent → Bool
comes_back before now =
    (is_same_request before.request now.request && nat_lt (now.at - before.at) memory)
    && not (is_same_locator before.from now.from)

-- the same request is remembered, in the place of this one, and this one comes back
abbrev pub HasBefore : List (Option Recent) → Recent → Type 0
HasBefore places now =
    (before : Recent) × (recent_in places (place_of now) ≡ Some before) × (comes_back before now ≡ true)

-- What is remembered after a request came. `in_place`: it, in its place, and in each other what was there. `no_memory`:
-- what was, where there is no memory for all places.
pub data Remembers (old : List (Option Recent)) (came : Recent) (new : List (Option Recent)) : Type 0 where
  in_place : recent_in new (place_of came) ≡ Some came
      → ((place : ℕ) → place ≢ place_of came → recent_in new place ≡ recent_in old place) → Remembers old came new
  no_memory : length old < most_recent → new ≡ old → Remembers old came new

-- a request doesn't come back, and is remembered
pub record IsNew (old : List (Option Recent)) (came : Recent) (new : List (Option Recent)) : Type 0 where
  pub never_before : HasBefore old came → ⊥
  pub remembers : Remembers old came new
