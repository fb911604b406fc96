-- Waits at a socket, by their steps.
use Rattle.std.specs.Prelude.{ℕ, ◌≡◌, ◌-◌, ◌<◌, ◌≤◌, List, [], ◌∷◌, ◌++◌, length, Option, Some, None}
use Rattle.std.specs.List.{All}
use Rattle.ddt_path.specs.declared.locator.Locator.{Locator}
use Rattle.ddt_sockets.specs.declared.wire_calls.Call.{Call}
use Rattle.ddt_sockets.specs.declared.wire_calls.Call.TheVariants.{Received, Tried}
use Rattle.ddt_sockets.specs.Turns.{most_bytes}
use Rattle.ddt_asking.specs.declared.await_reply.Wait.{Wait}
use Rattle.ddt_asking.specs.Replies.{reply_of}
use Rattle.ddt_asking.specs.Steps.{WireStep}

-- how many polls a wait has at most
abbrev pub most_polls : ℕ
most_polls = 4294967295

-- a poll of a socket, whatever it answers
abbrev pub IsPoll : Locator → Call → Type 0
IsPoll me (Received at room answer bytes) = (at ≡ me) × (room ≡ most_bytes)
IsPoll me (Tried at to port bytes answer) = ⊥

-- less than the time of the wait has gone by
abbrev pub IsInTime : Wait → ℕ → Type 0
IsInTime w now = now - w.since < w.millis

-- a poll in time that doesn't give the awaited reply
pub record IsVain (w : Wait) (s : WireStep) : Type 0 where
  pub is_poll : IsPoll w.at s.call
  pub in_time : IsInTime w s.moment
  pub no_reply : reply_of w.awaited s.call ≡ None

-- A wait, and the reply that it brings. `replied`: behind polls in vain one in time gives the reply. `over`: behind
-- polls in vain there is one when the time is over. `used_up`: all polls that a wait may have are in vain.
pub data IsWait (w : Wait) : List WireStep → Option (List ℕ) → Type 0 where
  replied : (vain : List WireStep) (last : WireStep) (bytes : List ℕ) → All (IsVain w) vain → IsPoll w.at last.call
      → IsInTime w last.moment → reply_of w.awaited last.call ≡ Some bytes → IsWait w (vain ++ last ∷ []) (Some bytes)
  over : (vain : List WireStep) (last : WireStep) → All (IsVain w) vain → IsPoll w.at last.call
      → w.millis ≤ last.moment - w.since → IsWait w (vain ++ last ∷ []) None
  used_up : (vain : List WireStep) → All (IsVain w) vain → length vain ≡ most_polls → IsWait w vain None
