-- The turns of a running resolver, by its calls.
use Rattle.std.specs.Prelude.{ℕ, ◌≡◌, ◌+◌, ◌≤◌, ◌%◌, ◌⊎◌, List, [], ◌∷◌, ◌++◌, length, slice_get, Some, true, false}
use Rattle.ddt_path.specs.declared.locator.Locator.{Locator}
use Rattle.ddt_path.specs.declared.xeid.Xeid.{Xeid}
use Rattle.ddt_config.specs.Table.{Outline}
use Rattle.ddt_sockets.specs.declared.wire_calls.Call.{Call}
use Rattle.ddt_cache.specs.Moment.{last_moment}
use Rattle.ddt_resolver.specs.State.{State}
use Rattle.ddt_resolver.specs.Step.{Tick}
use Rattle.ddt_loop.specs.declared.lookup_end.LoopEnd.{LoopEnd}
use Rattle.ddt_loop.specs.Requesters.{opening_desk, has_unresolved}
use Rattle.ddt_loop.specs.Acts.{Running, running, AsksAt, HearsOrTicks}
use Rattle.ddt_loop.specs.Polls.{Polls}

-- So many of the identifiers have been asked for, in their order, at one moment.
pub data HaveAsked (me : Locator) (now : ℕ) (ids : List Xeid) (start : Running) : ℕ → List Call → Running → Type 0 where
  no_ask : HaveAsked me now ids start 0 [] start
  one_ask : {place : ℕ} {calls : List Call} {w : Running} (x : Xeid) (more : List Call) (new : Running)
      → HaveAsked me now ids start place calls w → slice_get ids place ≡ Some x → AsksAt me now place x w more new
      → HaveAsked me now ids start (place + 1) (calls ++ more) new

-- A turn, by its number, the first being 0: at one moment a socket is polled, and the resolver ticks.
pub record IsLoopTurn (servers : List Outline) (me : Locator) (sockets : List Locator) (number now : ℕ) (w : Running)
    (calls : List Call) (new : Running) : Type 0 where
  pub is_moment : now ≤ last_moment
  pub polling : List Call
  pub ticking : List Call
  pub midway : Running
  pub polls : Polls servers me sockets now (number % (length sockets + 1)) w polling midway
  pub ticks : HearsOrTicks me now Tick midway ticking new
  pub calls_are : calls ≡ polling ++ ticking

-- So many turns, each at its moment, and each while the lookup of an identifier hadn't ended.
pub data HaveTurned (servers : List Outline) (me : Locator) (sockets : List Locator) (start : Running) :
    ℕ → List ℕ → List Call → Running → Type 0 where
  no_turn : HaveTurned servers me sockets start 0 [] [] start
  one_turn : {number : ℕ} {moments : List ℕ} {calls : List Call} {w : Running} (now : ℕ) (turn : List Call)
      (new : Running) → HaveTurned servers me sockets start number moments calls w
      → has_unresolved w.desk.ends ≡ true → IsLoopTurn servers me sockets number now w turn new
      → HaveTurned servers me sockets start (number + 1) (moments ++ now ∷ []) (calls ++ turn) new

-- The turns, until the lookups of all identifiers have ended or so many turns are used.
pub record TurnsWithin (servers : List Outline) (me : Locator) (sockets : List Locator) (turns : ℕ) (start : Running)
    (moments : List ℕ) (calls : List Call) (new : Running) : Type 0 where
  pub count : ℕ
  pub turned : HaveTurned servers me sockets start count moments calls new
  pub within : count ≤ turns
  pub stops : (count ≡ turns) ⊎ (has_unresolved new.desk.ends ≡ false)

-- A whole run, from a resolver to a resolver, that has these ends: the asks at the first of the moments, and then the
-- turns at the others.
pub record IsLoop (servers : List Outline) (old : State) (me : Locator) (sockets : List Locator) (ids : List Xeid)
    (turns : ℕ) (moments : List ℕ) (calls : List Call) (ends : List LoopEnd) (new : State) : Type 0 where
  pub begin : ℕ
  pub later : List ℕ
  pub is_moment : begin ≤ last_moment
  pub asking : List Call
  pub turning : List Call
  pub asked : Running
  pub last : Running
  pub asks : HaveAsked me begin ids (running old (opening_desk ids)) (length ids) asking asked
  pub turns_are : TurnsWithin servers me sockets turns asked later turning last
  pub moments_are : moments ≡ begin ∷ later
  pub calls_are : calls ≡ asking ++ turning
  pub ends_are : ends ≡ last.desk.ends
  pub state_is : new ≡ last.state
