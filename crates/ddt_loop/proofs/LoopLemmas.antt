-- The asks and the turns so far.
use Rattle.std.proofs.Common.{◌≡◌, ℕ, zero, suc, ◌+◌, ◌-◌, ◌<◌, List, [], ◌∷◌, length, true, Some, arith, refl, ap, ◌∙◌, inl, None, Ok}
use Rattle.std.specs.Prelude.{Option, slice_get, IfNone}
use Rattle.ddt_path.specs.declared.locator.Locator.{Locator}
use Rattle.ddt_path.specs.declared.xeid.Xeid.{Xeid}
use Rattle.ddt_config.specs.Table.{Outline}
use Rattle.ddt_sockets.specs.declared.wire_calls.Call.{Call}
use Rattle.ddt_sockets.specs.Calls.{RecordsCalls, received}
use Rattle.ddt_sockets.specs.Turns.{most_bytes}
use Rattle.ddt_sockets.specs.laws.Tell.{tells_both, tells_none}
use Rattle.ddt_loop.specs.Requesters.{AreWaiting, has_unresolved}
use Rattle.ddt_loop.specs.Acts.{Running, AsksAt}
use Rattle.ddt_loop.specs.Polls.{IsNoPacket, PollsServer, Polls}
use Rattle.ddt_loop.specs.Turns.{HaveAsked, no_ask, one_ask, IsLoopTurn, HaveTurned, no_turn, one_turn}

-- ---- the asks

pub record IsAsking (before told : Option (List Call)) (me : Locator) (now : ℕ) (ids : List Xeid) (start w : Running) (place : ℕ) : Type 0 where
  pub calls : List Call
  pub tells : RecordsCalls before calls told
  pub asked : HaveAsked me now ids start place calls w
  pub waiting : AreWaiting w.state w.desk.waiting

pub asking_at_start : {told me now ids : _} {start : Running} → AreWaiting start.state start.desk.waiting → IsAsking told told me now ids start start 0
asking_at_start {told} owned = record { calls = []; tells = tells_none told; asked = no_ask; waiting = owned }

pub asking_on : {before midway told me now ids start w : _} {new : Running} {place x more : _} → IsAsking before midway me now ids start w place
    → slice_get ids place ≡ Some x → RecordsCalls midway more told → AsksAt me now place x w more new → AreWaiting new.state new.desk.waiting
    → IsAsking before told me now ids start new (place + 1)
asking_on {before} {midway} {told} so_far its tells asks owned =
    let all = tells_both before so_far.calls midway _ told so_far.tells tells in
    record { calls = _; tells = all; asked = one_ask _ _ _ so_far.asked its asks; waiting = owned }

-- ---- a poll

-- the call of `receive` that gives no packet
pub unanswered : (at answer buffer before after : _) → length buffer ≡ most_bytes → RecordsCalls before (received at (Ok answer) buffer ∷ []) after
    → IfNone answer ((call : Call) × IsNoPacket at call × RecordsCalls before (call ∷ []) after)
unanswered at None buffer before after room told = (received at (Ok None) buffer, inl (rw room), told)
unanswered at (Some p) buffer before after room told = tt

pub at_server : (servers me sockets now place w calls at : _) → 0 < place → slice_get sockets (place - 1) ≡ Some at → PollsServer servers at calls
    → Polls servers me sockets now place w calls w
at_server servers me sockets now zero w calls at above is polls = absurd (omega arith)
at_server servers me sockets now (suc k) w calls at above is polls =
    let same : k ≡ suc k - 1 = omega arith in (at, ap (slice_get sockets) same ∙ is, polls, refl)

-- ---- the turns

pub record IsTurning (unread read : Option (List ℕ)) (before told : Option (List Call)) (servers : List Outline) (me : Locator)
    (sockets : List Locator) (start w : Running) (number : ℕ) : Type 0 where
  pub moments : List ℕ
  pub calls : List Call
  pub reads : RecordsCalls unread moments read
  pub tells : RecordsCalls before calls told
  pub turned : HaveTurned servers me sockets start number moments calls w
  pub waiting : AreWaiting w.state w.desk.waiting

pub turning_at_start : {read told servers me sockets : _} {start : Running} → AreWaiting start.state start.desk.waiting
    → IsTurning read read told told servers me sockets start start 0
turning_at_start {read} {told} owned =
    record { moments = []; calls = []; reads = tells_none read; tells = tells_none told; turned = no_turn; waiting = owned }

pub turning_on : {unread between read before midway told servers me sockets start w : _} {new : Running} {number moment turn : _}
    → IsTurning unread between before midway servers me sockets start w number → has_unresolved w.desk.ends ≡ true → RecordsCalls between (moment ∷ []) read
    → RecordsCalls midway turn told → IsLoopTurn servers me sockets number moment w turn new → AreWaiting new.state new.desk.waiting
    → IsTurning unread read before told servers me sockets start new (number + 1)
turning_on {unread} {between} {read} {before} {midway} {told} so_far more reads tells is owned =
    let all_read = tells_both unread so_far.moments between _ read so_far.reads reads in
    let all_told = tells_both before so_far.calls midway _ told so_far.tells tells in
    record { moments = _; calls = _; reads = all_read; tells = all_told; turned = one_turn _ _ _ so_far.turned more is; waiting = owned }
