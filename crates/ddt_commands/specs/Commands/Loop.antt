-- `loop REGISTER XEID... [--me ADDRESS] [--seed N] [--turns N]`: the servers of a register and one resolver over the
-- sockets of the loopback, for so many turns (RFC 8111, section 7).
use Rattle.std.specs.Prelude.{ℕ, Bool, true, false, ◌≡◌, List, ◌++◌, map, codes, Option, None, Some, Result, Ok, Err, []}
use Rattle.std.specs.Prelude.{◌∷◌, count_by}
use Rattle.std.specs.IoError.{error_kind}
use Rattle.std.specs.List.{AllZip, flat_map, list_all, zip}
use Rattle.std.specs.Option.{option_or}
use Rattle.std.specs.declared.io.Error.{Error}
use Rattle.ddt_path.specs.declared.locator.Locator.{Locator}
use Rattle.ddt_path.specs.declared.xeid.Xeid.{Xeid}
use Rattle.ddt_path.specs.Locators.{lists}
use Rattle.ddt_text.specs.FirstFault.{number_in, xeid_in}
use Rattle.ddt_text.specs.Written.{written_xeid}
use Rattle.ddt_register.specs.declared.register.Register.{Register}
use Rattle.ddt_check.specs.Zones.{roots}
use Rattle.ddt_sockets.specs.declared.wire_calls.Call.{Call as WireCall}
use Rattle.ddt_sockets.specs.Calls.{RecordsCalls}
use Rattle.ddt_resolver.specs.State.{State, fresh}
use Rattle.ddt_sim.specs.Compiled.{configs_of}
use Rattle.ddt_loop.specs.declared.lookup_end.LoopEnd.{LoopEnd}
use Rattle.ddt_loop.specs.declared.lookup_end.LoopEnd.TheVariants.{Answer, GaveUp, Refused, Unresolved}
use Rattle.ddt_loop.specs.Requesters.{has_unresolved}
use Rattle.ddt_loop.specs.Right.{ArePacketsFair, IsRightLoopEnd, RepliesAreOwed, WhenTold, is_poll}
use Rattle.ddt_loop.specs.Turns.{IsLoop}
use Rattle.ddt_lines.specs.Lines.{ended, outcome_text}
use Rattle.ddt_commands.specs.CommandLine.Call.{Call, setting}
use Rattle.ddt_commands.specs.declared.commands.loops.task.Task.{Task}
use Rattle.ddt_commands.specs.declared.refusal.Refusal.{Refusal}
use Rattle.ddt_commands.specs.declared.refusal.Refusal.TheVariants.{BadWord, NoServer, OutOfMemory}
use Rattle.ddt_commands.specs.declared.refusal.server.ServerRefusal.TheVariants.{NotLoopback}
use Rattle.ddt_commands.specs.declared.refusal.bad_word.WordRefusal.{WordRefusal}
use Rattle.ddt_commands.specs.Commands.Lookup.{address_refusal, bad_identifier, me_of, number_refusal, seed_of, why_text, xeid_words}
use Rattle.ddt_commands.specs.Loopback.{first_outside, is_loopback}
use Rattle.ddt_commands.specs.Over.{OfItsRegister, path}
use Rattle.ddt_commands.specs.Register.{IsWhyNoRegister}
use Rattle.ddt_commands.specs.Commands.Replay.{ask_error_text}
use Rattle.ddt_commands.specs.Commands.Serve.{most_turns}
use Rattle.ddt_commands.specs.Sockets.{AreBound, Binding, IsUnbound, bind_refusal}
use Rattle.ddt_commands.specs.declared.command_line.declaration.Declaration.{Declaration}
use Rattle.ddt_commands.specs.CommandLine.Line.{one, setting as optional, several, takes}
use Rattle.ddt_commands.specs.Ends.{Prints, prints}

-- ---- what the words ask for

-- the greatest number of turns: 20,000 where none is given
abbrev pub turns_in : Option (List ℕ) → Option ℕ
turns_in None = Some 20000
turns_in (Some word) = number_in most_turns word

-- The most turns that a run may take: as `--turns` says, else 20,000; none where the word is no number below 2^32.
abbrev pub turns_of : Call → Option ℕ
turns_of call = turns_in (setting (codes "turns") call)

-- the first bad word: the identifiers from left to right, then the address, the seed and the turns
abbrev pub bad_loop : Call → Option WordRefusal
bad_loop call =
    option_or (bad_identifier (xeid_words call)) (option_or (address_refusal (me_of call))
    (option_or (number_refusal (seed_of call)) (number_refusal (turns_of call))))

-- the good words of a call ask for this task
pub record CallsForTask (call : Call) (task : Task) : Type 0 where
  pub identifiers : map xeid_in (xeid_words call) ≡ map Ok task.ids.now
  pub address : me_of call ≡ Ok task.me
  pub first : seed_of call ≡ Some task.seed
  pub most : turns_of call ≡ Some task.turns
  pub loopback : is_loopback task.me ≡ true

-- ---- the sockets

-- the locators of all servers, in the order of the groups' rows
abbrev pub server_locators : Register → List Locator
server_locators r = flat_map (λ g. g.locators) r.groups

-- where sockets are bound: the resolver's own first
abbrev pub socket_locators : Locator → Register → List Locator
socket_locators me_ r = me_ ∷ server_locators r

-- ---- the run

-- This is so of the calls that wires told of a run, if they are fair (each reply from a server to a request is what
-- the register says there) and the resolver's address is none of the servers'.
abbrev pub WhereFair : Register → Locator → Option (List WireCall) → Option (List WireCall) → (List WireCall → Type 0)
    → Type 0
WhereFair r me_ before after fact =
    lists (server_locators r) me_ ≡ false → WhenTold before after (λ calls. ArePacketsFair r me_ calls → fact calls)

-- A run by a new resolver with the root locators of the register, over its servers, from wires and a clock that told
-- this before and tell that after. Where its wires are fair, each outcome is what the register assigns, and each reply
-- to an ITR is for that. An identifier is unresolved only if all turns were used.
pub record IsRun (r : Register) (task : Task) (before after : Option (List WireCall)) (read reads : Option (List ℕ))
    (ends : List LoopEnd) : Type 0 where
  pub moments : List ℕ
  pub calls : List WireCall
  pub last : State
  pub reading : RecordsCalls read moments reads
  pub telling : RecordsCalls before calls after
  pub run : IsLoop (configs_of r) (fresh (roots r) task.me task.seed) task.me (server_locators r) task.ids.now
      task.turns moments calls ends last
  pub answers : WhereFair r task.me before after (λ told. AllZip (IsRightLoopEnd r) task.ids.now ends)
  pub replies : WhereFair r task.me before after (RepliesAreOwed r task.me)
  pub unresolved : WhenTold before after (λ told. has_unresolved ends ≡ true → count_by is_poll told ≡ task.turns)

-- what comes of a task over the servers of a register: the ends of its identifiers, or the locator whose socket wasn't
-- bound, and why
abbrev pub Looping : Type 1
Looping = Register → Task → Result (List LoopEnd) (Locator × Error) → Type 0

-- wires are left as they were, and a clock isn't read
abbrev pub AreUntouched : {W C : Type 0} → W → W → C → C → Type 0
AreUntouched before after clock clock_after = (after ≡ before) × (clock_after ≡ clock)

-- The same over wires and a clock, from these to those: a run over the wires whose sockets were bound; or one socket
-- wasn't bound, and the clock wasn't read.
abbrev pub LoopsOver : {W C : Type 0} → Binding W → (W → Option (List WireCall)) → (C → Option (List ℕ)) → W → W → C → C
    → Looping
LoopsOver {W} binds calls readings before after clock clock_after r task (Ok ends) =
    (bound : W) × AreBound binds before (socket_locators task.me r) bound
    × IsRun r task (calls bound) (calls after) (readings clock) (readings clock_after) ends
LoopsOver binds calls readings before after clock clock_after r task (Err unbound) =
    IsUnbound binds before (socket_locators task.me r) unbound.0 unbound.1 after × (clock_after ≡ clock)

-- ---- what is printed

-- What is printed behind an identifier: its outcome, why its lookup gave up, why the ask was refused, or `unresolved`
-- where the turns were used first.
abbrev pub end_text : LoopEnd → List ℕ
end_text (Answer o) = outcome_text o
end_text (GaveUp why) = codes "gave-up " ++ why_text why
end_text (Refused why) = codes "refused " ++ ask_error_text why
end_text Unresolved = codes "unresolved"

-- the line of an identifier and its end
abbrev pub end_line : Xeid × LoopEnd → List ℕ
end_line (x, end) = ended (written_xeid x ++ codes " " ++ end_text end)

-- a line for each identifier, in their order
abbrev pub end_lines : List Xeid → List LoopEnd → List ℕ
end_lines ids ends = flat_map end_line (zip ids ends)

-- The lookup ended with an outcome, of which a delegation hole is one. Lines are complete, and the exit status is 0,
-- only where this is so of each identifier.
abbrev pub is_outcome : LoopEnd → Bool
is_outcome (Answer o) = true
is_outcome (GaveUp why) = false
is_outcome (Refused why) = false
is_outcome Unresolved = false

-- ---- the command

-- The lines of the ends of a call's identifiers over the servers of a register, which are complete where each end is an
-- outcome. All servers are at loopback addresses.
pub record IsEndsText (loops : Looping) (call : Call) (r : Register) (complete : Bool) (text : List ℕ) : Type 0 where
  pub task : Task
  pub asks : CallsForTask call task
  pub on_loopback : first_outside (server_locators r) ≡ None
  pub ends : List LoopEnd
  pub come : loops r task (Ok ends)
  pub lines : text ≡ end_lines task.ids.now ends
  pub whole : complete ≡ list_all is_outcome ends

-- what a call prints
abbrev pub IsLoopText : {F : Type 0} → (List ℕ → Option F → Type 0) → (F → Option (List ℕ)) → Looping → Call → Bool
    → List ℕ → Type 0
IsLoopText opens remaining loops call complete text =
    (source : Option _) × opens (path call) source
    × OfItsRegister remaining source (λ r. IsEndsText loops call r complete text)

-- Why there are no lines of a register. `outside`: a server isn't at a loopback address. `unbound`: a socket isn't
-- bound. `no_memory`: memory runs out, before the run or behind it; of wires and clock it says nothing.
pub data IsWhyNoRun (untouched : Type 0) (loops : Looping) (call : Call) (r : Register) : Refusal → Type 0 where
  outside : (at : Locator) → untouched → first_outside (server_locators r) ≡ Some at
      → IsWhyNoRun untouched loops call r (NoServer (NotLoopback at))
  unbound : {why : Refusal} (task : Task) (at : Locator) (error : Error) → CallsForTask call task
      → first_outside (server_locators r) ≡ None → loops r task (Err (at, error))
      → why ≡ bind_refusal at (error_kind error) → IsWhyNoRun untouched loops call r why
  no_memory : IsWhyNoRun untouched loops call r OutOfMemory

-- Why it refuses. `bad`: its first bad word. `not_loopback`: the resolver's address isn't a loopback address.
-- `no_file`: the register. `no_run`: there are no lines of what the register gives. Unless memory runs out, wires and
-- clock are untouched until sockets are bound.
pub data IsWhyNotLooped {F : Type 0} (opens : List ℕ → Option F → Type 0) (remaining : F → Option (List ℕ))
    (untouched : Type 0) (loops : Looping) (call : Call) : Refusal → Type 0 where
  bad : (w : WordRefusal) → untouched → bad_loop call ≡ Some w
      → IsWhyNotLooped opens remaining untouched loops call (BadWord w)
  not_loopback : (me_ : Locator) → untouched → bad_loop call ≡ None → me_of call ≡ Ok me_ → is_loopback me_ ≡ false
      → IsWhyNotLooped opens remaining untouched loops call (NoServer (NotLoopback me_))
  no_file : {why : Refusal} (me_ : Locator) (source : Option F) → untouched → bad_loop call ≡ None → me_of call ≡ Ok me_
      → is_loopback me_ ≡ true → opens (path call) source → IsWhyNoRegister remaining source (path call) why
      → IsWhyNotLooped opens remaining untouched loops call why
  no_run : {why : Refusal} (me_ : Locator) (source : Option F) → bad_loop call ≡ None → me_of call ≡ Ok me_
      → is_loopback me_ ≡ true → opens (path call) source
      → OfItsRegister remaining source (λ r. IsWhyNoRun untouched loops call r why)
      → IsWhyNotLooped opens remaining untouched loops call why

-- what `loop` takes
abbrev pub loop_takes : Declaration
loop_takes =
    takes (codes "loop") (one (codes "register") ∷ several (codes "xeid") ∷ optional (codes "me")
    ∷ optional (codes "seed") ∷ optional (codes "turns") ∷ [])

-- what `loop` prints of a call
abbrev pub loop_prints : {F : Type 0} → (List ℕ → Option F → Type 0) → (F → Option (List ℕ)) → Type 0 → Looping → Call
    → Prints
loop_prints opens remaining untouched loops call =
    prints (λ complete text. IsLoopText opens remaining loops call complete text)
    (λ why. IsWhyNotLooped opens remaining untouched loops call why)
