-- `replay REGISTER SCRIPT [REGISTER...] [--me ADDRESS] [--seed N]`: a schedule of a resolver among the servers of the
-- registers, and a line for each of its steps (RFC 8111, section 7.3).
use Rattle.std.specs.Prelude.{ℕ, ◌+◌, ◌<◌, ◌≡◌, ◌≢◌, ◌⊎◌, ⊤, List, [], ◌∷◌, ◌++◌, length, map, take, get_or, slice_get, unwrap_or, All, codes, decimal, Option, None, Some, Ok, true}
use Rattle.std.specs.Option.{option_or}
use Rattle.ddt_path.specs.declared.locator.Locator.{Locator}
use Rattle.ddt_path.specs.declared.record.Outcome.{Outcome}
use Rattle.ddt_text.specs.Written.{written_locator}
use Rattle.ddt_register.specs.declared.register.Register.{Register}
use Rattle.ddt_check.specs.Zones.{roots}
use Rattle.ddt_resolver.specs.declared.results.Outgoing.{Outgoing}
use Rattle.ddt_resolver.specs.declared.results.Asked.TheVariants as asked_as
use Rattle.ddt_resolver.specs.declared.results.AskError.{AskError}
use Rattle.ddt_resolver.specs.declared.results.AskError.TheVariants.{TooMany, Exhausted, Memory}
use Rattle.ddt_resolver.specs.declared.results.Heard.TheVariants as heard_as
use Rattle.ddt_resolver.specs.declared.results.Ignored.{Ignored as WhyIgnored}
use Rattle.ddt_resolver.specs.declared.results.Ignored.TheVariants.{Undecodable, UnknownNonce, WrongSource, Late, NotCovering, NoServers}
use Rattle.ddt_resolver.specs.declared.results.Ticked.TheVariants as ticked_as
use Rattle.ddt_resolver.specs.declared.results.Why.{Why}
use Rattle.ddt_resolver.specs.State.{State, fresh}
use Rattle.ddt_sim.specs.declared.schedule.Step.{Step}
use Rattle.ddt_sim.specs.declared.schedule.Event.{Event}
use Rattle.ddt_sim.specs.declared.schedule.Event.TheVariants.{Asked, Refused, Replied, Silent, Heard, Passed, Ticked, Replaced, Nothing}
use Rattle.ddt_sim.specs.declared.schedule.Transcript.{Transcript}
use Rattle.ddt_sim.specs.Compiled.{AreCompiled, configs_of}
use Rattle.ddt_sim.specs.History.{Line, Each, IsTranscriptOf as TellsRun}
use Rattle.ddt_sim.specs.Schedules.{KeepServers, IsRightAnswer, IsRightReply, IsOnce, IsRightFailureLine}
use Rattle.ddt_sim.specs.InForce.{IsAnswerSince, IsAnswerOfLate, IsReplyInForce, IsFailureInForce, IsNoReplyInForce}
use Rattle.ddt_sim.specs.Tries.{IsRightNoReply}
use Rattle.ddt_sim.specs.World.{Members, members, request_at}
use Rattle.ddt_lines.specs.Lines.{ended, outcome_text}
use Rattle.ddt_commands.specs.CommandLine.Call.{Call, all_values, value}
use Rattle.ddt_commands.specs.declared.refusal.Refusal.{Refusal}
use Rattle.ddt_commands.specs.declared.refusal.Refusal.TheVariants.{BadWord, NoRegister, NoScript, OutOfMemory}
use Rattle.ddt_commands.specs.declared.refusal.register_file.RegisterRefusal.TheVariants.{OtherRoots}
use Rattle.ddt_commands.specs.declared.refusal.script.ScriptRefusal.TheVariants.{CannotOpen, RefusedLine}
use Rattle.ddt_commands.specs.declared.refusal.bad_word.WordRefusal.{WordRefusal}
use Rattle.ddt_commands.specs.declared.commands.replay.script.ScriptFault.{ScriptFault}
use Rattle.ddt_commands.specs.declared.commands.replay.script.ScriptFault.TheVariants as fault
use Rattle.ddt_commands.specs.Commands.Lookup.{address_refusal, me_of, number_refusal, seed_of, why_text}
use Rattle.ddt_commands.specs.Over.{OfItsRegister, path}
use Rattle.ddt_commands.specs.Register.{IsWhyNoRegister, HasBytes}
use Rattle.ddt_commands.specs.Commands.Script.{IsRefusedAt, SpellsScript}
use Rattle.ddt_commands.specs.declared.command_line.declaration.Declaration.{Declaration}
use Rattle.ddt_commands.specs.CommandLine.Line.{any, one, setting, takes}
use Rattle.ddt_commands.specs.Ends.{Prints, prints}

-- ---- the line of a step

-- the names of why an ask is refused, and of why a datagram is ignored
abbrev pub ask_error_text : AskError → List ℕ
ask_error_text TooMany = codes "TooMany"
ask_error_text Exhausted = codes "Exhausted"
ask_error_text Memory = codes "Memory"

-- The name of why the resolver ignored a datagram. It tests for these reasons in this order, and names the first.
abbrev pub ignored_text : WhyIgnored → List ℕ
ignored_text Undecodable = codes "Undecodable"
ignored_text UnknownNonce = codes "UnknownNonce"
ignored_text WrongSource = codes "WrongSource"
ignored_text Late = codes "Late"
ignored_text NotCovering = codes "NotCovering"
ignored_text NoServers = codes "NoServers"

-- of a ticket: a request was sent, as the datagram of this number; an outcome; why there is none
abbrev pub sent_text : ℕ → ℕ → Outgoing → List ℕ
sent_text t number d =
    codes "ticket " ++ decimal t ++ codes " sent " ++ decimal number ++ codes " to " ++ written_locator d.to

-- The outcome of the lookup with this ticket. A ticket's number is the nonce of the lookup's first request.
abbrev pub answer_text : ℕ → Outcome → List ℕ
answer_text t o = codes "ticket " ++ decimal t ++ codes " answer " ++ outcome_text o

-- Why the lookup with this ticket ended without an outcome.
abbrev pub gave_up_text : ℕ → Why → List ℕ
gave_up_text t why = codes "ticket " ++ decimal t ++ codes " gave-up " ++ why_text why

-- what came of a step; a request that was sent is the datagram of this number
abbrev pub event_text : ℕ → Event → List ℕ
event_text number (Asked (asked_as.Answer o)) = codes "answer " ++ outcome_text o
event_text number (Asked (asked_as.Sent t d)) = sent_text t number d
event_text number (Refused why) = codes "refused " ++ ask_error_text why
event_text number (Replied k) = codes "reply " ++ decimal k
event_text number Silent = codes "silent"
event_text number (Heard (heard_as.Ignored why)) = codes "ignored " ++ ignored_text why
event_text number (Heard (heard_as.Followed t d)) = sent_text t number d
event_text number (Heard (heard_as.Answer t o)) = answer_text t o
event_text number (Heard (heard_as.GaveUp t why)) = gave_up_text t why
event_text number (Passed moment) = codes "now " ++ decimal moment
event_text number (Ticked ticked_as.Nothing) = codes "nothing"
event_text number (Ticked (ticked_as.Sent t d)) = sent_text t number d
event_text number (Ticked (ticked_as.Answer t o)) = answer_text t o
event_text number (Ticked (ticked_as.GaveUp t why)) = gave_up_text t why
event_text number (Replaced k) = codes "replaced " ++ decimal k
event_text number Nothing = codes "nothing"

-- The lines of a run, the newest last. The number of a request is how many datagrams were sent before it.
abbrev pub run_text : List Line → List ℕ
run_text [] = []
run_text (line ∷ past) = run_text past ++ ended (event_text (length line.before.sent) line.event)

-- how many requests a resolver sends where it has this one to send, or none
abbrev pub requests : Option Outgoing → ℕ
requests None = 0
requests (Some d) = 1

-- How many datagrams are sent at an event: 1 for a request of the resolver or for a server's reply, else 0.
abbrev pub datagrams_at : Event → ℕ
datagrams_at (Replied k) = 1
datagrams_at event = requests (request_at event)

-- The lines of these events, the earliest first, where so many datagrams were sent before them; the number is counted
-- along the events.
abbrev pub lines_from : ℕ → List Event → List ℕ
lines_from number [] = []
lines_from number (event ∷ events) =
    ended (event_text number event) ++ lines_from (number + datagrams_at event) events

-- ---- the run

-- the register of each number: the first, then the others in their order; the first too for numbers past the list
abbrev pub numbered : Register → List Register → ℕ → Register
numbered first others k = get_or (first ∷ others) k first

-- the servers of registers, each register's a member of its number
abbrev pub servers_of : Register → List Register → Members
servers_of first others = members AreCompiled AreCompiled (map configs_of (first ∷ others))

-- What holds of a run in which no step replaces the servers: each answer is what the first register assigns to the
-- identifier of its own ask, each request that is delivered has its reply, and nothing is refused, ignored or given up
-- without its reason.
pub record IsOfOne (r : Register) (past : List Line) : Type 0 where
  pub answers : Each (IsRightAnswer r) past
  pub replies : Each (IsRightReply r) past
  pub failures : Each IsRightFailureLine past
  pub no_reply : Each (IsRightNoReply r) past

-- What holds of any run: each answer to a ticket is what a register assigns that was in force since its ask, and each
-- answer at once that of one in force less than 902,000 milliseconds before. Requests are delivered to the servers in
-- force, no ticket ends twice, and a lookup gives up for want of a reply only where it was in vain.
pub record IsOfSome (registers : ℕ → Register) (past : List Line) : Type 0 where
  pub answers : Each (IsAnswerSince registers) past
  pub remembered : Each (IsAnswerOfLate registers) past
  pub replies : Each (IsReplyInForce registers) past
  pub failures : Each IsFailureInForce past
  pub no_reply : Each IsNoReplyInForce past
  pub once : Each IsOnce past

-- What has happened in a run of these steps, by a new resolver with the root locators of the first register, over the
-- servers of registers that all have these root locators; those of the first are in force at first.
pub record IsRunOf (first : Register) (others : List Register) (me_ : Locator) (seed : ℕ) (steps : List Step)
    (past : List Line) : Type 0 where
  pub transcript : Transcript
  pub last : State
  pub told : TellsRun (servers_of first others) (fresh (roots first) me_ seed) steps transcript last past
  pub of_one : KeepServers steps → IsOfOne first past
  pub of_some : IsOfSome (numbered first others) past

-- the lines of such a run
abbrev pub IsRunText : Register → List Register → Locator → ℕ → List Step → List ℕ → Type 0
IsRunText first others me_ seed steps text =
    (past : List Line) × IsRunOf first others me_ seed steps past × (text ≡ run_text past)

-- ---- the files

-- A script was opened, and this is so of its steps. Where the file tells its bytes, they spell them.
abbrev pub OfItsScript : {F : Type 0} → (F → Option (List ℕ)) → Option F → (List Step → Type 0) → Type 0
OfItsScript remaining source is_so =
    (source ≢ None)
    × ((steps : List Step)
    × ((bytes : List ℕ) → HasBytes remaining source bytes → SpellsScript bytes steps) × is_so steps)

-- what is refused where bytes spell no script
abbrev pub script_refusal : ScriptFault → Refusal
script_refusal (fault.Line number) = NoScript (RefusedLine number)
script_refusal fault.Memory = OutOfMemory

-- why a path gives no script: it can't be opened or read, or a line of its bytes spells no step; memory may run out
-- once a file is open
abbrev pub IsWhyNoScript : {F : Type 0} → (F → Option (List ℕ)) → Option F → List ℕ → Refusal → Type 0
IsWhyNoScript remaining source path (NoScript (CannotOpen name)) = name.now ≡ path
IsWhyNoScript remaining (Some file) path (NoScript (RefusedLine number)) =
    (bytes : List ℕ) → remaining file ≡ Some bytes → IsRefusedAt bytes number
IsWhyNoScript remaining (Some file) path OutOfMemory = ⊤
IsWhyNoScript remaining source path why = ⊥

-- the path was opened, and gives this accepted register
abbrev pub IsRegisterAt : {F : Type 0} → (List ℕ → Option F → Type 0) → (F → Option (List ℕ)) → List ℕ → Register
    → Type 0
IsRegisterAt opens remaining path r =
    (source : Option _) × opens path source × OfItsRegister remaining source (λ own. own ≡ r)

-- so it is of each of these paths and its register
abbrev pub AreRegistersAt : {F : Type 0} → (List ℕ → Option F → Type 0) → (F → Option (List ℕ)) → List (List ℕ)
    → List Register → Type 0
AreRegistersAt opens remaining [] [] = Unit {0}
AreRegistersAt opens remaining [] (r ∷ rs) = ⊥
AreRegistersAt opens remaining (path ∷ paths) [] = ⊥
AreRegistersAt opens remaining (path ∷ paths) (r ∷ rs) =
    IsRegisterAt opens remaining path r × AreRegistersAt opens remaining paths rs

-- of these registers that of this place is the first whose root locators aren't those of another
pub record IsFirstOther (first : Register) (others : List Register) (place : ℕ) : Type 0 where
  pub within : place < length others
  pub differs : roots (get_or others place first) ≢ roots first
  pub before : (k : ℕ) → k < place → roots (get_or others k first) ≡ roots first

-- the refusal names this path as one whose register has other root locators
abbrev pub NamesOtherRoots : Refusal → List ℕ → Type 0
NamesOtherRoots (NoRegister (OtherRoots name)) path = name.now ≡ path
NamesOtherRoots why path = ⊥

-- Why the paths of further registers give none to replay over. `no_register`: the first path that gives no accepted
-- register. `other_roots`: all give one, and this is the first with other root locators.
pub data IsWhyNoMore {F : Type 0} (opens : List ℕ → Option F → Type 0) (remaining : F → Option (List ℕ))
    (first : Register) (paths : List (List ℕ)) (why : Refusal) : Type 0 where
  no_register : (k : ℕ) (path : List ℕ) (registers : List Register) (source : Option F) → slice_get paths k ≡ Some path
      → AreRegistersAt opens remaining (take k paths) registers → opens path source
      → IsWhyNoRegister remaining source path why → IsWhyNoMore opens remaining first paths why
  other_roots : (k : ℕ) (path : List ℕ) (registers : List Register) → slice_get paths k ≡ Some path
      → AreRegistersAt opens remaining paths registers → IsFirstOther first registers k → NamesOtherRoots why path
      → IsWhyNoMore opens remaining first paths why

-- the text of a replay: the register's path, then the script's, then those of further registers were opened; all have
-- the root locators of the first, and the lines are those of a run
abbrev pub IsReplayOf : {F : Type 0} → (List ℕ → Option F → Type 0) → (F → Option (List ℕ)) → List ℕ → List ℕ
    → List (List ℕ) → Locator → ℕ → List ℕ → Type 0
IsReplayOf opens remaining register script more me_ seed text =
    (source : Option _) × opens register source × OfItsRegister remaining source (λ r.
    (other : Option _) × opens script other × OfItsScript remaining other (λ steps.
    (others : List Register) × AreRegistersAt opens remaining more others × All (λ q. roots q ≡ roots r) others
    × IsRunText r others me_ seed steps text))

-- why there is none: the register, then the script, then the further registers; memory may run out once the files are
-- open
abbrev pub IsWhyNotReplayed : {F : Type 0} → (List ℕ → Option F → Type 0) → (F → Option (List ℕ)) → List ℕ → List ℕ
    → List (List ℕ) → Refusal → Type 0
IsWhyNotReplayed opens remaining register script more why =
    (source : Option _) × opens register source × (IsWhyNoRegister remaining source register why
    ⊎ OfItsRegister remaining source (λ r. (other : Option _) × opens script other
    × (IsWhyNoScript remaining other script why
    ⊎ OfItsScript remaining other (λ steps. IsWhyNoMore opens remaining r more why))))

-- what a replay of a script over registers prints, by a resolver with this address and this first nonce
abbrev pub script_prints : {F : Type 0} → (List ℕ → Option F → Type 0) → (F → Option (List ℕ)) → List ℕ → List ℕ
    → List (List ℕ) → Locator → ℕ → Prints
script_prints opens remaining register script more me_ seed =
    prints (λ complete text. (complete ≡ true) × IsReplayOf opens remaining register script more me_ seed text)
    (λ why. IsWhyNotReplayed opens remaining register script more why)

-- ---- the command

-- the path of the script of a call
abbrev pub script_path : Call → List ℕ
script_path call = value (codes "script") call

-- the paths of its further registers
abbrev pub more_paths : Call → List (List ℕ)
more_paths call = unwrap_or (all_values (codes "registers") call) []

-- the first bad word of a call: the address, then the seed
abbrev pub bad_replay : Call → Option WordRefusal
bad_replay call = option_or (address_refusal (me_of call)) (number_refusal (seed_of call))

-- what a call prints
abbrev pub IsReplayText : {F : Type 0} → (List ℕ → Option F → Type 0) → (F → Option (List ℕ)) → Call → List ℕ
    → Type 0
IsReplayText opens remaining call text =
    (me_ : Locator) × (seed : ℕ) × (me_of call ≡ Ok me_) × (seed_of call ≡ Some seed)
    × IsReplayOf opens remaining (path call) (script_path call) (more_paths call) me_ seed text

-- why it refuses: its first bad word, else why there is no replay
abbrev pub IsWhyNoReplay : {F : Type 0} → (List ℕ → Option F → Type 0) → (F → Option (List ℕ)) → Call → Refusal
    → Type 0
IsWhyNoReplay opens remaining call why =
    ((w : WordRefusal) × (bad_replay call ≡ Some w) × (why ≡ BadWord w))
    ⊎ ((bad_replay call ≡ None) × IsWhyNotReplayed opens remaining (path call) (script_path call) (more_paths call)
    why)

-- what `replay` takes
abbrev pub replay_takes : Declaration
replay_takes =
    takes (codes "replay") (one (codes "register") ∷ one (codes "script") ∷ any (codes "registers")
    ∷ setting (codes "me") ∷ setting (codes "seed") ∷ [])

-- what `replay` prints of a call
abbrev pub replay_prints : {F : Type 0} → (List ℕ → Option F → Type 0) → (F → Option (List ℕ)) → Call → Prints
replay_prints opens remaining call =
    prints (λ complete text. (complete ≡ true) × IsReplayText opens remaining call text)
    (λ why. IsWhyNoReplay opens remaining call why)
