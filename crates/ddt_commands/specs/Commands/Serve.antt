-- `serve CONFIG ADDRESS TURNS`: a server of the configuration in a file, at a loopback address, for so many turns (RFC
-- 8111, sections 7.1 and 7.2).
use Rattle.std.specs.Prelude.{ℕ, false, true, ◌≡◌, ◌≢◌, ◌⊎◌, ⊤, List, ◌++◌, codes, decimal, Option, None, Some, Result, Ok, Err, [], ◌∷◌}
use Rattle.std.specs.IoError.{error_kind}
use Rattle.std.specs.Option.{option_or}
use Rattle.std.specs.declared.io.Error.{Error}
use Rattle.ddt_path.specs.declared.locator.Locator.{Locator}
use Rattle.ddt_text.specs.declared.fault.TextFault.{TextFault}
use Rattle.ddt_text.specs.FirstFault.{locator_in, number_in}
use Rattle.ddt_config.specs.declared.fault.ConfigFault.{ConfigFault}
use Rattle.ddt_config.specs.declared.fault.ConfigFault.TheVariants.{Memory}
use Rattle.ddt_config.specs.Table.{Outline}
use Rattle.ddt_node.specs.Spelled.{IsServedConfig, IsConfigFault}
use Rattle.ddt_sockets.specs.declared.wire_calls.Call.{Call as WireCall}
use Rattle.ddt_sockets.specs.declared.server_turns.Served.{Served}
use Rattle.ddt_sockets.specs.Calls.{RecordsCalls as TellCalls}
use Rattle.ddt_sockets.specs.Turns.{ServesTurns}
use Rattle.ddt_lines.specs.Lines.{ended}
use Rattle.ddt_commands.specs.CommandLine.Call.{Call, value}
use Rattle.ddt_commands.specs.declared.refusal.Refusal.{Refusal}
use Rattle.ddt_commands.specs.declared.refusal.Refusal.TheVariants.{BadWord, NoServer, OutOfMemory}
use Rattle.ddt_commands.specs.declared.refusal.server.ServerRefusal.TheVariants.{NotLoopback, CannotOpen, BadConfig}
use Rattle.ddt_commands.specs.declared.refusal.bad_word.WordRefusal.{WordRefusal}
use Rattle.ddt_commands.specs.Commands.Lookup.{address_refusal, number_refusal}
use Rattle.ddt_commands.specs.Loopback.{is_loopback}
use Rattle.ddt_commands.specs.Register.{HasBytes}
use Rattle.ddt_commands.specs.Sockets.{Binding, bind_refusal}
use Rattle.ddt_commands.specs.declared.command_line.declaration.Declaration.{Declaration}
use Rattle.ddt_commands.specs.CommandLine.Line.{one, takes}
use Rattle.ddt_commands.specs.Ends.{Prints, prints}

-- ---- what the words ask for

-- The path of the file with the server's configuration, which is the word CONFIG.
abbrev pub config_path : Call → List ℕ
config_path call = value (codes "config") call

-- The locator where the server's socket is to be bound, which is the word ADDRESS; a fault where that is no address.
abbrev pub address_of : Call → Result Locator TextFault
address_of call = locator_in (value (codes "address") call)

-- The greatest number of turns that `serve` and `loop` take: 2^32 - 1.
abbrev pub most_turns : ℕ
most_turns = 4294967295

-- For how many turns the server runs, in each of which it polls its socket once; none where the word is no number up to
-- `most_turns`.
abbrev pub turns_of : Call → Option ℕ
turns_of call = number_in most_turns (value (codes "turns") call)

-- the first bad word: the address, then the number of turns
abbrev pub bad_serve : Call → Option WordRefusal
bad_serve call = option_or (address_refusal (address_of call)) (number_refusal (turns_of call))

-- a call asks for a server at this loopback address for so many turns
pub record AsksToServe (call : Call) (at : Locator) (turns : ℕ) : Type 0 where
  pub address : address_of call ≡ Ok at
  pub count : turns_of call ≡ Some turns
  pub loopback : is_loopback at ≡ true

-- ---- the configuration in a file

-- The path was opened, and this is so of a configuration. Where the file tells its bytes, they spell it.
abbrev pub OfItsConfig : {F : Type 0} → (F → Option (List ℕ)) → Option F → (Outline → Type 0) → Type 0
OfItsConfig remaining source is_so =
    (source ≢ None)
    × ((c : Outline) × ((bytes : List ℕ) → HasBytes remaining source bytes → IsServedConfig bytes c) × is_so c)

-- what is refused where bytes have this fault
abbrev pub config_refusal : ConfigFault → Refusal
config_refusal Memory = OutOfMemory
config_refusal fault = NoServer (BadConfig fault)

-- why bytes give no configuration: this first fault; or memory runs out
abbrev pub IsBadConfig : List ℕ → Refusal → Type 0
IsBadConfig bytes (NoServer (BadConfig fault)) = IsConfigFault bytes fault
IsBadConfig bytes OutOfMemory = ⊤
IsBadConfig bytes why = ⊥

-- why a path gives no configuration: it can't be opened or read, or its bytes give none; memory may run out once the
-- file is open
abbrev pub IsWhyNoConfig : {F : Type 0} → (F → Option (List ℕ)) → Option F → List ℕ → Refusal → Type 0
IsWhyNoConfig remaining source path (NoServer (CannotOpen name)) = name.now ≡ path
IsWhyNoConfig remaining (Some file) path (NoServer (BadConfig fault)) =
    (bytes : List ℕ) → remaining file ≡ Some bytes → IsConfigFault bytes fault
IsWhyNoConfig remaining (Some file) path OutOfMemory = ⊤
IsWhyNoConfig remaining source path why = ⊥

-- ---- serving over wires

-- What comes of a server of a configuration at a locator, for so many turns, over wires. It is the counts of turns over
-- the wires that the socket was bound of, which tell just the calls of these turns; or why it wasn't bound.
abbrev pub ServesOver : {W : Type 0} → Binding W → (W → Option (List WireCall)) → W → W → Outline → Locator → ℕ
    → Result Served Error → Type 0
ServesOver {W} binds calls before after c at turns (Ok counts) =
    (bound : W) × binds before at (Ok tt) bound
    × ((made : List WireCall) × TellCalls (calls bound) made (calls after) × ServesTurns c at turns made counts)
ServesOver {W} binds calls before after c at turns (Err error) = binds before at (Err error) after

-- ---- the command

-- what comes of a server of a configuration at a locator, for so many turns
abbrev pub Serving : Type 1
Serving = Outline → Locator → ℕ → Result Served Error → Type 0

-- How many packets the server was given, and how many of its replies were sent without a fault.
abbrev pub served_text : Served → List ℕ
served_text counts = codes "received " ++ decimal counts.received ++ codes " replied " ++ decimal counts.replied

-- the line of the counts of such a server
abbrev pub IsServedText : Serving → Outline → Locator → ℕ → List ℕ → Type 0
IsServedText serves c at turns text =
    (counts : Served) × serves c at turns (Ok counts) × (text ≡ ended (served_text counts))

-- why there is none: its socket isn't bound, or memory runs out, of which it says nothing more
abbrev pub IsWhyUnserved : Serving → Outline → Locator → ℕ → Refusal → Type 0
IsWhyUnserved serves c at turns why =
    ((error : Error) × serves c at turns (Err error) × (why ≡ bind_refusal at (error_kind error))) ⊎ (why ≡ OutOfMemory)

-- what a call prints
abbrev pub IsServeText : {F : Type 0} → (List ℕ → Option F → Type 0) → (F → Option (List ℕ)) → Serving → Call → List ℕ
    → Type 0
IsServeText opens remaining serves call text =
    (at : Locator) × (turns : ℕ) × AsksToServe call at turns
    × ((source : Option _) × opens (config_path call) source
    × OfItsConfig remaining source (λ c. IsServedText serves c at turns text))

-- Why it refuses: its first bad word; an address that isn't a loopback address; the file; the socket. Unless memory
-- runs out, the wires are untouched until the socket is bound.
abbrev pub IsWhyNotServed : {F : Type 0} → (List ℕ → Option F → Type 0) → (F → Option (List ℕ)) → Type 0 → Serving
    → Call → Refusal → Type 0
IsWhyNotServed opens remaining untouched serves call why =
    (untouched × ((w : WordRefusal) × (bad_serve call ≡ Some w) × (why ≡ BadWord w)))
    ⊎ ((at : Locator) × (turns : ℕ) × (address_of call ≡ Ok at) × (turns_of call ≡ Some turns)
    × ((untouched × (is_loopback at ≡ false) × (why ≡ NoServer (NotLoopback at)))
    ⊎ ((is_loopback at ≡ true) × ((source : Option _) × opens (config_path call) source
    × ((untouched × IsWhyNoConfig remaining source (config_path call) why)
    ⊎ OfItsConfig remaining source (λ c. IsWhyUnserved serves c at turns why))))))

-- what `serve` takes
abbrev pub serve_takes : Declaration
serve_takes = takes (codes "serve") (one (codes "config") ∷ one (codes "address") ∷ one (codes "turns") ∷ [])

-- what `serve` prints of a call
abbrev pub serve_prints : {F : Type 0} → (List ℕ → Option F → Type 0) → (F → Option (List ℕ)) → Type 0 → Serving → Call
    → Prints
serve_prints opens remaining untouched serves call =
    prints (λ complete text. (complete ≡ true) × IsServeText opens remaining serves call text)
    (λ why. IsWhyNotServed opens remaining untouched serves call why)
