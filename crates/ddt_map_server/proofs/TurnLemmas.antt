-- The turns of a Map-Server, one after the other.
use Rattle.std.proofs.Common.{◌≡◌, ℕ, ◌+◌, List, [], ◌∷◌, ◌++◌, refl, sym, ap, ◌∙◌}
use Rattle.std.specs.Prelude.{Option}
use Rattle.ddt_path.specs.declared.locator.Locator.{Locator}
use Rattle.ddt_config.specs.Table.{Outline}
use Rattle.ddt_config.specs.declared.settings.server_settings.ServerSettings.{ServerSettings}
use Rattle.ddt_sockets.specs.declared.wire_calls.Call.{Call}
use Rattle.ddt_sockets.specs.Calls.{RecordsCalls}
use Rattle.ddt_sockets.specs.laws.Tell.{tells_both, tells_none}
use Rattle.ddt_registrar.specs.State.{Site}
use Rattle.ddt_map_server.specs.declared.register_counts.RegisterCounts.{RegisterCounts}
use Rattle.ddt_map_server.specs.Rates.{Rates}
use Rattle.ddt_map_server.specs.Turns.{Registering, IsMapServerTurn, AreMapServerTurns, none, one_more}

-- what is known is the same by its parts
pub known_as : (sites : List Site) (a b : Rates) (j k : RegisterCounts) → a ≡ b → j ≡ k
    → (let x : Registering = record { sites = sites; rates = a; counts = j } in x) ≡ record { sites = sites; rates = b; counts = k }
known_as sites a b j k e f =
    ap (λ (r : Rates). let x : Registering = record { sites = sites; rates = r; counts = j } in x) e
    ∙ ap (λ (n : RegisterCounts). let x : Registering = record { sites = sites; rates = b; counts = n } in x) f

-- these turns were taken between one state and another
pub record HasTurned (before now : Option (List Call)) (c : Outline) (settings : ServerSettings) (moment : ℕ) (at : Locator)
    (old new : Registering) (count : ℕ) : Type 0 where
  pub calls : List Call
  pub told : RecordsCalls before calls now
  pub turns : AreMapServerTurns c settings moment at old new count calls

pub not_turned : (now : Option (List Call)) (c : Outline) (settings : ServerSettings) (moment : ℕ) (at : Locator) (old : Registering)
    → HasTurned now now c settings moment at old old 0
not_turned now c settings moment at old = record { calls = []; told = tells_none now; turns = none }

pub turned_on : {before midway now : Option (List Call)} {c : Outline} {settings : ServerSettings} {moment : ℕ} {at : Locator}
    {old between new : Registering} {count : ℕ} (turn : List Call) → HasTurned before midway c settings moment at old between count
    → RecordsCalls midway turn now → IsMapServerTurn c settings moment at between new turn
    → HasTurned before now c settings moment at old new (count + 1)
turned_on {before} {midway} {now} {c} {settings} {moment} {at} {old} {between} {new} {count} turn so_far told one = record {
  calls = so_far.calls ++ turn;
  told = tells_both before so_far.calls midway turn now so_far.told told;
  turns = one_more between new count so_far.calls turn so_far.turns one;
}
