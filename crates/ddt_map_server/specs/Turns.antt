-- The turns of a Map-Server whose sites' ETRs register: it answers by the configuration in force (RFC 8111, sections
-- 7.1 and 7.2; RFC 9301, sections 5.6, 5.7 and 8.2).
use Rattle.std.specs.Prelude.{ℕ, ◌+◌, ◌≡◌, Bool, true, false, List, [], ◌∷◌, ◌++◌, Option, Some, None, Ok, Err}
use Rattle.ddt_path.specs.declared.locator.Locator.{Locator}
use Rattle.ddt_config.specs.Table.{Outline}
use Rattle.ddt_config.specs.declared.settings.server_settings.ServerSettings.{ServerSettings}
use Rattle.ddt_sockets.specs.declared.wire_calls.Call.{Call}
use Rattle.ddt_sockets.specs.declared.wire_calls.Call.TheVariants.{Received, Tried}
use Rattle.ddt_sockets.specs.declared.wire_calls.Packet.{Packet}
use Rattle.ddt_sockets.specs.Turns.{most_bytes}
use Rattle.ddt_daemon.specs.ServerTurns.{IsTurn}
use Rattle.ddt_registrar.specs.State.{Site}
use Rattle.ddt_registrar.specs.Taking.{in_force}
use Rattle.ddt_map_server.specs.declared.register_outcome.RegisterOutcome.{RegisterOutcome}
use Rattle.ddt_map_server.specs.declared.register_outcome.RegisterOutcome.TheVariants.{Limited}
use Rattle.ddt_map_server.specs.declared.register_counts.RegisterCounts.{RegisterCounts}
use Rattle.ddt_map_server.specs.Counted.{with_registered}
use Rattle.ddt_map_server.specs.Rates.{Rates, is_admitted, after_one}
use Rattle.ddt_map_server.specs.Registering.{begins_map_register, Registers}

-- what a Map-Server knows of Map-Registers: what is registered, what each source sent, and what it has counted
pub record Registering : Type 0 where
  pub sites : List Site
  pub rates : Rates
  pub counts : RegisterCounts

-- the same after a Map-Register, from these sites, by what was done with it
abbrev pub registering_after : ℕ → Packet → List Site → RegisterOutcome → Registering → Registering
registering_after now p sites done r = record {
  sites = sites;
  rates = after_one now p.from r.rates;
  counts = with_registered r.counts done;
}

-- a Map-Register came
abbrev pub brings_map_register : List Call → Bool
brings_map_register (Received at room (Ok (Some p)) bytes ∷ tries) = begins_map_register bytes
brings_map_register (Received at room (Ok None) bytes ∷ tries) = false
brings_map_register (Received at room (Err fault) bytes ∷ tries) = false
brings_map_register (Tried at to port bytes answer ∷ tries) = false
brings_map_register [] = false

-- What is done with a Map-Register. `limited`: it is dropped for what its source has sent. `registers`: it is taken, or
-- dropped for what it is.
pub data IsDone (now : ℕ) (at : Locator) (p : Packet) (bytes : List ℕ) (rates : Rates) (old new : List Site) :
    List Call → RegisterOutcome → Type 0 where
  limited : is_admitted now p.from rates ≡ false → new ≡ old → IsDone now at p bytes rates old new [] Limited
  registers : is_admitted now p.from rates ≡ true → (tries : List Call) (done : RegisterOutcome)
      → Registers now at p bytes old new tries done → IsDone now at p bytes rates old new tries done

-- One turn. `served`: no Map-Register came, and the server does what one of the configuration in force does.
-- `registered`: a Map-Register came, and it was done with, and counted by what was done.
pub data IsMapServerTurn (c : Outline) (settings : ServerSettings) (now : ℕ) (at : Locator) (old new : Registering) :
    List Call → Type 0 where
  served : (turn : List Call) → brings_map_register turn ≡ false → IsTurn (in_force old.sites c) settings at turn
      → new ≡ old → IsMapServerTurn c settings now at old new turn
  registered : (p : Packet) (bytes : List ℕ) (tries : List Call) (done : RegisterOutcome) (sites : List Site)
      → begins_map_register bytes ≡ true → IsDone now at p bytes old.rates old.sites sites tries done
      → new ≡ registering_after now p sites done old
      → IsMapServerTurn c settings now at old new (Received at most_bytes (Ok (Some p)) bytes ∷ tries)

-- so many turns, one after the other
pub data AreMapServerTurns (c : Outline) (settings : ServerSettings) (now : ℕ) (at : Locator) (old : Registering) :
    Registering → ℕ → List Call → Type 0 where
  none : AreMapServerTurns c settings now at old old 0 []
  one_more : (between new : Registering) (count : ℕ) (calls turn : List Call)
      → AreMapServerTurns c settings now at old between count calls
      → IsMapServerTurn c settings now at between new turn
      → AreMapServerTurns c settings now at old new (count + 1) (calls ++ turn)

-- a server that answers by a configuration, and what it knows of Map-Registers
pub record MapServer : Type 0 where
  pub config : Outline
  pub registering : Registering

-- it answers by a configuration in which each keyed site has the ETRs in force
abbrev pub Follows : Outline → MapServer → Type 0
Follows c s = s.config ≡ in_force s.registering.sites c
