-- What a Map-Server does with a Map-Register that it receives (RFC 9301, sections 5.6 and 5.7).
use Rattle.std.specs.Prelude.{ℕ, ◌/◌, ◌≡◌, ◌==◌, ◌<◌, ◌≤◌, Bool, false, List, [], ◌∷◌, length, Option, Some, None, Ok, Err}
use Rattle.ddt_path.specs.declared.locator.Locator.{Locator}
use Rattle.ddt_ecm.specs.UdpHeader.{control_port}
use Rattle.ddt_map_register.specs.declared.fault.MapRegisterFault.{MapRegisterFault}
use Rattle.ddt_map_register.specs.MapRegister.{Message, message_in, map_register}
use Rattle.ddt_registrar.specs.declared.refusal.Refusal.{Refusal}
use Rattle.ddt_registrar.specs.Sender.{sender_of}
use Rattle.ddt_registrar.specs.State.{Site}
use Rattle.ddt_registrar.specs.Taking.{IsTaken, IsRefused}
use Rattle.ddt_sockets.specs.declared.wire_calls.Call.{Call}
use Rattle.ddt_sockets.specs.declared.wire_calls.Packet.{Packet}
use Rattle.ddt_sockets.specs.Turns.{Outgoing, AreTried, first_went_out}
use Rattle.ddt_map_server.specs.declared.register_outcome.RegisterOutcome.{RegisterOutcome}
use Rattle.ddt_map_server.specs.declared.register_outcome.RegisterOutcome.TheVariants.{TooLong, Malformed, Refused, Taken}

-- the first four bits are those of a Map-Register
abbrev pub begins_map_register : List ℕ → Bool
begins_map_register [] = false
begins_map_register (first ∷ rest) = first / 16 == map_register

-- the most bytes of a Map-Register
abbrev pub most_bytes : ℕ
most_bytes = 1500

-- a Map-Notify goes to the address that the Map-Register came from, at UDP port 4342
abbrev pub notify_to_sender : Packet → Option (List ℕ) → List Outgoing
notify_to_sender p None = []
notify_to_sender p (Some notify) = record { to = p.from; port = control_port; bytes = notify } ∷ []

-- The outcome of a Map-Register, with the registrations before and after it, and the calls that are made. Only an
-- accepted one is answered, after its records are registered.
pub data Registers (now : ℕ) (at : Locator) (p : Packet) (bytes : List ℕ) (old new : List Site) :
    List Call → RegisterOutcome → Type 0 where
  too_long : most_bytes < length bytes → new ≡ old → Registers now at p bytes old new [] TooLong
  malformed : length bytes ≤ most_bytes → (fault : MapRegisterFault) → message_in bytes ≡ Err fault → new ≡ old
      → Registers now at p bytes old new [] (Malformed fault)
  refused : length bytes ≤ most_bytes → (m : Message) → message_in bytes ≡ Ok m → (refusal : Refusal)
      → IsRefused m (sender_of m.id p.from) old refusal → new ≡ old → Registers now at p bytes old new [] (Refused refusal)
  taken : length bytes ≤ most_bytes → (m : Message) → message_in bytes ≡ Ok m → (notify : Option (List ℕ))
      → IsTaken now m (sender_of m.id p.from) old new notify
      → (tries : List Call) → AreTried at (notify_to_sender p notify) tries
      → Registers now at p bytes old new tries (Taken (first_went_out tries))
