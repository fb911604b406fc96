-- The turns of a server, one after the other, and the bit D.
use Rattle.std.proofs.Common.{◌≡◌, ℕ, ◌+◌, ◌*◌, ◌/◌, ◌%◌, List, [], ◌∷◌, ◌++◌, get_or, set, length, refl, sym, ap, ◌∙◌, subst, arith}
use Rattle.std.specs.Prelude.{Option, Some, Ok, Err, true, false, ◌==◌, ◌≢◌}
use Rattle.std.proofs.Common.{eqb-true}
use Rattle.std.proofs.lemmas.Bool.{false≢true}
use Rattle.std.proofs.lemmas.List.{length_push, flat_map_more}
use Rattle.std.proofs.lemmas.List.Elements.{All-nil, All-push}
use Rattle.ddt_path.specs.declared.locator.Locator.{Locator}
use Rattle.ddt_config.specs.Table.{Outline}
use Rattle.ddt_node.specs.Server.{without_d}
use Rattle.ddt_sockets.specs.declared.wire_calls.Call.{Call}
use Rattle.ddt_sockets.specs.Calls.{RecordsCalls}
use Rattle.ddt_sockets.specs.laws.Tell.{tells_both, tells_none}
use Rattle.ddt_config.specs.declared.settings.server_settings.ServerSettings.{ServerSettings}
use Rattle.ddt_foreign.specs.declared.fault.ForeignRequestFault.{ForeignRequestFault}
use Rattle.ddt_foreign.specs.Request.{Asked, request_in}
use Rattle.ddt_sockets.specs.declared.wire_calls.Call.TheVariants.{Received}
use Rattle.ddt_sockets.specs.declared.wire_calls.Packet.{Packet}
use Rattle.ddt_sockets.specs.Turns.{Outgoing, most_bytes, AreTried}
use Rattle.ddt_daemon.specs.declared.service.Service.{Service}
use Rattle.ddt_daemon.specs.declared.service.Service.TheVariants.{NoRequest, UnrecognizedAfi, Probe, Denied, Client, Itr}
use Rattle.ddt_daemon.specs.ServerTurns.{service_for, reply_for, onward_for, IsTurn, served, out_of_memory, AreTurns}

-- so many turns so far
pub record HasTurned (before now : Option (List Call)) (c : Outline) (settings : ServerSettings) (at : Locator) (count : ℕ) : Type 0 where
  pub calls : List Call
  pub told : RecordsCalls before calls now
  pub turns : AreTurns c settings at count calls

pub not_turned : (now : Option (List Call)) (c : Outline) (settings : ServerSettings) (at : Locator) → HasTurned now now c settings at 0
not_turned now c settings at = record {
  calls = [];
  told = tells_none now;
  turns = record { turns = []; calls_are = refl; count_is = refl; each = All-nil (IsTurn c settings at) };
}

pub turned_on : {before midway now : Option (List Call)} {c : Outline} {settings : ServerSettings} {at : Locator} {count : ℕ} (turn : List Call) → HasTurned before midway c settings at count
    → RecordsCalls midway turn now → IsTurn c settings at turn → HasTurned before now c settings at (count + 1)
turned_on {before} {midway} {now} {c} {settings} {at} turn so_far told one = record {
  calls = so_far.calls ++ turn;
  told = tells_both before so_far.calls midway turn now so_far.told told;
  turns = record {
    turns = so_far.turns.turns ++ turn ∷ [];
    calls_are = ap (λ (calls : List Call). calls ++ turn) so_far.turns.calls_are ∙ flat_map_more (λ t. t) [] so_far.turns.turns turn;
    count_is = length_push so_far.turns.turns turn ∙ ap (λ n. n + 1) so_far.turns.count_is;
    each = All-push (IsTurn c settings at) so_far.turns.turns turn so_far.turns.each one;
  };
}

-- the bytes after the write to the first of them, if there is one
pub without_d-set : (bytes : List ℕ) (n b : ℕ) → n ≡ length bytes → false ≡ (n == 0) → b ≡ get_or bytes 0 b → set bytes 0 (b / 8 * 8 + b % 4) ≡ without_d bytes
without_d-set [] n b len some read = absurd (false≢true (some ∙ ap (λ (k : ℕ). k == 0) len))
without_d-set (first ∷ others) n b len some read = ap (λ (k : ℕ). (k / 8 * 8 + k % 4) ∷ others) read

pub without_d-empty : (bytes : List ℕ) (n : ℕ) → n ≡ length bytes → true ≡ (n == 0) → bytes ≡ without_d bytes
without_d-empty [] n len none = refl
without_d-empty (first ∷ others) n len none = let zero_long : n ≡ 0 = eqb-true n 0 (sym none) in absurd (omega arith)

-- for a datagram that isn't read nothing is sent
pub unread : (c : Outline) (settings : ServerSettings) (at : Locator) (p : Packet) (bytes : List ℕ) {e : ForeignRequestFault} → request_in bytes ≡ Err e
    → IsTurn c settings at (Received at most_bytes (Ok (Some p)) bytes ∷ [])
unread c settings at p bytes is = served p bytes [] (rw is tt)

-- what is sent for a request, by whom it asks for
pub served_as : (c : Outline) (settings : ServerSettings) (at : Locator) (p : Packet) (bytes : List ℕ) (v : Asked) (s : Service) (tries : List Call) → request_in bytes ≡ Ok v
    → service_for c.role settings p.from v ≡ s → AreTried at (reply_for c p v s ++ onward_for c bytes v s) tries
    → IsTurn c settings at (Received at most_bytes (Ok (Some p)) bytes ∷ tries)
served_as c settings at p bytes v s tries read is tried = served p bytes tries (rw (read, is) tried)

-- a request for which there is something to send is lost
pub lost_as : (c : Outline) (settings : ServerSettings) (at : Locator) (p : Packet) (bytes : List ℕ) (v : Asked) (s : Service) → request_in bytes ≡ Ok v
    → service_for c.role settings p.from v ≡ s → reply_for c p v s ++ onward_for c bytes v s ≢ []
    → IsTurn c settings at (Received at most_bytes (Ok (Some p)) bytes ∷ [])
lost_as c settings at p bytes v s read is some = out_of_memory p bytes (rw (read, is) some)

-- of a request that is dropped nothing is sent
pub nothing_for : (c : Outline) (at : Locator) (p : Packet) (bytes : List ℕ) (v : Asked) (s : Service) → (s ≡ Client → ⊥) → (s ≡ Itr → ⊥)
    → AreTried at (reply_for c p v s ++ onward_for c bytes v s) []
nothing_for c at p bytes v NoRequest client itr = tt
nothing_for c at p bytes v UnrecognizedAfi client itr = tt
nothing_for c at p bytes v Probe client itr = tt
nothing_for c at p bytes v Denied client itr = tt
nothing_for c at p bytes v Client client itr = absurd (client refl)
nothing_for c at p bytes v Itr client itr = absurd (itr refl)

-- what is tried, by what it is
pub tried_as : (at : Locator) {one other two and : List Outgoing} (tries : List Call) → one ≡ other → two ≡ and → AreTried at (one ++ two) tries → AreTried at (other ++ and) tries
tried_as at {one} {other} {two} {and} tries first second tried =
    subst (λ (l : List Outgoing). AreTried at l tries) (ap (λ (l : List Outgoing). l ++ two) first ∙ ap (λ (l : List Outgoing). other ++ l) second) tried
