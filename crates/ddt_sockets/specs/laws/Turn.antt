-- One turn of a server, and many turns one after the other.
use Rattle.std.proofs.Common.{◌≡◌, ℕ, ◌+◌, List, [], ◌∷◌, ◌++◌, refl, sym, ap, ◌∙◌}
use Rattle.std.proofs.lemmas.List.{length_push, flat_map_more}
use Rattle.std.proofs.lemmas.List.Elements.{All-nil, All-push}
use Rattle.std.proofs.lemmas.List.Sums.{sum_by_push}
use Rattle.std.proofs.lemmas.Option.{none-some}
use Rattle.std.specs.Prelude.{Bool, true, false, cond, Option, Some, None, Result, count_by}
use Rattle.std.specs.Int.{from_bool}
use Rattle.ddt_path.specs.declared.locator.Locator.{Locator}
use Rattle.ddt_config.specs.Table.{Outline}
use Rattle.ddt_node.specs.declared.forward.Forward.{Forward}
use Rattle.ddt_sockets.specs.declared.wire_calls.Call.{Call}
use Rattle.ddt_sockets.specs.declared.wire_calls.Call.TheVariants.{Tried}
use Rattle.ddt_sockets.specs.declared.wire_calls.NetFault.{NetFault}
use Rattle.ddt_sockets.specs.declared.wire_calls.Packet.{Packet}
use Rattle.ddt_sockets.specs.Calls.{RecordsCalls}
use Rattle.ddt_ecm.specs.UdpHeader.{control_port}
use Rattle.ddt_sockets.specs.Turns.{Outgoing, AreTried, reply_to, on_to_etr, first_went_out}
use Rattle.ddt_sockets.specs.Turns.{IsServerTurn, ServesTurns, is_received, is_replied}
use Rattle.ddt_sockets.specs.laws.Tell.{tells_both, tells_none}

-- the one try of a reply, and of a request that goes on
pub reply_tried : (at : Locator) (p : Packet) (reply : Option (List ℕ)) (bytes : List ℕ)
    (answer : Result (Unit {0}) NetFault) → reply ≡ Some bytes
    → AreTried at (reply_to p reply) (Tried at p.from p.port bytes answer ∷ [])
reply_tried at p reply bytes answer is = rw is ((refl, refl, refl, refl), tt)

pub on_tried : (at : Locator) (forward : Option Forward) (f : Forward) (bytes : List ℕ)
    (answer : Result (Unit {0}) NetFault) → forward ≡ Some f → bytes ≡ f.bytes
    → AreTried at (on_to_etr forward) (Tried at f.to control_port bytes answer ∷ [])
on_tried at forward f bytes answer is same = rw is ((refl, refl, refl, same), tt)

-- what is tried first and then
pub tried_both : (at : Locator) (first second : List Outgoing) (tries more : List Call) → AreTried at first tries
    → AreTried at second more → AreTried at (first ++ second) (tries ++ more)
tried_both at [] second [] more one two = two
tried_both at [] second (call ∷ tries) more one two = absurd one
tried_both at (d ∷ first) second [] more one two = absurd one
tried_both at (d ∷ first) second (call ∷ tries) more one two = (one.0, tried_both at first second tries more one.1 two)

none_tried : (at : Locator) (calls : List Call) → AreTried at [] calls → first_went_out calls ≡ false
none_tried at [] tried = refl
none_tried at (call ∷ calls) tried = absurd tried

none_on : (at : Locator) (forward : Option Forward) (calls : List Call) → forward ≡ None
    → AreTried at (on_to_etr forward) calls → first_went_out calls ≡ false
none_on at None calls none tried = none_tried at calls tried
none_on at (Some f) calls none tried = absurd (none-some _ (sym none))

-- the reply is what is tried first
pub reply_is_first : (at : Locator) (p : Packet) (reply : Option (List ℕ)) (forward : Option Forward)
    (first second : List Call) → (reply ≡ None → forward ≡ None) → AreTried at (reply_to p reply) first
    → AreTried at (on_to_etr forward) second
    → first_went_out (first ++ second) ≡ first_went_out first
reply_is_first at p reply forward (call ∷ first) second alone one two = refl
reply_is_first at p None forward [] second alone one two = none_on at forward second (alone refl) two
reply_is_first at p (Some reply) forward [] second alone one two = absurd one

-- so many turns so far, with these counts
pub record IsServing (before now : Option (List Call)) (c : Outline) (at : Locator) (count received replied : ℕ) :
    Type 0 where
  pub calls : List Call
  pub told : RecordsCalls before calls now
  pub serves : ServesTurns c at count calls (record { received = received; replied = replied })

pub no_turn_yet : (now : Option (List Call)) (c : Outline) (at : Locator) → IsServing now now c at 0 0 0
no_turn_yet now c at = record {
  calls = [];
  told = tells_none now;
  serves = record { turns = []; calls_are = refl; count_is = refl; each = All-nil (IsServerTurn c at); received = refl; replied = refl };
}

from_bool_is : (b : Bool) → from_bool b ≡ cond b 1 0
from_bool_is true = refl
from_bool_is false = refl

-- what one more turn adds to a count
count_by_push : (test : List Call → Bool) (turns : List (List Call)) (turn : List Call)
    → count_by test (turns ++ turn ∷ []) ≡ count_by test turns + from_bool (test turn)
count_by_push test turns turn =
    sum_by_push (λ t. cond (test t) 1 0) turns turn
    ∙ ap (λ (n : ℕ). count_by test turns + n) (sym (from_bool_is (test turn)))

pub serving_on : (before midway now : Option (List Call)) (c : Outline) (at : Locator) (count received replied : ℕ)
    (turn : List Call) → IsServing before midway c at count received replied → RecordsCalls midway turn now
    → IsServerTurn c at turn
    → IsServing before now c at (count + 1) (received + from_bool (is_received turn))
    (replied + from_bool (is_replied turn))
serving_on before midway now c at count received replied turn so_far told one = record {
  calls = so_far.calls ++ turn;
  told = tells_both before so_far.calls midway turn now so_far.told told;
  serves = record {
    turns = so_far.serves.turns ++ turn ∷ [];
    calls_are = ap (λ (calls : List Call). calls ++ turn) so_far.serves.calls_are
        ∙ flat_map_more (λ t. t) [] so_far.serves.turns turn;
    count_is = length_push so_far.serves.turns turn ∙ ap (λ n. n + 1) so_far.serves.count_is;
    each = All-push (IsServerTurn c at) so_far.serves.turns turn so_far.serves.each one;
    received = ap (λ n. n + from_bool (is_received turn)) so_far.serves.received
        ∙ sym (count_by_push is_received so_far.serves.turns turn);
    replied = ap (λ n. n + from_bool (is_replied turn)) so_far.serves.replied
        ∙ sym (count_by_push is_replied so_far.serves.turns turn);
  };
}
