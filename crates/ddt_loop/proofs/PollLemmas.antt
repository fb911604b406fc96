-- Each turn polls once, and nothing else does.
use Rattle.std.proofs.Common.{◌≡◌, ℕ, zero, suc, ◌+◌, inl, inr, List, [], ◌∷◌, ◌++◌, Some, None, Ok, Err, refl, arith}
use Rattle.std.specs.Prelude.{count_by, cond}
use Rattle.std.proofs.lemmas.List.Sums.{sum_by-append}
use Rattle.ddt_sockets.specs.declared.wire_calls.Call.{Call, TheVariants.Received, TheVariants.Tried}
use Rattle.ddt_sockets.specs.Turns.{AreTried}
use Rattle.ddt_resolver.specs.declared.results.Asked.TheVariants as asked_as
use Rattle.ddt_resolver.specs.declared.step.Progress.TheVariants.{Stays, Sends, Ends}
use Rattle.ddt_loop.specs.declared.requester.Requester.TheVariants.{Identifier, Itr}
use Rattle.ddt_loop.specs.Acts.{IsToldItr, Asks, answered, refused, lacks_memory, IsToldAtOnce, IsRequesterTold, Proceeds, HearsOrTicks, does, fails}
use Rattle.ddt_loop.specs.Polls.{IsPacketTaken, asks, no_request, hears, other_port, IsNoPacket, no_packet, came, PollsServer, none_there, served, out_of_memory, Polls}
use Rattle.ddt_loop.specs.Turns.{HaveAsked, no_ask, one_ask, HaveTurned, no_turn, one_turn}
use Rattle.ddt_loop.specs.Right.{is_poll}

abbrev pub polls_in : List Call → ℕ
polls_in calls = count_by is_poll calls

both : (first second : List Call) → polls_in (first ++ second) ≡ polls_in first + polls_in second
both first second = sum_by-append (λ call. cond (is_poll call) 1 0) first second

tried : (at ds calls : _) → AreTried at ds calls → polls_in calls ≡ 0
tried at [] [] is = refl
tried at [] (call ∷ calls) is = absurd is
tried at (d ∷ ds) [] is = absurd is
tried at (d ∷ ds) (Received a room answer bytes ∷ calls) is = absurd is.0
tried at (d ∷ ds) (Tried a to port bytes answer ∷ calls) is = rw (both (Tried a to port bytes answer ∷ []) calls, tried at ds calls is.1)

told : (me o q calls : _) → IsToldItr me o q calls → polls_in calls ≡ 0
told me o q calls is = tried me _ calls is

asking : {me now x who w answer calls new : _} → Asks me now x who w answer calls new → polls_in calls ≡ 0
asking (answered (asked_as.Answer o) step starts is) = rw starts.0
asking (answered (asked_as.Sent t e) step starts is) = search tried
asking (refused why step desk none is) = rw none
asking (lacks_memory wants state desk none is) = rw none

at_once : (me answer q calls : _) → IsToldAtOnce me answer q calls → polls_in calls ≡ 0
at_once me (Ok (Some o)) q calls is = told me o q calls is
at_once me (Ok None) q calls none = rw none
at_once me (Err why) q calls none = rw none

settling : (me end taken d calls new : _) → IsRequesterTold me end taken d calls new → polls_in calls ≡ 0
settling me end None d calls new is = rw is.0
settling me end (Some (Identifier place)) d calls new is = rw is.0
settling me (Ok o) (Some (Itr q)) d calls new is = told me o q calls is.0
settling me (Err why) (Some (Itr q)) d calls new is = rw is.0

going_on : (me d p calls new : _) → Proceeds me d p calls new → polls_in calls ≡ 0
going_on me d Stays calls new goes = rw goes.0
going_on me d (Sends t e) calls new goes = search tried
going_on me d (Ends t end) calls new goes = settling me end goes.taken _ calls new goes.told

resolving : {me now call w calls new : _} → HearsOrTicks me now call w calls new → polls_in calls ≡ 0
resolving (does reply step goes) = search going_on
resolving (fails wants state desk none) = rw none

taking : {me now p bytes w calls new : _} → IsPacketTaken me now p bytes w calls new → polls_in calls ≡ 0
taking {me = me} (asks encapsulated q is act) = rw (act.calls_are, both, asking act.asks, at_once me _ q _ act.tells)
taking (no_request encapsulated not none same) = rw none
taking (hears plain port act) = resolving act
taking (other_port plain port none same) = rw none

nothing : (at call : _) → IsNoPacket at call → polls_in (call ∷ []) ≡ 1
nothing at call (inl is) = rw is
nothing at call (inr is) = rw is.1

polling : (servers me sockets now place w calls new : _) → Polls servers me sockets now place w calls new → polls_in calls ≡ 1
polling servers me sockets now zero w calls new (no_packet call none is same) = rw is (nothing me call none)
polling servers me sockets now zero w calls new (came p bytes rest taken is) = rw (is, both (_ ∷ []) rest, taking taken)
polling servers me sockets now (suc k) w calls new (at, there, polls, same) = by polls
  where
    by : PollsServer servers at calls → polls_in calls ≡ 1
    by (none_there call none is) = rw is (nothing at call none)
    by (served p bytes reply tries says sent is) = rw (is, both (_ ∷ []) tries, tried at _ tries sent)
    by (out_of_memory p bytes wanted is) = rw is

pub polls_turns : {servers me sockets start number moments calls w : _} → HaveTurned servers me sockets start number moments calls w → polls_in calls ≡ number
polls_turns no_turn = refl
polls_turns {servers} {me} {sockets} (one_turn {calls = before} now turn new so_far more is) =
    rw (both before turn, is.calls_are, both, polls_turns so_far, polling servers me sockets _ _ _ _ _ is.polls, resolving is.ticks)

pub polls_asks : {me now ids start place calls w : _} → HaveAsked me now ids start place calls w → polls_in calls ≡ 0
polls_asks no_ask = refl
polls_asks (one_ask {calls = before} x more new so_far is act) = rw (both before more, polls_asks so_far, asking act.asks)

pub polls_loop : (asking turning count : _) → polls_in asking ≡ 0 → polls_in turning ≡ count → polls_in (asking ++ turning) ≡ count
polls_loop asking turning count none some = omega (arith, both asking turning)
