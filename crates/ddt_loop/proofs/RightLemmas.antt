-- A whole run keeps a running resolver right, where its calls are fair.
use Rattle.std.proofs.Common.{◌≡◌, ℕ, zero, suc, ◌≤◌, false, List, [], ◌∷◌, ◌++◌, append_assoc, append-nil, Some, None, Ok, Err, refl, inl, inr}
use Rattle.std.specs.Prelude.{◌≢◌, All, IsSome, slice_get}
use Rattle.std.specs.FinMap.{get}
use Rattle.std.proofs.lemmas.List.Elements.{All-nil, All-cons}
use Rattle.ddt_path.specs.declared.locator.Locator.{Locator}
use Rattle.ddt_path.specs.declared.xeid.Xeid.{Xeid}
use Rattle.ddt_path.specs.Path.{xeid_path}
use Rattle.ddt_path.specs.Locators.{lists}
use Rattle.ddt_register.specs.declared.register.Register.{Register}
use Rattle.ddt_check.specs.Assignment.{assignment}
use Rattle.ddt_config.specs.Table.{Outline}
use Rattle.ddt_cache.specs.Moment.{last_moment}
use Rattle.ddt_sockets.specs.declared.wire_calls.Call.{Call}
use Rattle.ddt_sockets.specs.declared.wire_calls.Call.TheVariants.{Received}
use Rattle.ddt_resolver.specs.declared.itr_messages.ItrRequest.{ItrRequest}
use Rattle.ddt_resolver.specs.Order.{IsStateInOrder}
use Rattle.ddt_resolver.specs.State.{State, moved, server}
use Rattle.ddt_sim.specs.Sound.{IsSound, IsFair as IsFairCall, IsFairDatagram}
use Rattle.ddt_loop.specs.declared.requester.Requester.TheVariants.{Identifier, Itr}
use Rattle.ddt_loop.specs.Requesters.{AreWaiting, end_of_ask, opening_desk}
use Rattle.ddt_loop.specs.Acts.{Running, running, AsksAt, AsksForItr, IsToldAtOnce, HearsOrTicks, does, fails}
use Rattle.ddt_loop.specs.Polls.{IsPacketTaken, asks, no_request, hears, other_port, IsNoPacket, no_packet, came, PollsServer, none_there, served, out_of_memory, Polls}
use Rattle.ddt_loop.specs.Turns.{HaveAsked, no_ask, one_ask, HaveTurned, no_turn, one_turn}
use Rattle.ddt_loop.specs.Right.{WasAsked, ArePacketsFair, IsRightLoopEnd, IsNoReply, Owes, begin, asked, forgotten, other}
use Rattle.ddt_loop.proofs.CallLemmas.{fair_front, itrs, owes_others, owes_told, other_socket, no_replies_there, open_ends, end_set}
use Rattle.ddt_loop.proofs.KeepLemmas.{IsKept, WaitsFor, Grounds, kept_more, kept_with, kept_moved, by_step, kept_on, owes_on, left_over, kept_ask}

-- a poll that gives no packet tries no reply
nothing_tried : (me at call : _) → IsNoPacket at call → IsNoReply me call
nothing_tried me at call (inl is) = rw is tt
nothing_tried me at call (inr is) = rw is.1 tt

-- after some calls the resolver is right, and these ITRs may be replied to: those who wait, and these others
pub record IsRightAfter (r : Register) (me : Locator) (ids : List Xeid) (extra : List ItrRequest) (calls : List Call) (w : Running) : Type 0 where
  pub kept : IsKept r me ids calls w
  pub owes : Owes r me calls (itrs w.desk.waiting ++ extra)

right_end : (r x answer : _) → ((o : _) → answer ≡ Ok (Some o) → o ≡ assignment r (xeid_path x)) → IsRightLoopEnd r x (end_of_ask answer)
right_end r x (Ok (Some o)) right = right o refl
right_end r x (Ok None) right = tt
right_end r x (Err why) right = tt

none_left : (place answer : _) → left_over answer (Identifier place) ≡ []
none_left place (Ok (Some o)) = refl
none_left place (Ok None) = refl
none_left place (Err why) = refl

told_at_once : {r me calls : _} (owed extra : _) (q : ItrRequest) (answer telling : _) → ((o : _) → answer ≡ Ok (Some o) → o ≡ assignment r (xeid_path q.xeid))
    → IsToldAtOnce me answer q telling → Owes r me calls (owed ++ (left_over answer (Itr q) ++ extra)) → Owes r me (calls ++ telling) (owed ++ extra)
told_at_once owed extra q (Ok (Some o)) telling right tells owes = owes_told owed extra q o telling owes (right o refl) tells
told_at_once {calls = calls} owed extra q (Ok None) telling right tells owes = rw (tells, append-nil calls) owes
told_at_once {calls = calls} owed extra q (Err why) telling right tells owes = rw (tells, append-nil calls) (forgotten owed extra q owes)

-- a call that tries no reply, and changes nothing
pub right_other : {r me ids extra calls w : _} (call : _) → IsNoReply me call → IsRightAfter r me ids extra calls w → IsRightAfter r me ids extra (calls ++ call ∷ []) w
right_other call none i = record { kept = kept_more (call ∷ []) i.kept; owes = other call i.owes none }

right_others : {r me ids extra calls w : _} (more : _) → All (IsNoReply me) more → IsRightAfter r me ids extra calls w → IsRightAfter r me ids extra (calls ++ more) w
right_others more none i = record { kept = kept_more more i.kept; owes = owes_others more i.owes none }

-- a poll of a server's socket
right_server : {r me ids servers at extra calls w : _} (polling : _) → at ≢ me → IsRightAfter r me ids extra calls w → PollsServer servers at polling
    → IsRightAfter r me ids extra (calls ++ polling) w
right_server {me = me} {at = at} polling apart i (none_there call none is) = rw is (right_other call (nothing_tried me at call none) i)
right_server {me = me} {at = at} polling apart i (served p bytes reply tries says tried is) =
    rw is (right_others _ (All-cons (IsNoReply me) _ tries tt (no_replies_there at me _ tries apart tried)) i)
right_server polling apart i (out_of_memory p bytes wanted is) = rw is (right_other _ tt i)

pub fair_datagram : {r me ids : _} (calls rest : _) {w : _} (now room p bytes : _) → IsKept r me ids calls w
    → ArePacketsFair r me (calls ++ Received me room (Ok (Some p)) bytes ∷ rest) → p.port ≡ 4342 → IsFairDatagram r (moved now w.state) p.from bytes
fair_datagram {me = me} calls rest now room p bytes k fair port t l rec taken =
    let from = taken.in_time.from_server in
    let there : p.from ≡ server me l = rw k.own at from.same_source in
    fair calls rest room p bytes l.nonce rec l.x refl port from.reply.tells (rw there (k.tried t l from.reply.is_pending))

module _ {r : Register} (g : Grounds r) {me : Locator} {ids : List Xeid} {extra : List ItrRequest} where
  -- ---- the asks

  right_ask : {calls w : _} → IsRightAfter r me ids extra calls w → (now : ℕ) → now ≤ last_moment → {place x : _} → slice_get ids place ≡ Some x
      → {tries new : _} → AsksAt me now place x w tries new → IsRightAfter r me ids extra (calls ++ tries) new
  right_ask i now le {place} {x} is act =
      let k = kept_ask g i.kept now le is act.asks in
      let m = k.kept in
      rw act.ends (record {
        kept = kept_with _ m m.owned m.waits
            (end_set r ids act.midway.desk.ends place x (end_of_ask act.answer) is (right_end r x act.answer k.right) m.ends);
        owes = rw (none_left place act.answer) at (k.owes extra i.owes);
      })

  pub right_asks : {now start place calls w : _} → now ≤ last_moment → IsRightAfter r me ids extra [] start → HaveAsked me now ids start place calls w
      → IsRightAfter r me ids extra calls w
  right_asks le i no_ask = i
  right_asks {now} le i (one_ask x more new so_far is act) = right_ask (right_asks le i so_far) now le is act

  right_itr : {calls w : _} → IsKept r me ids calls w → (now : ℕ) → now ≤ last_moment → (q : ItrRequest) → Owes r me calls (itrs w.desk.waiting ++ q ∷ extra)
      → {tries new : _} → AsksForItr me now q w tries new → IsRightAfter r me ids extra (calls ++ tries) new
  right_itr {calls} kept now le q owes {new = new} act =
      let k = kept_ask g kept now le refl act.asks in
      let after : IsRightAfter r me ids extra ((calls ++ act.asking) ++ act.telling) new = record {
        kept = kept_more act.telling k.kept;
        owes = told_at_once (itrs new.desk.waiting) extra q act.answer act.telling k.right act.tells (k.owes extra owes);
      } in rw act.calls_are (rw append_assoc at after)

  -- ---- a datagram and a tick

  pub right_resolves : {calls w : _} → IsRightAfter r me ids extra calls w → (now : ℕ) → now ≤ last_moment → {call tries new : _}
      → IsFairCall r (moved now w.state) call → HearsOrTicks me now call w tries new → IsRightAfter r me ids extra (calls ++ tries) new
  right_resolves i now le {tries = tries} {new = new} fair (does reply step goes) = record {
    kept = kept_on g i.kept now le (by_step g i.kept now le step fair) new.desk tries goes;
    owes = owes_on g i.kept now le (by_step g i.kept now le step fair) new.desk tries goes extra i.owes;
  }
  right_resolves {calls} i now le {new = new} fair (fails wants state desk none) =
      rw (none, append-nil calls) (record { kept = kept_moved g i.kept now le new state desk; owes = rw desk i.owes })

  -- ---- a poll of the resolver's socket

  pub right_taken : {calls w : _} → IsRightAfter r me ids extra calls w → (now : ℕ) → now ≤ last_moment → (room p bytes rest : _) {new : _}
      → ArePacketsFair r me (calls ++ Received me room (Ok (Some p)) bytes ∷ rest) → IsPacketTaken me now p bytes w rest new
      → IsRightAfter r me ids extra (calls ++ Received me room (Ok (Some p)) bytes ∷ rest) new
  right_taken {calls} {w} i now le room p bytes rest {new} fair taken = rw append_assoc at (by taken)
    where
      after : IsRightAfter r me ids extra (calls ++ Received me room (Ok (Some p)) bytes ∷ []) w
      after = right_other (Received me room (Ok (Some p)) bytes) tt i

      by : IsPacketTaken me now p bytes w rest new → IsRightAfter r me ids extra ((calls ++ Received me room (Ok (Some p)) bytes ∷ []) ++ rest) new
      by (asks encapsulated q is act) = right_itr after.kept now le q (asked (itrs w.desk.waiting) extra room p bytes q i.owes is) act
      by (no_request encapsulated not none same) = rw (none, append-nil (calls ++ Received me room (Ok (Some p)) bytes ∷ []), same) after
      by (hears plain port act) = right_resolves after now le (fair_datagram calls rest now room p bytes i.kept fair port) act
      by (other_port plain port none same) = rw (none, append-nil (calls ++ Received me room (Ok (Some p)) bytes ∷ []), same) after

  -- ---- turns

  module _ (servers : List Outline) (sockets : List Locator) (elsewhere : lists sockets me ≡ false) where
    right_polls : {calls w : _} (place now polling new : _) → now ≤ last_moment → IsRightAfter r me ids extra calls w → ArePacketsFair r me (calls ++ polling)
        → Polls servers me sockets now place w polling new → IsRightAfter r me ids extra (calls ++ polling) new
    right_polls zero now polling new le i fair (no_packet call none is same) = rw (is, same) (right_other call (nothing_tried me me call none) i)
    right_polls zero now polling new le i fair (came p bytes rest taken is) = rw is (right_taken i now le _ p bytes rest (rw is at fair) taken)
    right_polls (suc n) now polling new le i fair polls =
        rw polls.3 (right_server polling (other_socket sockets n polls.0 me polls.1 elsewhere) i polls.2)

    pub right_turns : {base start number moments calls w : _} → IsRightAfter r me ids extra base start → HaveTurned servers me sockets start number moments calls w
        → ArePacketsFair r me (base ++ calls) → IsRightAfter r me ids extra (base ++ calls) w
    right_turns i no_turn fair = rw append-nil i
    right_turns {base} i (one_turn {number = n} {calls = before} now turn new so_far more t) fair =
        let whole : base ++ (before ++ turn) ≡ ((base ++ before) ++ t.polling) ++ t.ticking = rw (t.calls_are, append_assoc, append_assoc) in
        let all = rw whole at fair in
        let front = fair_front r me ((base ++ before) ++ t.polling) t.ticking all in
        let first = right_turns i so_far (fair_front r me (base ++ before) t.polling front) in
        rw whole (right_resolves (right_polls _ now t.polling t.midway t.is_moment first front t.polls) now t.is_moment tt t.ticks)

-- ---- at first

pub right_at_first : (r me ids : _) (old : State) → IsStateInOrder old → IsSound r old → ((t : ℕ) → get old.pending t ≡ None) → old.me ≡ me
    → IsRightAfter r me ids [] [] (running old (opening_desk ids))
right_at_first r me ids old order sound rest own =
    let owned : AreWaiting old [] = record { apart = tt; pending = All-nil (λ o. IsSome (get old.pending o.ticket)) } in
    let tried : (t : ℕ) (l : _) → get old.pending t ≡ Some l → WasAsked me (server me l) l.nonce l.x [] = λ t l here. absurd (cc (rest t, here)) in
    let kept : IsKept r me ids [] (running old (opening_desk ids)) =
    record { order = order; sound = sound; own = own; tried = tried; owned = owned; waits = All-nil (WaitsFor ids old); ends = open_ends r ids } in
    record { kept = kept; owes = begin }
