-- A resolver that runs for ITRs is right, where its calls are fair.
use Rattle.std.proofs.Common.{◌≡◌, true, ℕ, ◌≤◌, List, [], ◌∷◌, ◌++◌, append-nil, append_assoc, Option, Some, None, Ok, refl, inr}
use Rattle.std.specs.Prelude.{All}
use Rattle.std.specs.FinMap.{get}
use Rattle.std.proofs.lemmas.List.Elements.{All-nil, All-push}
use Rattle.ddt_path.specs.declared.locator.Locator.{Locator}
use Rattle.ddt_register.specs.declared.register.Register.{Register}
use Rattle.ddt_cache.specs.Moment.{last_moment}
use Rattle.ddt_sockets.specs.declared.wire_calls.Call.{Call}
use Rattle.ddt_sockets.specs.declared.wire_calls.Call.TheVariants.{Received, Tried}
use Rattle.ddt_sockets.specs.declared.wire_calls.Packet.{Packet}
use Rattle.ddt_ecm.specs.UdpHeader.{control_port}
use Rattle.ddt_sim.specs.Sound.{IsSound, IsFair as IsFairCall, IsFairDatagram, StepsKeepSoundness, HasteningKeepsSoundness, TimeKeepsSoundness, ForgettingKeepsSoundness}
use Rattle.ddt_sim.specs.Inside.{StartsAreTrue, HonestRepliesAreInside, StepsKeepStarts, HasteningKeepsStarts, ForgettingKeepsStarts}
use Rattle.ddt_resolver.specs.declared.pending.Pending.{Pending}
use Rattle.ddt_resolver.specs.State.{State, moved, server}
use Rattle.ddt_resolver.specs.State as state
use Rattle.ddt_resolver.specs.Step.{Ask, Tick}
use Rattle.ddt_resolver.specs.TickStep as haste
use Rattle.ddt_resolver.specs.TickStep.{HastenStep}
use Rattle.ddt_resolver.specs.declared.results.Ticked.TheVariants as ticked_as
use Rattle.ddt_resolver.specs.declared.step.Reply.{Reply}
use Rattle.ddt_resolver.specs.declared.step.Reply.TheVariants.{ToTick}
use Rattle.ddt_resolver.specs.Order.{IsStateInOrder}
use Rattle.ddt_resolver.specs.Front.{IsItrRequest}
use Rattle.ddt_resolver.specs.Within.{whole, cut, IsWide}
use Rattle.ddt_resolver.specs.laws.Order.{order_moved, order_hastened, order_forgotten}
use Rattle.ddt_resolver.specs.laws.Shape.{moved_by_step}
use Rattle.ddt_loop.specs.declared.packet_outcome.Ended.{Ended}
use Rattle.ddt_loop.specs.Requesters.{opening_desk}
use Rattle.ddt_loop.specs.Acts.{Running, running, Asks, answered, refused, lacks_memory, HearsOrTicks, does as steps, fails as lacks, Hastens, does, fails, request_tried}
use Rattle.ddt_loop.specs.Polls.{IsPacketTaken, asks, no_request, hears, other_port}
use Rattle.ddt_loop.specs.Sharing.{Sharer, MayShare, TellsSharers, wait_on, told}
use Rattle.ddt_loop.specs.Right.{ArePacketsFair, is_poll, IsNoReply, Owes, asked, forgotten}
use Rattle.ddt_loop.specs.Runs as runs
use Rattle.ddt_loop.specs.Ends.{EndsBy, EndsByHaste}
use Rattle.ddt_loop.specs.Runs.{BeginsSound, IsHeardAs, MayEndBy, EndsByReply, HasRun, begins, took, ticked, hastened, shared, waited, forgot, resent, passed, renewed, FairRunsAreRight}
use Rattle.ddt_loop.proofs.CallLemmas.{fair_front, itrs}
use Rattle.ddt_loop.proofs.KeepLemmas.{Grounds, IsAct, EndsRight, right_end, ticked_right, kept_more, kept_moved, kept_on, owes_on}
use Rattle.ddt_loop.proofs.ShapeLemmas.{Shape, stays, of_move, of_haste, was_pending}
use Rattle.ddt_loop.proofs.SharerLemmas.{Shares, may_share, all_share, all_left, requests, requests_push, right_for, told_all}
use Rattle.ddt_loop.proofs.RightLemmas.{IsRightAfter, right_at_first, right_other, fair_datagram, right_resolves, right_taken}

-- what a run stands on: of the register, and of lookups that are hastened, of zones and of starts
pub record RunGrounds (r : Register) : Type 0 where
  pub steps : Grounds r
  pub hastening : HasteningKeepsSoundness
  pub inside : HonestRepliesAreInside
  pub starts : StepsKeepStarts
  pub hastened_starts : HasteningKeepsStarts
  pub forgetting : ForgettingKeepsSoundness
  pub forgotten_starts : ForgettingKeepsStarts

-- what is kept over a run
pub record RunsRight (r : Register) (me : Locator) (calls : List Call) (sharers : List Sharer) (w : Running) : Type 0 where
  pub right : IsRightAfter r me [] (requests sharers) calls w
  pub starts : StartsAreTrue r w.state
  pub share : All (Shares w.state) sharers

right_begin : {r me : _} (s : State) → BeginsSound r me s → RunsRight r me [] [] (running s (opening_desk []))
right_begin {r} {me} s b = record {
  right = right_at_first r me [] s b.order b.starts.sound b.starts.at_rest b.own;
  starts = λ t l p here. absurd (cc (b.starts.at_rest t, here));
  share = All-nil (Shares s);
}

no_reply_polled : (me : Locator) (call : Call) → is_poll call ≡ true → IsNoReply me call
no_reply_polled me (Received at room answer bytes) polls = tt
no_reply_polled me (Tried at to port bytes answer) polls = absurd (cc polls)

-- nobody waits any more
all_forgotten : {r me calls : _} (owed : _) → Owes r me calls owed → Owes r me calls []
all_forgotten [] o = o
all_forgotten (q ∷ owed) o = all_forgotten owed (forgotten [] owed q o)

right_renewed : {r me calls sharers w : _} (new : State) → BeginsSound r me new → RunsRight r me calls sharers w → RunsRight r me calls [] (running new (opening_desk []))
right_renewed {calls = calls} {sharers = sharers} {w = w} new b i =
    let first = right_begin new b in record {
      right = record { kept = kept_more calls first.right.kept; owes = all_forgotten (itrs w.desk.waiting ++ requests sharers) i.right.owes };
      starts = first.starts;
      share = first.share;
    }

module _ {r : Register} (g : RunGrounds r) {me : Locator} where
  module _ {calls : _} {sharers : List Sharer} {w : Running} (i : RunsRight r me calls sharers w) (now : ℕ) (le : now ≤ last_moment) where
    abbrev s : State
    s = moved now w.state

    sound : IsSound r s
    sound = g.steps.time r w.state now i.right.kept.sound

    starts_asked : {x who answer tries new : _} → Asks me now x who w answer tries new → StartsAreTrue r new.state
    starts_asked (answered a step starting is) = g.starts r s _ _ _ sound i.starts step
    starts_asked (refused why step desk none is) = g.starts r s _ _ _ sound i.starts step
    starts_asked (lacks_memory wants state desk none is) = rw state i.starts

    starts_heard : {call tries new : _} → HearsOrTicks me now call w tries new → StartsAreTrue r new.state
    starts_heard (steps reply step goes) = g.starts r s _ _ reply sound i.starts step
    starts_heard (lacks wants state desk none) = rw state i.starts

    starts_taken : {p heard tries new : _} → IsPacketTaken me now p heard w tries new → StartsAreTrue r new.state
    starts_taken (asks encapsulated q is act) = starts_asked act.asks
    starts_taken (no_request encapsulated not none same) = rw same i.starts
    starts_taken (hears plain port act) = starts_heard act
    starts_taken (other_port plain port none same) = rw same i.starts

    -- ---- those who share lookups

    share_moved : All (Shares s) sharers
    share_moved i2 d lt = let h = i.share i2 d lt in record { given = h.given; same = h.same }

    tells_on : {calls2 : _} {new : Running} {a : _} (ended : Option Ended) (tells : List Call) (left : List Sharer) → Shape s new.state a
        → ((e : Ended) → ended ≡ Some e → (l : Pending) × (get s.pending e.ticket ≡ Some l) × EndsRight r s e.ticket e.end)
        → TellsSharers me sharers ended tells left → IsRightAfter r me [] (requests sharers) calls2 new
        → IsRightAfter r me [] (requests left) (calls2 ++ tells) new × All (Shares new.state) left
    tells_on None tells left move ends wait_on right = (rw append-nil right, all_share move sharers share_moved)
    tells_on {calls2} {new} (Some e) tells left move ends (told f all are) right =
        let h = ends e refl in
        let rights = λ (n : ℕ) (d : Sharer) (lt : _). right_for r s e.ticket e.end h.0 h.2 h.1 _ (share_moved n d lt) in (
          record {
            kept = kept_more tells right.kept;
            owes = told_all calls2 (itrs new.desk.waiting) e.ticket e.end sharers tells rights are right.owes;
          },
          all_left (Shares new.state) e.ticket sharers (all_share move sharers share_moved),
        )

    -- ---- what a step does to the pending lookups

    abbrev MovesTo : State → Type 0
    MovesTo new = (a : Reply) × Shape s new a

    o : IsStateInOrder s
    o = order_moved w.state now le i.right.kept.order

    rests : (new : State) → new.pending ≡ w.state.pending → new.next ≡ w.state.next → MovesTo new
    rests new pending next = (ToTick ticked_as.Nothing, stays pending next refl)

    moves_asked : {x who answer tries new : _} → Asks me now x who w answer tries new → MovesTo new.state
    moves_asked {x} {new = new} (answered a step starting is) = (_, of_move (moved_by_step s o (Ask x) new.state _ step).move)
    moves_asked {x} {new = new} (refused why step desk none is) = (_, of_move (moved_by_step s o (Ask x) new.state _ step).move)
    moves_asked {new = new} (lacks_memory wants state desk none is) = rests new.state (rw state refl) (rw state refl)

    moves_heard : {call tries new : _} → HearsOrTicks me now call w tries new → MovesTo new.state
    moves_heard {call} {new = new} (steps reply step goes) = (reply, of_move (moved_by_step s o call new.state reply step).move)
    moves_heard {new = new} (lacks wants state desk none) = rests new.state (rw state refl) (rw state refl)

    moves_taken : {p heard tries new : _} → IsPacketTaken me now p heard w tries new → MovesTo new.state
    moves_taken (asks encapsulated q is act) = moves_asked act.asks
    moves_taken {new = new} (no_request encapsulated not none same) = rests new.state (rw same refl) (rw same refl)
    moves_taken (hears plain port act) = moves_heard act
    moves_taken {new = new} (other_port plain port none same) = rests new.state (rw same refl) (rw same refl)

    -- ---- how a lookup ends

    abbrev EndsRightly : Ended → Type 0
    EndsRightly e = (l : Pending) × (get s.pending e.ticket ≡ Some l) × EndsRight r s e.ticket e.end

    ends_by_step : {call new after : _} (e : Ended) → IsFairCall r s call → EndsBy call s new w.desk.waiting after e → EndsRightly e
    ends_by_step {call} {new} e fair by =
        let both = g.steps.laws r s call new by.reply g.steps.accepted o sound fair by.step in
        let l = was_pending (of_move (moved_by_step s o call new by.reply by.step).move) by.ends in
        (l.0, l.1, right_end r s call by.reply e.ticket e.end both.1 by.ends)

    ends_by_haste : {nonce new after : _} (e : Ended) → EndsByHaste nonce s new w.desk.waiting after e → EndsRightly e
    ends_by_haste {nonce} {new} e by =
        let both = g.hastening r s nonce new by.ticked g.steps.accepted o sound by.step in
        let l = was_pending (of_haste by.step) by.ends in
        (l.0, l.1, ticked_right r s by.ticked e.ticket e.end both.1 by.ends)

    -- ---- a lookup that is hastened

    same_me : {nonce : ℕ} {new : State} {h : _} → HastenStep s nonce new h → new.me ≡ s.me
    same_me (haste.unknown none e f) = rw e refl
    same_me (haste.hastened t l here its (haste.again first more e f)) = rw e refl
    same_me (haste.hastened t l here its (haste.next_place second room more e f)) = rw e refl
    same_me (haste.hastened t l here its (haste.answered rec second last kept e f)) = rw e refl
    same_me (haste.hastened t l here its (haste.no_reply second last none e f)) = rw e refl
    same_me (haste.hastened t l here its (haste.used_up has none e f)) = rw e refl

    haste_act : {nonce : ℕ} {new : State} {h : _} → HastenStep s nonce new h → IsAct r s new (ToTick h)
    haste_act {nonce} {new} {h} step =
        let both = g.hastening r s nonce new h g.steps.accepted o sound step in record {
          order = order_hastened s nonce new h o step;
          sound = both.0;
          own = same_me step;
          right = λ t end is. ticked_right r s h t end both.1 is;
          shape = of_haste step;
        }

    right_hastens : {nonce tries new : _} → Hastens me now nonce w tries new → IsRightAfter r me [] (requests sharers) (calls ++ tries) new
    right_hastens {tries = tries} {new = new} (does h step goes) = record {
      kept = kept_on g.steps i.right.kept now le (haste_act step) new.desk tries goes;
      owes = owes_on g.steps i.right.kept now le (haste_act step) new.desk tries goes (requests sharers) i.right.owes;
    }
    right_hastens {new = new} (fails wants state desk none) =
        rw (none, append-nil) (record { kept = kept_moved g.steps i.right.kept now le new state desk; owes = rw desk i.right.owes })

    moves_hastened : {nonce tries new : _} → Hastens me now nonce w tries new → MovesTo new.state
    moves_hastened (does h step goes) = (ToTick h, of_haste step)
    moves_hastened {new = new} (fails wants state desk none) = rests new.state (rw state refl) (rw state refl)

    starts_hastened : {nonce tries new : _} → Hastens me now nonce w tries new → StartsAreTrue r new.state
    starts_hastened {nonce} {new = new} (does h step goes) = g.hastened_starts r s nonce new.state h i.starts step
    starts_hastened (fails wants state desk none) = rw state i.starts

    -- ---- a datagram is heard as it came

    never_cut : (p : Packet) (bytes : List ℕ) (rest : List Call) (room : ℕ) → ArePacketsFair r me (calls ++ Received me room (Ok (Some p)) bytes ∷ rest) → p.port ≡ control_port
        → (l : Pending) (rec : _) (zone : List ℕ) → IsWide w.state p.from bytes l rec zone → ⊥
    never_cut p bytes rest room fair port l rec zone wide =
        let k = i.right.kept in
        let from = wide.from_server in
        let there : p.from ≡ server me l = rw k.own at from.same_source in
        let says_it = fair calls rest room p bytes l.nonce rec l.x refl port from.reply.tells (rw there (k.tried wide.ticket l from.reply.is_pending)) in
        g.inside r w.state p.from bytes l rec zone g.steps.accepted k.order k.sound i.starts wide says_it

    heard_whole : (p : Packet) (bytes : List ℕ) (rest : List Call) (room : ℕ) (heard : List ℕ) → ArePacketsFair r me (calls ++ Received me room (Ok (Some p)) bytes ∷ rest)
        → IsHeardAs w.state p bytes heard → heard ≡ bytes
    heard_whole p bytes rest room heard fair (runs.other_port port is) = is
    heard_whole p bytes rest room heard fair (runs.from_server None port cuts is) = is
    heard_whole p bytes rest room heard fair (runs.from_server (Some c) port (whole none not) is) = absurd (cc not)
    heard_whole p bytes rest room heard fair (runs.from_server (Some c) port (cut l rec zone wide same spells) is) = absurd (never_cut p bytes rest room fair port l rec zone wide)

    reply_ends : (p : Packet) (heard : List ℕ) (new : Running) (ended : Option Ended) → (p.port ≡ control_port → IsFairDatagram r s p.from heard)
        → MayEndBy (EndsByReply now p heard w new) ended → (e : Ended) → ended ≡ Some e → EndsRightly e
    reply_ends p heard new None fair ends e is = absurd (cc is)
    reply_ends p heard new (Some f) fair ends e is =
        let by : EndsByReply now p heard w new f = ends in let same : f ≡ e = cc is in rw same at (ends_by_step f (fair by.port) by.ends)

    tick_ends : (new : State) (after : _) (ended : Option Ended) → MayEndBy (EndsBy Tick s new w.desk.waiting after) ended → (e : Ended) → ended ≡ Some e → EndsRightly e
    tick_ends new after None ends e is = absurd (cc is)
    tick_ends new after (Some f) ends e is = let same : f ≡ e = cc is in rw same at (ends_by_step f tt ends)

    haste_ends : (nonce : ℕ) (new : State) (after : _) (ended : Option Ended) → MayEndBy (EndsByHaste nonce s new w.desk.waiting after) ended → (e : Ended) → ended ≡ Some e → EndsRightly e
    haste_ends nonce new after None ends e is = absurd (cc is)
    haste_ends nonce new after (Some f) ends e is = let same : f ≡ e = cc is in rw same at (ends_by_haste f ends)

    right_waited : RunsRight r me calls sharers (running s w.desk)
    right_waited = record {
      right = record { kept = kept_moved g.steps i.right.kept now le (running s w.desk) refl refl; owes = i.right.owes };
      starts = i.starts;
      share = share_moved;
    }

  right_forgot : {calls : _} {js : List Sharer} {w : Running} (p : List ℕ) → RunsRight r me calls js w → RunsRight r me calls js (running (state.forgotten w.state p) w.desk)
  right_forgot {w = w} p i =
      let k = i.right.kept in record {
        right = record {
          kept = record {
            order = order_forgotten w.state p k.order;
            sound = g.forgetting r w.state p k.sound;
            own = k.own;
            tried = k.tried;
            owned = record { apart = k.owned.apart; pending = k.owned.pending };
            waits = k.waits;
            ends = k.ends;
          };
          owes = i.right.owes;
        };
        starts = g.forgotten_starts r w.state p i.starts;
        share = λ n d lt. let h = i.share n d lt in record { given = h.given; same = h.same };
      }

  -- ---- a run

  right_shared : {calls : _} {js : List Sharer} {w : Running} (room : ℕ) (p : _) (bytes : _) (j : Sharer) → IsItrRequest bytes j.request → MayShare w.desk j
      → RunsRight r me calls js w → RunsRight r me (calls ++ Received me room (Ok (Some p)) bytes ∷ []) (js ++ j ∷ []) w
  right_shared {calls} {js} {w} room p bytes j asks_it may i =
      let more = calls ++ Received me room (Ok (Some p)) bytes ∷ [] in
      let before = itrs w.desk.waiting ++ requests js in
      let front : Owes r me calls (before ++ []) = rw append-nil i.right.owes in
      let owed : Owes r me more (before ++ j.request ∷ []) = asked before [] room p bytes j.request front asks_it in record {
        right = record {
          kept = kept_more (Received me room (Ok (Some p)) bytes ∷ []) i.right.kept;
          owes = rw (requests_push js j) (rw append_assoc at owed);
        };
        starts = i.starts;
        share = All-push (Shares w.state) js j i.share (may_share w.desk.waiting j i.right.kept.order i.right.kept.waits may);
      }

  right_passed : {calls : _} {js : List Sharer} {w : Running} (call : Call) → IsNoReply me call → RunsRight r me calls js w → RunsRight r me (calls ++ call ∷ []) js w
  right_passed call none i = record { right = right_other call none i.right; starts = i.starts; share = i.share }

  with_tells : (calls more tells : List Call) {left : List Sharer} {new : Running} → StartsAreTrue r new.state
      → IsRightAfter r me [] (requests left) ((calls ++ more) ++ tells) new × All (Shares new.state) left → RunsRight r me (calls ++ (more ++ tells)) left new
  with_tells calls more tells starts both = record { right = rw append_assoc at both.0; starts = starts; share = both.1 }

  pub right_run : {start : Running} {calls : _} {sharers : _} {w : Running} → RunsRight r me [] [] start → HasRun (BeginsSound r me) me start calls sharers w
      → ArePacketsFair r me calls → RunsRight r me calls sharers w
  right_run first begins fair = first
  right_run first (took {calls = before} now room p bytes heard tries ended tells left new so_far le hears_it taken ends telling) fair =
      let front = fair_front r me (before ++ Received me room (Ok (Some p)) bytes ∷ tries) tells (rw append_assoc fair) in
      let i = right_run first so_far (fair_front r me before _ fair) in
      let same = heard_whole i now le p bytes (tries ++ tells) room heard fair hears_it in
      let is = rw same at taken in
      let after = right_taken g.steps i.right now le room p bytes tries front is in
      let move = moves_taken i now le is in
      let fair_call = λ (port : p.port ≡ control_port). fair_datagram before tries now room p bytes i.right.kept front port in
      with_tells before (Received me room (Ok (Some p)) bytes ∷ tries) tells (starts_taken i now le is)
      (tells_on i now le ended tells left move.1 (reply_ends i now le p bytes new ended fair_call (rw same at ends)) telling after)
  right_run first (ticked {calls = before} now tries ended tells left new so_far le ticks ends telling) fair =
      let i = right_run first so_far (fair_front r me before _ fair) in
      with_tells before tries tells (starts_heard i now le ticks)
      (tells_on i now le ended tells left (moves_heard i now le ticks).1 (tick_ends i now le new.state new.desk.waiting ended ends) telling (right_resolves g.steps i.right now le tt ticks))
  right_run first (hastened {calls = before} now nonce tries ended tells left new so_far le hastens ends telling) fair =
      let i = right_run first so_far (fair_front r me before _ fair) in
      with_tells before tries tells (starts_hastened i now le hastens)
      (tells_on i now le ended tells left (moves_hastened i now le hastens).1 (haste_ends i now le nonce new.state new.desk.waiting ended ends) telling (right_hastens i now le hastens))
  right_run first (shared {calls = before} {sharers = js} {w = w} room p bytes j so_far asks_it may) fair =
      right_shared room p bytes j asks_it may (right_run first so_far (fair_front r me before _ fair))
  right_run first (waited now so_far le) fair = right_waited (right_run first so_far fair) now le
  right_run first (forgot p so_far) fair = right_forgot p (right_run first so_far fair)
  right_run first (resent {calls = before} t l answer so_far here) fair =
      right_passed (request_tried me l answer) (inr (l.nonce, l.x, refl)) (right_run first so_far (fair_front r me before _ fair))
  right_run first (passed {calls = before} call so_far polls) fair =
      right_passed call (no_reply_polled me call polls) (right_run first so_far (fair_front r me before _ fair))
  right_run first (renewed new so_far b later) fair = right_renewed new b (right_run first so_far fair)

pub fair_runs : StepsKeepSoundness → HasteningKeepsSoundness → TimeKeepsSoundness → HonestRepliesAreInside → StepsKeepStarts → HasteningKeepsStarts → ForgettingKeepsSoundness → ForgettingKeepsStarts → FairRunsAreRight
fair_runs laws hastening time inside starts hastened_starts forgetting forgotten_starts r me start calls sharers w b run fair =
    let g : RunGrounds r = record {
      steps = record { laws = laws; time = time; accepted = b.starts.accepted };
      hastening = hastening;
      inside = inside;
      starts = starts;
      hastened_starts = hastened_starts;
      forgetting = forgetting;
      forgotten_starts = forgotten_starts;
    } in
    let is = right_run g (right_begin start b) run fair in
    ((itrs w.desk.waiting ++ requests sharers, is.right.owes), is.right.kept.sound)
