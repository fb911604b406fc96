-- A Map-Resolver runs as a resolver, and only requests of ITRs go on.
use Rattle.std.proofs.Common.{◌≡◌, ℕ, ◌≤◌, true, false, List, [], ◌∷◌, ◌++◌, append-nil, append_assoc, Option, Some, None, Result, Ok, Err, refl, sym, ap, ◌∙◌, subst, inl, inr}
use Rattle.std.specs.Prelude.{All, IsTrue}
use Rattle.std.proofs.lemmas.List.Elements.{All-nil, All-cons, All-head, All-tail, All-push, All-append}
use Rattle.ddt_path.specs.declared.locator.Locator.{Locator}
use Rattle.ddt_path.specs.declared.record.Outcome.{Outcome}
use Rattle.ddt_path.specs.declared.record.Outcome.TheVariants.{Registered, NotRegistered, Hole}
use Rattle.ddt_sockets.specs.declared.wire_calls.Call.{Call}
use Rattle.ddt_sockets.specs.declared.wire_calls.Call.TheVariants.{Received, Tried}
use Rattle.ddt_sockets.specs.Turns.{AreTried, most_bytes}
use Rattle.ddt_cache.specs.Moment.{last_moment}
use Rattle.ddt_resolver.specs.declared.results.Why.{Why}
use Rattle.ddt_resolver.specs.declared.itr_messages.ItrRequest.{ItrRequest}
use Rattle.ddt_resolver.specs.State.{State, moved}
use Rattle.ddt_loop.specs.declared.packet_outcome.Ended.{Ended as End}
use Rattle.ddt_resolver.specs.declared.results.Asked.TheVariants.{Answer}
use Rattle.ddt_resolver.specs.AskStep.{AskStep, cached}
use Rattle.ddt_resolver.specs.Step.{asks as asks_step}
use Rattle.ddt_path.specs.Path.{xeid_path, is_path}
use Rattle.ddt_loop.specs.Acts.{Running, running, AsksForItr, IsToldItr, answered, Resends, unknown, none, again, request_tried}
use Rattle.ddt_loop.specs.Polls.{polled, asks, other_port as from_elsewhere}
use Rattle.ddt_loop.specs.Sharing.{Sharer, TellsSharers, wait_on}
use Rattle.ddt_loop.specs.Runs as runs
use Rattle.ddt_loop.specs.Runs.{BeginsSound, HasRun, took, ticked, hastened, shared, waited, forgot, resent, passed, renewed}
use Rattle.ddt_loop.specs.Runs.{begins as run_begins}
use Rattle.ddt_sockets.specs.declared.wire_calls.Packet.{Packet}
use Rattle.ddt_daemon.specs.Onward.{onward, to_server}
use Rattle.ddt_config.specs.declared.settings.resolver_settings.Settings.{Settings}
use Rattle.ddt_daemon.specs.declared.itr_requests.WaitingRequest.{WaitingRequest}
use Rattle.ddt_daemon.specs.Admitted.{Answers, IsAdmitted}
use Rattle.ddt_daemon.specs.Goes.{sharers, sharer_if, goes_on, Closes, starts, one, Follows}
use Rattle.ddt_daemon.specs.Rounds as rounds
use Rattle.ddt_daemon.specs.Resolving.{Resolving, resolving, at_moment}
use Rattle.ddt_daemon.specs.Rounds.{HasWaited, WaitsAs, KeepsAsked, at_once, waits, HearsReply, HearsSpelled, IsHeard, IsHandled, IsRound, no_packet, failed, came}
use Rattle.ddt_daemon.specs.Runs.{HasServed, begins, round, tick, hastening, resending, forgetting, waiting, renewal, IsSpelledCall, as_it_is, request, referral, AreSpelled, RunsAsAResolver, IsOnward, AreRequests, IsAny, OnlyRequestsGoOn}
use Rattle.ddt_daemon.specs.Runs.{none as spelled_none, one as spelled_one}
use Rattle.ddt_daemon.specs.Requests.{AsksFor}
use Rattle.ddt_daemon.specs.Spelled.{IsSpelledAs, short, unasked, untaken, taken}
use Rattle.ddt_loop.specs.Right.{is_poll}
use Rattle.ddt_resolver.specs.Within.{whole}
use Rattle.ddt_ecm.specs.UdpHeader.{control_port}
use Rattle.ddt_wire.specs.declared.message_type.MessageType.TheVariants.{Encapsulated}
use Rattle.ddt_wire.specs.MessageType.{is_of}
use Rattle.std.proofs.lemmas.Bool.{cases_eq}
use Rattle.ddt_daemon.proofs.PlainLemmas.{no_referral, request_is_encapsulated}
use Rattle.ddt_daemon.proofs.CloseLemmas.{sharers_append, tells_sharers}

-- ---- the near wires

sharers_push : (kept : List WaitingRequest) (k : WaitingRequest) (b : _) → k.begins ≡ b → sharers (kept ++ k ∷ []) ≡ sharers kept ++ sharer_if b k
sharers_push kept k b is = sharers_append kept (k ∷ []) ∙ ap (λ rest. sharers kept ++ rest) (append-nil (sharer_if k.begins k) ∙ ap (λ s. sharer_if s k) is)

same_sharers : (servers : List Locator) (from : Locator) (bytes : List ℕ) (q : ItrRequest) (w new : Resolving) → KeepsAsked servers from bytes q w new → sharers new.kept ≡ sharers w.kept
same_sharers servers from bytes q w new (at_once desk kept counts recent) = ap sharers kept
same_sharers servers from bytes q w new (waits k s desk kept counts recent) = ap sharers kept ∙ (sharers_push w.kept k (Some servers) s.begins ∙ append-nil (sharers w.kept))

-- where an answer is remembered, an ask ends with it, and the ITR is told
asks_at_once : (me : Locator) (now : ℕ) (q : ItrRequest) (o : Outcome) (w : Running) (near : List Call) → IsTrue (is_path (xeid_path q.xeid)) → Answers (moved now w.state) q.xeid o → IsToldItr me o q near
    → AsksForItr me now q w near (at_moment now w)
asks_at_once me now q o w near identifier its tells =
    let step : AskStep (moved now w.state) q.xeid (moved now w.state) (Ok (Answer o)) = record {
      prefix = its.0;
      entry = its.1;
      found = its.2;
      start = cached o its.3 refl refl;
    } in
    record {
      answer = Ok (Some o);
      asking = [];
      telling = near;
      asks = answered (Answer o) (asks_step q.xeid (Ok (Answer o)) identifier step refl refl) (refl, refl) refl;
      tells = tells;
      calls_are = refl;
    }

-- a request of an ITR is heard as it came: it spells no Map-Referral
as_it_came : (s : State) (p : Packet) (bytes : List ℕ) → is_of Encapsulated bytes ≡ true → runs.IsHeardAs s p bytes bytes
as_it_came s p bytes sort = elim (cases_eq p.port control_port) [
  | inl same ↦ runs.from_server None same
      (whole (λ l rec zone wide. let tells = wide.from_server.reply.tells in no_referral bytes tells.message sort tells.spells) refl) refl
  | inr other ↦ runs.other_port other refl
]

-- what is done in order is spelled in order
spelled_append : {calls plain more rest : List Call} → AreSpelled calls plain → AreSpelled more rest → AreSpelled (calls ++ more) (plain ++ rest)
spelled_append spelled_none after = after
spelled_append (spelled_one call spelled is so_far) after = spelled_one call spelled is (spelled_append so_far after)

spelled_same : (calls : List Call) → AreSpelled calls calls
spelled_same [] = spelled_none
spelled_same (call ∷ calls) = spelled_one call call (as_it_is call) (spelled_same calls)

-- a poll is spelled so, and what follows it stays as it was
spelled_poll : {calls plain : List Call} (call spelled : Call) (tries : List Call) → AreSpelled calls plain → IsSpelledCall call spelled
    → AreSpelled (calls ++ call ∷ tries) (plain ++ spelled ∷ tries)
spelled_poll call spelled tries so_far is = spelled_append so_far (spelled_one call spelled is (spelled_same tries))

-- what is heard in the place of a datagram is spelled so
heard_call : (me : Locator) (p : Packet) (bytes : List ℕ) (s : State) (plain : Option (List ℕ)) → IsSpelledAs s bytes plain
    → IsSpelledCall (polled me (Ok (Some p)) bytes) (polled me (Ok (Some p)) (runs.heard_of bytes plain))
heard_call me p bytes s plain (short few is) = rw is (as_it_is (polled me (Ok (Some p)) bytes))
heard_call me p bytes s plain (unasked nobody is) = rw is (as_it_is (polled me (Ok (Some p)) bytes))
heard_call me p bytes s plain (untaken t l its err is) = rw is (as_it_is (polled me (Ok (Some p)) bytes))
heard_call me p bytes s plain (taken t l given its gives is) = rw is (referral me most_bytes p bytes given l.x gives)

module _ (may_begin : State → Type 0) (me : Locator) (start : Running) where
  abbrev Ran : List Call → List Sharer → Running → Type 0
  Ran calls js w = (plain : List Call) × AreSpelled calls plain × HasRun may_begin me start plain js w

  waited_run : {calls : List Call} {js : List Sharer} {w v : Running} (now : ℕ) → now ≤ last_moment → HasWaited now w v → HasRun may_begin me start calls js w → HasRun may_begin me start calls js v
  waited_run now le (inl same) run = rw same run
  waited_run now le (inr is) run = rw is (waited now run le)

  passed_run : {calls : List Call} {js : List Sharer} {w : Running} (call : Call) → Ran calls js w → is_poll call ≡ true → Ran (calls ++ call ∷ []) js w
  passed_run call ran polls = (ran.0 ++ call ∷ [], spelled_poll call call [] ran.1 (as_it_is call), passed call ran.2 polls)

  reply_run : {calls : List Call} (now : ℕ) (p : Packet) (bytes plain heard : List ℕ) (w new : Resolving) (near far : List Call) → now ≤ last_moment → Ran calls (sharers w.kept) w.running
      → IsSpelledCall (polled me (Ok (Some p)) bytes) (polled me (Ok (Some p)) plain) → runs.IsHeardAs w.running.state p plain heard → HearsReply me now p heard w near far new
      → Ran (calls ++ polled me (Ok (Some p)) bytes ∷ near) (sharers new.kept) new.running
  reply_run now p bytes plain heard w new near far le ran spell hears_it h = (
    ran.0 ++ polled me (Ok (Some p)) plain ∷ near,
    spelled_poll (polled me (Ok (Some p)) bytes) (polled me (Ok (Some p)) plain) near ran.1 spell,
    rw h.calls_are
        (took now most_bytes p plain heard h.tries h.ended h.tells (sharers new.kept) new.running ran.2 le hears_it h.taken h.ends
        (tells_sharers me (Some p.from) h.ended w.kept h.tells far new.kept h.follows)),
  )

  spelled_run : {calls : List Call} (now : ℕ) (p : Packet) (bytes plain : List ℕ) (w new : Resolving) (near far : List Call) → now ≤ last_moment → Ran calls (sharers w.kept) w.running
      → p.port ≡ control_port → IsSpelledCall (polled me (Ok (Some p)) bytes) (polled me (Ok (Some p)) plain) → HearsSpelled me now p plain w near far new
      → Ran (calls ++ polled me (Ok (Some p)) bytes ∷ near) (sharers new.kept) new.running
  spelled_run now p bytes plain w new near far le ran port spell (rounds.lost wide is off stays) = rw (is, stays) (passed_run (polled me (Ok (Some p)) bytes) ran refl)
  spelled_run now p bytes plain w new near far le ran port spell (rounds.whole cuts h) =
      reply_run now p bytes plain plain w new near far le ran spell (runs.from_server None port cuts refl) h
  spelled_run now p bytes plain w new near far le ran port spell (rounds.cut heard cuts h) =
      reply_run now p bytes plain heard (record w { counts = _ }) new near far le ran spell (runs.from_server (Some heard) port cuts refl) h

  heard_run : {calls : List Call} (now : ℕ) (p : Packet) (bytes : List ℕ) (w new : Resolving) (near far : List Call) → now ≤ last_moment → Ran calls (sharers w.kept) w.running
      → IsHeard me now p bytes w near far new → Ran (calls ++ polled me (Ok (Some p)) bytes ∷ near) (sharers new.kept) new.running
  heard_run now p bytes w new near far le ran (rounds.other_port port is off stays) = rw (is, stays) (passed_run (polled me (Ok (Some p)) bytes) ran refl)
  heard_run now p bytes w new near far le ran (rounds.lost_whole t l port its gives is off stays) = rw (is, stays) (passed_run (polled me (Ok (Some p)) bytes) ran refl)
  heard_run now p bytes w new near far le ran (rounds.spelled plain port spell h) =
      spelled_run now p bytes (runs.heard_of bytes plain) w new near far le ran port (heard_call me p bytes w.running.state plain spell) h

  -- a request that is asked for, or whose answer is remembered, is asked for in the one spelling
  asked_run : {calls : List Call} (settings : Settings) (now : ℕ) (p : Packet) (bytes : List ℕ) (near : List Call) (q : ItrRequest) (w : Resolving) (v new : Running) (ran : Ran calls (sharers w.kept) w.running)
      → HasRun may_begin me start ran.0 (sharers w.kept) v → now ≤ last_moment → IsAdmitted settings w.kept (at_moment now w.running) p.from bytes q → AsksForItr me now q v near new
      → Ran (calls ++ polled me (Ok (Some p)) bytes ∷ near) (sharers w.kept) new
  asked_run settings now p bytes near q w v new ran before le admitted act =
      let plain = admitted.may.spelled.0 in
      let sort = request_is_encapsulated plain admitted.may.spelled.1.message admitted.may.spelled.1.spells in (
        ran.0 ++ polled me (Ok (Some p)) plain ∷ near,
        spelled_poll (polled me (Ok (Some p)) bytes) (polled me (Ok (Some p)) plain) near ran.1
            (request me most_bytes p bytes plain q (settings.listen, admitted.may.asks) admitted.may.spelled.1),
        rw append-nil at (took now most_bytes p plain plain near None [] (sharers w.kept) new before le
            (as_it_came v.state p plain sort) (asks sort q admitted.may.spelled.1 act) tt wait_on),
      )

  handled_run : {calls : List Call} (settings : Settings) (now : ℕ) (p : Packet) (bytes : List ℕ) (near far : List Call) (w new : Resolving) → Ran calls (sharers w.kept) w.running
      → now ≤ last_moment → IsHandled settings me now p bytes w near far new → Ran (calls ++ polled me (Ok (Some p)) bytes ∷ near) (sharers new.kept) new.running
  handled_run settings now p bytes near far w new ran le (rounds.dropped why v sort is passes is_none nothing stays) =
      rw (is_none, stays) (passed_run (polled me (Ok (Some p)) bytes) (ran.0, ran.1, waited_run now le passes ran.2) refl)
  handled_run settings now p bytes near far w new ran le (rounds.answered q o sort admitted its tells nothing stays) =
      rw stays (asked_run settings now p bytes near q w w.running (at_moment now w.running) ran ran.2 le admitted (asks_at_once me now q o w.running near admitted.may.identifier its tells))
  handled_run settings now p bytes near far w new ran le (rounds.shared q k recent sort admitted kept own fresh is_none nothing stays) =
      rw (is_none, stays, sharers_push w.kept k None kept.begins) (
        ran.0 ++ polled me (Ok (Some p)) admitted.may.spelled.0 ∷ [],
        spelled_poll (polled me (Ok (Some p)) bytes) (polled me (Ok (Some p)) admitted.may.spelled.0) [] ran.1
            (request me most_bytes p bytes admitted.may.spelled.0 q (settings.listen, admitted.may.asks) admitted.may.spelled.1),
        shared most_bytes p admitted.may.spelled.0 (record { ticket = k.ticket; request = k.request }) (waited now ran.2 le)
            (rw kept.request admitted.may.spelled.1) (rw kept.request own.1),
      )
  handled_run settings now p bytes near far w new ran le (rounds.asked q servers recent sort admitted placed fresh act nothing keeps) =
      rw (same_sharers servers p.from bytes q (resolving (at_moment now w.running) w.kept w.counts recent) new keeps)
      (asked_run settings now p bytes near q w (at_moment now w.running) new.running ran (waited now ran.2 le) le admitted act)
  handled_run settings now p bytes near far w new ran le (rounds.heard sort is) = heard_run now p bytes w new near far le ran is

  round_run : {calls : List Call} (settings : Settings) (now : ℕ) (near far : List Call) (w new : Resolving) → Ran calls (sharers w.kept) w.running → now ≤ last_moment
      → IsRound settings me now w near far new → Ran (calls ++ near) (sharers new.kept) new.running
  round_run settings now near far w new ran le (no_packet is nothing stays) = rw (is, stays) (passed_run (polled me (Ok None) []) ran refl)
  round_run settings now near far w new ran le (failed fault is nothing stays) = rw (is, stays) (passed_run (polled me (Err fault) []) ran refl)
  round_run settings now near far w new ran le (came p bytes tries is handled) = rw is (handled_run settings now p bytes tries far w new ran le handled)

  resent_run : {calls : List Call} {js : List Sharer} {w : Running} (nonce : ℕ) (near : List Call) → Ran calls js w → Resends me nonce w.state near
      → Ran (calls ++ near) js w
  resent_run nonce near ran (unknown nobody is) = rw (is, append-nil) ran
  resent_run nonce near ran (none is) = rw (is, append-nil) ran
  resent_run nonce near ran (again t l answer here its is) =
      rw is (ran.0 ++ request_tried me l answer ∷ [], spelled_append ran.1 (spelled_same (request_tried me l answer ∷ [])), resent t l answer ran.2 here)

  -- calls that are no polls are spelled as they are
  tries_run : {calls : List Call} {js : List Sharer} {w : Running} (near : List Call) (ran : Ran calls js w) {left : List Sharer} {new : Running}
      → HasRun may_begin me start (ran.0 ++ near) left new → Ran (calls ++ near) left new
  tries_run near ran run = (ran.0 ++ near, spelled_append ran.1 (spelled_same near), run)

runs_on : (may_begin : State → Type 0) (me : Locator) (start : Resolving) (calls onward : List Call) (w : Resolving) → start.kept ≡ [] → HasServed may_begin me start calls onward w
    → Ran may_begin me start.running calls (sharers w.kept) w.running
runs_on may_begin me start calls onward w fresh begins = ([], spelled_none, rw (ap sharers fresh) run_begins)
runs_on may_begin me start calls onward w fresh (round {calls = before} {onward = far_before} {w = v} settings now near far new so_far le is) =
    round_run may_begin me start.running settings now near far v w (runs_on may_begin me start before far_before v fresh so_far) le is
runs_on may_begin me start calls onward w fresh (tick {calls = before} {onward = far_before} {w = v} now near far new so_far le is) =
    let ran = runs_on may_begin me start before far_before v fresh so_far in
    tries_run may_begin me start.running near ran
    (rw is.calls_are
    (ticked now is.tries is.ended is.tells (sharers new.kept) new.running ran.2 le is.resolves is.ends
    (tells_sharers me None is.ended v.kept is.tells far new.kept is.follows)))
runs_on may_begin me start calls onward w fresh (hastening {calls = before} {onward = far_before} {w = v} now nonce near far new so_far le is) =
    let ran = runs_on may_begin me start before far_before v fresh so_far in
    tries_run may_begin me start.running near ran
    (rw is.calls_are
    (hastened now nonce is.tries is.ended is.tells (sharers new.kept) new.running ran.2 le is.hastens is.ends
    (tells_sharers me None is.ended v.kept is.tells far new.kept is.follows)))
runs_on may_begin me start calls onward w fresh (resending {calls = before} {w = v} nonce near so_far is) =
    resent_run may_begin me start.running nonce near (runs_on may_begin me start before onward v fresh so_far) is
runs_on may_begin me start calls onward w fresh (forgetting {w = v} p so_far) =
    let ran = runs_on may_begin me start calls onward v fresh so_far in
    (ran.0, ran.1, forgot p ran.2)
runs_on may_begin me start calls onward w fresh (waiting {w = v} now so_far le) =
    let ran = runs_on may_begin me start calls onward v fresh so_far in
    (ran.0, ran.1, waited now ran.2 le)
runs_on may_begin me start calls onward w fresh (renewal {w = v} new so_far may later) =
    let ran = runs_on may_begin me start calls onward v fresh so_far in
    (ran.0, ran.1, renewed new ran.2 may later)

pub runs_as : RunsAsAResolver
runs_as r me start calls onward w fresh served = runs_on (BeginsSound r me) me start calls onward w fresh served

-- ---- the far wires

abbrev IsKeptRequest : WaitingRequest → Type 0
IsKeptRequest k = AsksFor k.bytes k.request

take_out : (P : WaitingRequest → Type 0) (before after : List WaitingRequest) (k : WaitingRequest) → All P (before ++ k ∷ after) → P k × All P (before ++ after)
take_out P [] after k all = (All-head P k after all, All-tail P k after all)
take_out P (b ∷ before) after k all =
    let rest = take_out P before after k (All-tail P b (before ++ k ∷ after) all) in
    (rest.0, All-cons P b (before ++ after) (All-head P b (before ++ k ∷ after) all) rest.1)

none_onward : (me : Locator) (far : List Call) → AreTried me [] far → All (IsOnward me) far
none_onward me [] tried = All-nil (IsOnward me)
none_onward me (call ∷ far) tried = absurd tried

one_onward : (me by_ : Locator) (bytes : List ℕ) (q : ItrRequest) (far : List Call) → AsksFor bytes q → AreTried me (to_server by_ bytes ∷ []) far → All (IsOnward me) far
one_onward me by_ bytes q [] asks_it tried = absurd tried
one_onward me by_ bytes q (Received at room answer b ∷ far) asks_it tried = absurd tried.0
one_onward me by_ bytes q (Tried from to port b answer ∷ (c ∷ far)) asks_it tried = absurd tried.1
one_onward me by_ bytes q (Tried from to port b answer ∷ []) asks_it tried =
    let it : IsOnward me (Tried from to port b answer) = record {
      to = to;
      request = q;
      bytes = bytes;
      answer = answer;
      asks = asks_it;
      is = rw (tried.0.0, tried.0.2, tried.0.3) refl;
    } in
    All-cons (IsOnward me) (Tried from to port b answer) [] it (All-nil (IsOnward me))

went_on : (me : Locator) (by : Option Locator) (end : Result Outcome Why) (bytes : List ℕ) (q : ItrRequest) (far : List Call) → AsksFor bytes q
    → AreTried me (goes_on by end bytes) far → All (IsOnward me) far
went_on me None end bytes q far asks_it tried = none_onward me far tried
went_on me (Some b) (Ok (Registered p servers)) bytes q far asks_it tried = one_onward me b bytes q far asks_it tried
went_on me (Some b) (Ok (NotRegistered p servers)) bytes q far asks_it tried = none_onward me far tried
went_on me (Some b) (Ok (Hole p)) bytes q far asks_it tried = none_onward me far tried
went_on me (Some b) (Err why) bytes q far asks_it tried = none_onward me far tried

closed_onward : (me : Locator) (by : Option Locator) (e : End) (old : List WaitingRequest) (near far : List Call) (left : List WaitingRequest) → Closes me by e old near far left → AreRequests old
    → AreRequests left × All (IsOnward me) far
closed_onward me by e old near far left starts all = (all, All-nil (IsOnward me))
closed_onward me by e old near far left (one {near = n} {far = f} {left = l} before after k told on so_far was apart its t o) all =
    let first = closed_onward me by e old n f l so_far all in
    let split = take_out IsKeptRequest before after k (subst (λ (kept : List WaitingRequest). All IsKeptRequest kept) was first.0) in
    (split.1, All-append (IsOnward me) f on first.1 (went_on me by e.end k.bytes k.request on split.0 o))

followed : (me : Locator) (by : Option Locator) (ended : Option End) (old : List WaitingRequest) (near far : List Call) (new : List WaitingRequest) → Follows me by ended old near far new → AreRequests old
    → AreRequests new × All (IsOnward me) far
followed me by None old near far new is all = rw (is.2, is.1) (all, All-nil (IsOnward me))
followed me by (Some e) old near far new is all = closed_onward me by e old near far new is.closes all

kept_more : (bytes : List ℕ) (q : ItrRequest) (from : Locator) (servers : Option (List Locator)) (kept : List WaitingRequest) (k : WaitingRequest) → AsksFor bytes q → WaitsAs servers from bytes q k → AreRequests kept → AreRequests (kept ++ k ∷ [])
kept_more bytes q from servers kept k asks_it w all = All-push IsKeptRequest kept k all (rw (w.bytes_are, w.request) asks_it)

kept_asked : (servers : List Locator) (from : Locator) (bytes : List ℕ) (q : ItrRequest) (w new : Resolving) → AsksFor bytes q → KeepsAsked servers from bytes q w new → AreRequests w.kept → AreRequests new.kept
kept_asked servers from bytes q w new asks_it (at_once desk kept counts recent) all = rw kept all
kept_asked servers from bytes q w new asks_it (waits k s desk kept counts recent) all = rw kept (kept_more bytes q from (Some servers) w.kept k asks_it s all)

heard_onward : (me : Locator) (now : ℕ) (p : Packet) (bytes : List ℕ) (w new : Resolving) (near far : List Call) → IsHeard me now p bytes w near far new → AreRequests w.kept
    → AreRequests new.kept × All (IsOnward me) far
heard_onward me now p bytes w new near far (rounds.other_port port is off same) all = rw (same, off) (all, All-nil (IsOnward me))
heard_onward me now p bytes w new near far (rounds.lost_whole t l port its gives is off same) all = rw (same, off) (all, All-nil (IsOnward me))
heard_onward me now p bytes w new near far (rounds.spelled plain port spell (rounds.lost wide is off same)) all = rw (same, off) (all, All-nil (IsOnward me))
heard_onward me now p bytes w new near far (rounds.spelled plain port spell (rounds.whole cuts h)) all = followed me (Some p.from) h.ended w.kept h.tells far new.kept h.follows all
heard_onward me now p bytes w new near far (rounds.spelled plain port spell (rounds.cut heard cuts h)) all = followed me (Some p.from) h.ended w.kept h.tells far new.kept h.follows all

handled_onward : (me : Locator) (settings : Settings) (now : ℕ) (p : Packet) (bytes : List ℕ) (w new : Resolving) (near far : List Call) → IsHandled settings me now p bytes w near far new
    → AreRequests w.kept → AreRequests new.kept × All (IsOnward me) far
handled_onward me settings now p bytes w new near far (rounds.dropped why v sort is passes is_none off stays) all = rw (off, stays) (all, All-nil (IsOnward me))
handled_onward me settings now p bytes w new near far (rounds.shared q k recent sort admitted kept own fresh is_none off stays) all =
    rw (off, stays) (kept_more bytes q p.from None w.kept k (settings.listen, admitted.may.asks) kept all, All-nil (IsOnward me))
handled_onward me settings now p bytes w new near far (rounds.answered q o sort admitted its tells off stays) all = rw (off, stays) (all, All-nil (IsOnward me))
handled_onward me settings now p bytes w new near far (rounds.asked q servers recent sort admitted placed fresh act off keeps) all =
    rw off (kept_asked servers p.from bytes q (resolving (at_moment now w.running) w.kept w.counts recent) new (settings.listen, admitted.may.asks) keeps all, All-nil (IsOnward me))
handled_onward me settings now p bytes w new near far (rounds.heard sort is) all = heard_onward me now p bytes w new near far is all

round_onward : (me : Locator) (settings : Settings) (now : ℕ) (w new : Resolving) (near far : List Call) → IsRound settings me now w near far new → AreRequests w.kept
    → AreRequests new.kept × All (IsOnward me) far
round_onward me settings now w new near far (no_packet is off stays) all = rw (off, stays) (all, All-nil (IsOnward me))
round_onward me settings now w new near far (failed fault is off stays) all = rw (off, stays) (all, All-nil (IsOnward me))
round_onward me settings now w new near far (came p bytes tries is handled) all = handled_onward me settings now p bytes w new tries far handled all

both : (may_begin : State → Type 0) (me : Locator) (start : Resolving) (calls onward : List Call) (w : Resolving) → AreRequests start.kept
    → HasServed may_begin me start calls onward w
    → AreRequests w.kept × All (IsOnward me) onward
both may_begin me start calls onward w all begins = (all, All-nil (IsOnward me))
both may_begin me start calls onward w all (round {calls = before} {onward = far_before} {w = v} settings now near far new so_far le is) =
    let first = both may_begin me start before far_before v all so_far in
    let more = round_onward me settings now v new near far is first.0 in
    (more.0, All-append (IsOnward me) far_before far first.1 more.1)
both may_begin me start calls onward w all (tick {calls = before} {onward = far_before} {w = v} now near far new so_far le is) =
    let first = both may_begin me start before far_before v all so_far in
    let more = followed me None is.ended v.kept is.tells far new.kept is.follows first.0 in
    (more.0, All-append (IsOnward me) far_before far first.1 more.1)
both may_begin me start calls onward w all (hastening {calls = before} {onward = far_before} {w = v} now nonce near far new so_far le is) =
    let first = both may_begin me start before far_before v all so_far in
    let more = followed me None is.ended v.kept is.tells far new.kept is.follows first.0 in
    (more.0, All-append (IsOnward me) far_before far first.1 more.1)
both may_begin me start calls onward w all (resending {calls = before} {w = v} nonce near so_far is) = both may_begin me start before onward v all so_far
both may_begin me start calls onward w all (forgetting {w = v} p so_far) = both may_begin me start calls onward v all so_far
both may_begin me start calls onward w all (waiting {w = v} now so_far le) = both may_begin me start calls onward v all so_far
both may_begin me start calls onward w all (renewal {w = v} new so_far may later) =
    (All-nil IsKeptRequest, (both may_begin me start calls onward v all so_far).1)

pub only_requests : OnlyRequestsGoOn
only_requests me start calls onward w all served = (both IsAny me start calls onward w all served).1
