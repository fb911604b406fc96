-- A resolver that runs asks for one identifier under each nonce.
use Rattle.std.proofs.Common.{◌≡◌, ℕ, ◌+◌, ◌/◌, ◌%◌, ◌^◌, ◌<◌, ◌≤◌, true, List, [], ◌∷◌, ◌++◌, append_assoc, append-nil, Option, Some, None, Result, Ok, Err, refl, sym, ap, subst, ◌∙◌, arith, inl, inr, ◌⊎◌, Contains}
use Rattle.std.specs.Prelude.{slice_index}
use Rattle.std.specs.FinMap.{get, insert}
use Rattle.std.proofs.lemmas.List.Elements.{Contains-append_left, Contains-append_right, Contains-append_cases, Contains-push, Contains-push_cases}
use Rattle.ddt_path.specs.declared.locator.Locator.{Locator}
use Rattle.ddt_path.specs.declared.record.Outcome.{Outcome}
use Rattle.ddt_path.specs.declared.record.Outcome.TheVariants.{Registered, NotRegistered, Hole}
use Rattle.ddt_path.specs.declared.xeid.Xeid.{Xeid}
use Rattle.ddt_path.specs.Path.{xeid_path}
use Rattle.ddt_register.specs.declared.register.Register.{Register}
use Rattle.ddt_cache.specs.Moment.{last_moment}
use Rattle.ddt_ecm.specs.Request as request_spec
use Rattle.ddt_ecm.specs.UdpHeader.{control_port}
use Rattle.ddt_sockets.specs.declared.wire_calls.Call.{Call}
use Rattle.ddt_sockets.specs.declared.wire_calls.Call.TheVariants.{Received, Tried}
use Rattle.ddt_sockets.specs.declared.wire_calls.NetFault.{NetFault}
use Rattle.ddt_sockets.specs.Turns.{AreTried, Outgoing}
use Rattle.ddt_sockets.specs.Nonces.Translation.{IsAsked}
use Rattle.ddt_resolver.specs.declared.itr_messages.ItrRequest.{ItrRequest}
use Rattle.ddt_resolver.specs.declared.pending.Pending.{Pending}
use Rattle.ddt_resolver.specs.declared.results.Asked.TheVariants as asked_as
use Rattle.ddt_resolver.specs.declared.results.AskError.{AskError}
use Rattle.ddt_resolver.specs.declared.results.Why.{Why}
use Rattle.ddt_resolver.specs.declared.step.Reply.{Reply}
use Rattle.ddt_resolver.specs.Order.{IsStateInOrder}
use Rattle.ddt_resolver.specs.State.{State, moved, forgotten, numbered, request, request_bytes}
use Rattle.ddt_resolver.specs.Step.{progress_of}
use Rattle.ddt_resolver.specs.laws.NumberMap.{found_insert, found_remove}
use Rattle.ddt_resolver.specs.laws.Order.{order_moved, order_forgotten}
use Rattle.ddt_loop.specs.declared.packet_outcome.Ended.{Ended}
use Rattle.ddt_loop.specs.declared.requester.Requester.{Requester}
use Rattle.ddt_loop.specs.declared.requester.Requester.TheVariants.{Identifier, Itr}
use Rattle.ddt_loop.specs.Requesters.{Desk}
use Rattle.ddt_loop.specs.Acts.{Running, running, sent, IsSent, IsToldItr, IsToldAtOnce, Asks, answered, refused, lacks_memory, AsksForItr, IsRequesterTold, Proceeds, HearsOrTicks, Hastens, request_tried}
use Rattle.ddt_loop.specs.Acts as acts
use Rattle.ddt_loop.specs.Ends.{IsToldEnd}
use Rattle.ddt_loop.specs.Sharing.{AreToldEnd, nobody, one, Sharer, TellsSharers, wait_on, told}
use Rattle.ddt_loop.specs.Polls.{IsPacketTaken, asks, no_request, hears, other_port}
use Rattle.ddt_loop.specs.Right.{is_poll}
use Rattle.ddt_loop.specs.Runs.{HasRun, begins, took, ticked, hastened, shared, waited, forgot, resent, passed, renewed, BeginsSound}
use Rattle.ddt_laws.specs.Nonces.Runs.{IsAskedOnce, RunsAskOnce}
use Rattle.ddt_laws.proofs.NoncesLemmas.RequestLemmas.{first_of_request, request_spells, one_request, asked_in}
use Rattle.ddt_laws.proofs.ShapeLemmas.{Shape, stays, sends, drops, IsAct, of_step, of_haste}

-- ---- what tries no request

-- these bytes spell no request
abbrev NotRequest : List ℕ → Type 0
NotRequest bytes = (m : request_spec.Message) → request_spec.Spells bytes m → ⊥

-- of these calls each try from a socket to the control port is of such bytes
abbrev AreQuiet : Locator → List Call → Type 0
AreQuiet me calls = (to : Locator) (bytes : List ℕ) (answer : Result (Unit {0}) NetFault) → Contains calls (Tried me to control_port bytes answer) → NotRequest bytes

none_there : {c : Call} → Contains [] c → ⊥
none_there k = let some = k.1 in omega (arith, some)

quiet_none : (me : Locator) → AreQuiet me []
quiet_none me to bytes answer k = absurd (none_there k)

quiet_append : (me : Locator) (xs ys : List Call) → AreQuiet me xs → AreQuiet me ys → AreQuiet me (xs ++ ys)
quiet_append me xs ys p q to bytes answer k = elim (Contains-append_cases xs ys (Tried me to control_port bytes answer) k) [
  | inl early ↦ p to bytes answer early
  | inr late ↦ q to bytes answer late
]

quiet_one : (me : Locator) (call : Call) → ((to : Locator) (bytes : List ℕ) (answer : Result (Unit {0}) NetFault) → call ≡ Tried me to control_port bytes answer → NotRequest bytes) → AreQuiet me (call ∷ [])
quiet_one me call not to bytes answer k = elim (Contains-push_cases [] call (Tried me to control_port bytes answer) k) [
  | inl early ↦ quiet_none me to bytes answer early
  | inr same ↦ not to bytes answer same
]

quiet_polled : (me : Locator) (call : Call) → is_poll call ≡ true → AreQuiet me (call ∷ [])
quiet_polled me (Received at room answer bytes) polls = quiet_one me (Received at room answer bytes) (λ to bs a e. absurd (cc e))
quiet_polled me (Tried at to port bytes answer) polls = absurd (cc polls)

-- one datagram is tried, of these bytes
tried_bytes : (me : Locator) (d : Outgoing) (calls : List Call) → AreTried me (d ∷ []) calls
    → (to : Locator) (bytes : List ℕ) (answer : Result (Unit {0}) NetFault) → Contains calls (Tried me to control_port bytes answer) → bytes ≡ d.bytes
tried_bytes me d [] tried to bytes answer k = absurd tried
tried_bytes me d (Received at room got bs ∷ rest) tried to bytes answer k = absurd tried.0
tried_bytes me d (Tried at for port bs got ∷ []) tried to bytes answer k =
    elim (Contains-push_cases [] (Tried at for port bs got) (Tried me to control_port bytes answer) k) [
      | inl early ↦ absurd (none_there early)
      | inr same ↦ cc (same, tried.0.3)
    ]
tried_bytes me d (Tried at for port bs got ∷ call ∷ rest) tried to bytes answer k = absurd tried.1

-- ---- what ITRs are told

quiet_reply : (me : Locator) (d : Outgoing) (calls : List Call) → slice_index d.bytes 0 / 16 ≡ 2 → AreTried me (d ∷ []) calls → AreQuiet me calls
quiet_reply me d calls two tried to bytes answer k m spells =
    let same : bytes ≡ d.bytes = tried_bytes me d calls tried to bytes answer k in
    let eight : slice_index bytes 0 / 16 ≡ 8 = first_of_request bytes m spells in
    let first : slice_index bytes 0 / 16 ≡ slice_index d.bytes 0 / 16 = ap (λ (bs : List ℕ). slice_index bs 0 / 16) same in
    omega (arith, two, eight, first)

quiet_told : (me : Locator) (o : Outcome) (q : ItrRequest) (calls : List Call) → IsToldItr me o q calls → AreQuiet me calls
quiet_told me (Registered p servers) q [] tried = quiet_none me
quiet_told me (Registered p servers) q (call ∷ calls) tried = absurd tried
quiet_told me (NotRegistered p servers) q calls tried = quiet_reply me _ calls refl tried
quiet_told me (Hole p) q calls tried = quiet_reply me _ calls refl tried

quiet_at_once : (me : Locator) (answer : Result (Option Outcome) AskError) (q : ItrRequest) (calls : List Call) → IsToldAtOnce me answer q calls → AreQuiet me calls
quiet_at_once me (Ok (Some o)) q calls tells = quiet_told me o q calls tells
quiet_at_once me (Ok None) q calls tells = rw tells (quiet_none me)
quiet_at_once me (Err why) q calls tells = rw tells (quiet_none me)

quiet_asker : (me : Locator) (end : Result Outcome Why) (who : Option Requester) (d : Desk) (calls : List Call) (new : Desk) → IsRequesterTold me end who d calls new → AreQuiet me calls
quiet_asker me end None d calls new tells = rw tells.0 (quiet_none me)
quiet_asker me end (Some (Identifier place)) d calls new tells = rw tells.0 (quiet_none me)
quiet_asker me (Ok o) (Some (Itr q)) d calls new tells = quiet_told me o q calls tells.0
quiet_asker me (Err why) (Some (Itr q)) d calls new tells = rw tells.0 (quiet_none me)

quiet_end : (me : Locator) (end : Result Outcome Why) (q : ItrRequest) (calls : List Call) → IsToldEnd me end q calls → AreQuiet me calls
quiet_end me (Ok o) q calls tells = quiet_told me o q calls tells
quiet_end me (Err why) q calls tells = rw tells (quiet_none me)

quiet_ends : {me : Locator} {end : Result Outcome Why} {qs : List ItrRequest} {calls : List Call} → AreToldEnd me end qs calls → AreQuiet me calls
quiet_ends {me} nobody = quiet_none me
quiet_ends {me} {end} (one q others calls more tells rest) = quiet_append me calls more (quiet_end me end q calls tells) (quiet_ends rest)

quiet_sharers : {me : Locator} {old : List Sharer} {ended : Option Ended} {calls : List Call} {left : List Sharer} → TellsSharers me old ended calls left → AreQuiet me calls
quiet_sharers {me} wait_on = quiet_none me
quiet_sharers (told e calls are) = quiet_ends are

-- ---- what is kept

-- bytes were tried from the socket to some server
abbrev WasTried : Locator → List Call → List ℕ → Type 0
WasTried me calls bytes = (to : Locator) × (answer : Result (Unit {0}) NetFault) × Contains calls (Tried me to control_port bytes answer)

-- bytes are a request with a nonce that was given out
abbrev IsGiven : Locator → ℕ → List ℕ → Type 0
IsGiven me next bytes = (n : ℕ) × (x : Xeid) × (n < next) × (bytes ≡ request_bytes n x me)

pub record HasAsked (me : Locator) (calls : List Call) (s : State) : Type 0 where
  pub order : IsStateInOrder s
  pub own : s.me ≡ me
  pub given : (bytes : List ℕ) → WasTried me calls bytes → NotRequest bytes ⊎ IsGiven me s.next bytes
  pub once : (n : ℕ) (x y : Xeid) → WasTried me calls (request_bytes n x me) → WasTried me calls (request_bytes n y me) → xeid_path x ≡ xeid_path y
  pub tried : (t : ℕ) (l : Pending) → get s.pending t ≡ Some l → WasTried me calls (request_bytes l.nonce l.x me)

tried_more : (me : Locator) (calls more : List Call) (bytes : List ℕ) → WasTried me calls bytes → WasTried me (calls ++ more) bytes
tried_more me calls more bytes w = (w.0, w.1, Contains-append_left calls more _ w.2)

tried_cases : (me : Locator) (calls more : List Call) (bytes : List ℕ) → WasTried me (calls ++ more) bytes → WasTried me calls bytes ⊎ WasTried me more bytes
tried_cases me calls more bytes w = elim (Contains-append_cases calls more (Tried me w.0 control_port bytes w.1) w.2) [
  | inl early ↦ inl (w.0, w.1, early)
  | inr late ↦ inr (w.0, w.1, late)
]

-- calls that try no request, or one that was tried before
asked_more : (me : Locator) (calls more : List Call) (s : State) → HasAsked me calls s → ((bytes : List ℕ) → WasTried me more bytes → NotRequest bytes ⊎ WasTried me calls bytes)
    → HasAsked me (calls ++ more) s
asked_more me calls more s h quiet = record {
  order = h.order;
  own = h.own;
  given = λ bytes w. elim (tried_cases me calls more bytes w) [
    | inl early ↦ h.given bytes early
    | inr late ↦ elim (quiet bytes late) [
      | inl not ↦ inl not
      | inr before ↦ h.given bytes before
    ]
  ];
  once = λ n x y v w. h.once n x y (earlier n x v) (earlier n y w);
  tried = λ t l here. tried_more me calls more _ (h.tried t l here);
}
  where
    earlier : (n : ℕ) (x : Xeid) → WasTried me (calls ++ more) (request_bytes n x me) → WasTried me calls (request_bytes n x me)
    earlier n x w = elim (tried_cases me calls more (request_bytes n x me) w) [
      | inl early ↦ early
      | inr late ↦ elim (quiet (request_bytes n x me) late) [
        | inl not ↦ absurd (not _ (request_spells n x me))
        | inr before ↦ before
      ]
    ]

asked_quiet : (me : Locator) (calls more : List Call) (s : State) → HasAsked me calls s → AreQuiet me more → HasAsked me (calls ++ more) s
asked_quiet me calls more s h quiet = asked_more me calls more s h (λ bytes w. inl (quiet w.0 bytes w.1 w.2))

-- no lookup is added
asked_fewer : (me : Locator) (calls : List Call) (s new : State) → HasAsked me calls s → IsStateInOrder new → new.me ≡ me → s.next ≤ new.next
    → ((t : ℕ) (l : Pending) → get new.pending t ≡ Some l → get s.pending t ≡ Some l) → HasAsked me calls new
asked_fewer me calls s new h order own grows was = record {
  order = order;
  own = own;
  given = λ bytes w. elim (h.given bytes w) [
    | inl not ↦ inl not
    | inr g ↦ inr (g.0, g.1, omega (arith, g.2, grows), g.3)
  ];
  once = h.once;
  tried = λ t l here. h.tried t l (was t l here);
}

-- a lookup sends its request, with the next nonce
module _ (me : Locator) (calls tries : List Call) (s new : State) (h : HasAsked me calls s) (order : IsStateInOrder new) (own : new.me ≡ me) (t : ℕ) (l : Pending)
    (put : new.pending ≡ insert s.pending t (numbered s l)) (grows : new.next ≡ s.next + 1) (sends_it : IsSent me (request s l) tries) where
  abbrev now_asked : List ℕ
  now_asked = request_bytes s.next l.x me

  is_now : (bytes : List ℕ) → WasTried me tries bytes → bytes ≡ now_asked
  is_now bytes w = tried_bytes me (sent (request s l)) tries sends_it w.0 bytes w.1 w.2 ∙ ap (request_bytes s.next l.x) h.own

  -- none was sent before with this nonce
  apart : (n : ℕ) (x : Xeid) → WasTried me calls (request_bytes n x me) → n % 2 ^ 64 ≡ s.next % 2 ^ 64 → ⊥
  apart n x w same = elim (h.given (request_bytes n x me) w) [
    | inl not ↦ not _ (request_spells n x me)
    | inr g ↦
        let other : n % 2 ^ 64 ≡ g.0 % 2 ^ 64 = (one_request n g.0 x g.1 me g.3).0 in
        omega (arith, same, other, g.2, h.order.next)
  ]

  once_more : (n : ℕ) (x y : Xeid) → WasTried me (calls ++ tries) (request_bytes n x me) → WasTried me (calls ++ tries) (request_bytes n y me) → xeid_path x ≡ xeid_path y
  once_more n x y v w = elim (tried_cases me calls tries (request_bytes n x me) v) [
    | inl a ↦ elim (tried_cases me calls tries (request_bytes n y me) w) [
      | inl b ↦ h.once n x y a b
      | inr b ↦ absurd (apart n x a (one_request n s.next y l.x me (is_now _ b)).0)
    ]
    | inr a ↦ elim (tried_cases me calls tries (request_bytes n y me) w) [
      | inl b ↦ absurd (apart n y b (one_request n s.next x l.x me (is_now _ a)).0)
      | inr b ↦ (one_request n s.next x l.x me (is_now _ a)).1 ∙ sym (one_request n s.next y l.x me (is_now _ b)).1
    ]
  ]

  is_there : (d : Outgoing) (xs : List Call) → AreTried me (d ∷ []) xs → d.port ≡ control_port → WasTried me xs d.bytes
  is_there d [] tried port = absurd tried
  is_there d (Received at room got bs ∷ rest) tried port = absurd tried.0
  is_there d (Tried at to p bs got ∷ []) tried port =
      let same : Tried at to p bs got ≡ Tried me d.to control_port d.bytes got = cc (tried.0.0, tried.0.1, tried.0.2, tried.0.3, port) in
      (d.to, got, subst (λ (c : Call). Contains (c ∷ []) (Tried me d.to control_port d.bytes got)) (sym same) (Contains-push [] _))
  is_there d (Tried at to p bs got ∷ call ∷ rest) tried port = absurd tried.1

  now_tried : WasTried me (calls ++ tries) now_asked
  now_tried =
      let w = is_there (sent (request s l)) tries sends_it refl in
      let there : WasTried me (calls ++ tries) (request_bytes s.next l.x s.me) = (w.0, w.1, Contains-append_right calls tries _ w.2) in
      subst (λ (i : Locator). WasTried me (calls ++ tries) (request_bytes s.next l.x i)) h.own there

  asked_sent : HasAsked me (calls ++ tries) new
  asked_sent = record {
    order = order;
    own = own;
    given = λ bytes w. elim (tried_cases me calls tries bytes w) [
      | inl early ↦ elim (h.given bytes early) [
        | inl not ↦ inl not
        | inr g ↦ inr (g.0, g.1, omega (arith, g.2, grows), g.3)
      ]
      | inr late ↦ inr (s.next, l.x, omega (arith, grows), is_now bytes late)
    ];
    once = once_more;
    tried = λ u m here. elim (found_insert s.pending t (numbered s l) u m (rw put at here)) [
      | inl e ↦ subst (λ (k : Pending). WasTried me (calls ++ tries) (request_bytes k.nonce k.x me)) e.1 now_tried
      | inr e ↦ tried_more me calls tries _ (h.tried u m e.1)
    ];
  }

-- ---- an act

asked_act : {me : Locator} {calls : List Call} {s new : State} {a : Reply} (d after : Desk) (tries : List Call) → HasAsked me calls s → IsAct s new a
    → Proceeds me d (progress_of a) tries after → HasAsked me (calls ++ tries) new
asked_act {me} {calls} {s} {new} {a} d after tries h act goes = by act.shape
  where
    own : new.me ≡ me
    own = act.own ∙ h.own

    by : Shape s new a → HasAsked me (calls ++ tries) new
    by (stays p n q) =
        let g = rw q at goes in
        rw (g.0, append-nil) (asked_fewer me calls s new h act.order own (omega (arith, n)) (λ t l here. rw p at here))
    by (sends t l from p n f) = let g = rw f at goes in asked_sent me calls tries s new h act.order own t l p n g.0
    by (drops t l end here p n f) =
        let g = rw f at goes in
        let left = asked_fewer me calls s new h act.order own (omega (arith, n)) (λ u k here. (found_remove s.pending t u k (rw p at here)).1) in
        asked_quiet me calls tries new left (quiet_asker me end g.taken (record d { waiting = g.rest }) tries after g.told)

module _ (me : Locator) (calls : List Call) (w : Running) (h : HasAsked me calls w.state) (now : ℕ) (le : now ≤ last_moment) where
  abbrev s : State
  s = moved now w.state

  asked_moved : HasAsked me calls s
  asked_moved = asked_fewer me calls w.state s h (order_moved w.state now le h.order) h.own (omega arith) (λ t l here. here)

  -- nothing changes but the time
  asked_still : (tries : List Call) (new : State) → new ≡ s → tries ≡ [] → HasAsked me (calls ++ tries) new
  asked_still tries new same none = rw (none, append-nil, same) asked_moved

  asked_asks : {x : Xeid} {who : Requester} {answer : Result (Option Outcome) AskError} {tries : List Call} {new : Running} → Asks me now x who w answer tries new → HasAsked me (calls ++ tries) new.state
  asked_asks {tries = tries} {new = new} (answered (asked_as.Answer o) step starting is) = asked_act w.desk new.desk tries asked_moved (of_step asked_moved.order step) starting
  asked_asks {tries = tries} {new = new} (answered (asked_as.Sent t d) step starting is) = asked_act w.desk w.desk tries asked_moved (of_step asked_moved.order step) (starting.0, refl)
  asked_asks {tries = tries} {new = new} (refused why step desk none is) = asked_act w.desk new.desk tries asked_moved (of_step asked_moved.order step) (none, desk)
  asked_asks {tries = tries} {new = new} (lacks_memory wants state desk none is) = asked_still tries new.state state none

  asked_hears : {call tries new : _} → HearsOrTicks me now call w tries new → HasAsked me (calls ++ tries) new.state
  asked_hears {tries = tries} {new = new} (acts.does reply step goes) = asked_act w.desk new.desk tries asked_moved (of_step asked_moved.order step) goes
  asked_hears {tries = tries} {new = new} (acts.fails wants state desk none) = asked_still tries new.state state none

  asked_hastens : {nonce tries new : _} → Hastens me now nonce w tries new → HasAsked me (calls ++ tries) new.state
  asked_hastens {tries = tries} {new = new} (acts.does did step goes) = asked_act w.desk new.desk tries asked_moved (of_haste asked_moved.order step) goes
  asked_hastens {tries = tries} {new = new} (acts.fails wants state desk none) = asked_still tries new.state state none

  asked_for_itr : {q : ItrRequest} {tries : List Call} {new : Running} → AsksForItr me now q w tries new → HasAsked me (calls ++ tries) new.state
  asked_for_itr {q} {tries} {new} act =
      let asking = asked_asks act.asks in
      let telling = asked_quiet me (calls ++ act.asking) act.telling new.state asking (quiet_at_once me act.answer q act.telling act.tells) in
      rw (act.calls_are) (rw append_assoc at telling)

  asked_taken : {p heard tries new : _} → IsPacketTaken me now p heard w tries new → HasAsked me (calls ++ tries) new.state
  asked_taken (asks encapsulated q is act) = asked_for_itr act
  asked_taken {new = new} (no_request encapsulated not none same) = rw (none, append-nil, same) h
  asked_taken (hears plain port act) = asked_hears act
  asked_taken {new = new} (other_port plain port none same) = rw (none, append-nil, same) h

-- ---- a run

asked_begin : (me : Locator) (s : State) → IsStateInOrder s → ((t : ℕ) → get s.pending t ≡ None) → s.me ≡ me → HasAsked me [] s
asked_begin me s order rest own = record {
  order = order;
  own = own;
  given = λ bytes w. absurd (none_there w.2);
  once = λ n x y v w. absurd (none_there v.2);
  tried = λ t l here. absurd (cc (rest t, here));
}

polled : (me : Locator) (calls : List Call) (s : State) (call : Call) → is_poll call ≡ true → HasAsked me calls s → HasAsked me (calls ++ call ∷ []) s
polled me calls s call polls h = asked_quiet me calls (call ∷ []) s h (quiet_polled me call polls)

-- a lookup's last request is tried once more
again : {me : Locator} (calls : List Call) (s : State) (t : ℕ) (l : Pending) (answer : Result (Unit {0}) NetFault) → HasAsked me calls s → get s.pending t ≡ Some l → HasAsked me (calls ++ request_tried me l answer ∷ []) s
again {me} calls s t l answer h here = asked_more me calls (request_tried me l answer ∷ []) s h was
  where
    was : (bytes : List ℕ) → WasTried me (request_tried me l answer ∷ []) bytes → NotRequest bytes ⊎ WasTried me calls bytes
    was bytes w = elim (Contains-push_cases [] (request_tried me l answer) (Tried me w.0 control_port bytes w.1) w.2) [
      | inl none ↦ absurd (none_there none)
      | inr same ↦ let e : request_bytes l.nonce l.x me ≡ bytes = cc same in inr (subst (WasTried me calls) e (h.tried t l here))
    ]

-- calls, and then what those who share lookups are told
with_tells : (me : Locator) (calls tries tells : List Call) (s : State) → HasAsked me (calls ++ tries) s → AreQuiet me tells → HasAsked me (calls ++ (tries ++ tells)) s
with_tells me calls tries tells s h quiet =
    subst (λ (cs : List Call). HasAsked me cs s) (append_assoc calls tries tells) (asked_quiet me (calls ++ tries) tells s h quiet)

-- a packet came before them
with_packet : (me : Locator) (calls more : List Call) (call : Call) (s : State) → HasAsked me ((calls ++ call ∷ []) ++ more) s → HasAsked me (calls ++ call ∷ more) s
with_packet me calls more call s h = subst (λ (cs : List Call). HasAsked me cs s) (append_assoc calls (call ∷ []) more) h

-- what is remembered of a prefix is forgotten
asked_forgot : (me : Locator) (calls : List Call) (s : State) (p : List ℕ) → HasAsked me calls s → HasAsked me calls (forgotten s p)
asked_forgot me calls s p h = asked_fewer me calls s (forgotten s p) h (order_forgotten s p h.order) h.own (omega arith) (λ t l here. here)

-- another resolver goes on
asked_anew : (me : Locator) (calls : List Call) (s new : State) → HasAsked me calls s → IsStateInOrder new → ((t : ℕ) → get new.pending t ≡ None) → new.me ≡ me → s.next ≤ new.next → HasAsked me calls new
asked_anew me calls s new h order rest own grows = asked_fewer me calls s new h order own grows (λ t l here. absurd (cc (rest t, here)))

module _ (r : Register) (me : Locator) where
  asked_run : {start : Running} {calls : List Call} {sharers : List Sharer} {w : Running} → HasAsked me [] start.state → HasRun (BeginsSound r me) me start calls sharers w → HasAsked me calls w.state
  asked_run first begins = first
  asked_run first (took {calls = before} {w = w} now room p bytes heard tries ended tells left new so_far le hears_it taken ends telling) =
      with_packet me before (tries ++ tells) (Received me room (Ok (Some p)) bytes) new.state
      (with_tells me (before ++ Received me room (Ok (Some p)) bytes ∷ []) tries tells new.state
      (asked_taken me (before ++ Received me room (Ok (Some p)) bytes ∷ []) w (polled me before w.state (Received me room (Ok (Some p)) bytes) refl (asked_run first so_far)) now le taken)
      (quiet_sharers telling))
  asked_run first (ticked {calls = before} {w = w} now tries ended tells left new so_far le ticks ends telling) =
      with_tells me before tries tells new.state (asked_hears me before w (asked_run first so_far) now le ticks) (quiet_sharers telling)
  asked_run first (hastened {calls = before} {w = w} now nonce tries ended tells left new so_far le hastens ends telling) =
      with_tells me before tries tells new.state (asked_hastens me before w (asked_run first so_far) now le hastens) (quiet_sharers telling)
  asked_run first (shared {calls = before} {w = w} room p bytes j so_far asks_it may_share) = polled me before w.state (Received me room (Ok (Some p)) bytes) refl (asked_run first so_far)
  asked_run first (waited {calls = before} {w = w} now so_far le) = asked_moved me before w (asked_run first so_far) now le
  asked_run first (forgot {calls = before} {w = w} p so_far) = asked_forgot me before w.state p (asked_run first so_far)
  asked_run first (resent {calls = before} {w = w} t l answer so_far here) = again before w.state t l answer (asked_run first so_far) here
  asked_run first (passed {calls = before} {w = w} call so_far polls) = polled me before w.state call polls (asked_run first so_far)
  asked_run first (renewed {calls = before} {w = w} new so_far b later) = asked_anew me before w.state new (asked_run first so_far) b.order b.starts.at_rest b.own later

pub once_in : (me : Locator) (calls : List Call) (s : State) → HasAsked me calls s → IsAskedOnce me calls
once_in me calls s h server to nonce x y bytes answer was there is =
    elim (h.given bytes (to, answer, there)) [
      | inl not ↦ absurd (not is.message is.spells)
      | inr g ↦
          let e : bytes ≡ request_bytes g.0 g.1 me = g.3 in
          let same = asked_in g.0 nonce g.1 y me (subst (λ (bs : List ℕ). IsAsked bs nonce y) e is) in
          let nonce_is : nonce ≡ g.0 = omega (arith, same.0, g.2, h.order.next) in
          let now : WasTried me calls (request_bytes g.0 g.1 me) = subst (WasTried me calls) e (to, answer, there) in
          let before : WasTried me calls (request_bytes g.0 x me) = subst (λ (n : ℕ). WasTried me calls (request_bytes n x me)) nonce_is (server, was.0, was.1) in
          same.1 ∙ h.once g.0 g.1 x now before
    ]

pub runs_once : RunsAskOnce
runs_once r me start calls sharers w b run =
    once_in me calls w.state (asked_run r me (asked_begin me start b.order b.starts.at_rest b.own) run)
