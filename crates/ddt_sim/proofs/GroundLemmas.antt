-- What holds of each run, whatever its servers say: the order of the resolver and of its tickets.
use Rattle.std.proofs.Common.{◌≡◌, ℕ, zero, suc, ◌+◌, ◌<◌, ◌≤◌, true, false, List, [], ◌∷◌, ◌++◌, length, Option, Some, None, Result, refl, sym, ap, ◌∙◌, subst, arith, inl, inr, ◌⊎◌, append-nil, length-append}
use Rattle.std.specs.Prelude.{slice_get}
use Rattle.std.specs.Option.{option_map_or}
use Rattle.std.proofs.lemmas.Bool.{false≢true}
use Rattle.std.specs.FinMap.{get, insert}
use Rattle.std.proofs.lemmas.Option.{none-some, same_Some, slice_get_within}
use Rattle.ddt_path.specs.declared.record.Outcome.{Outcome}
use Rattle.ddt_path.specs.declared.xeid.Xeid.{Xeid}
use Rattle.ddt_cache.specs.Moment.{last_moment}
use Rattle.ddt_resolver.specs.declared.pending.Pending.{Pending}
use Rattle.ddt_resolver.specs.declared.results.Heard.{Heard as Hearing}
use Rattle.ddt_resolver.specs.declared.results.Outgoing.{Outgoing}
use Rattle.ddt_resolver.specs.declared.results.Why.{Why}
use Rattle.ddt_resolver.specs.declared.step.Reply.{Reply}
use Rattle.ddt_resolver.specs.declared.step.Reply.TheVariants.{ToDatagram}
use Rattle.ddt_resolver.specs.declared.step.Progress.TheVariants.{Stays, Sends}
use Rattle.ddt_resolver.specs.State.{State, moved, numbered, request as request_of}
use Rattle.ddt_resolver.specs.Step as resolver
use Rattle.ddt_resolver.specs.Step.{ResolverCall, asks, hears, ticks, progress_of}
use Rattle.ddt_resolver.specs.Act.{HearStep}
use Rattle.ddt_resolver.specs.Order.{IsStateInOrder, IsLookup}
use Rattle.ddt_resolver.specs.laws.Order.{order_moved, order_kept}
use Rattle.ddt_resolver.specs.laws.NumberMap.{found_insert, get-insert_same}
use Rattle.ddt_resolver.specs.laws.Shape.{stays, opens, sends, drops, IsMoved, moved_by_step, goes_sends, Leaves}
use Rattle.ddt_sim.specs.declared.schedule.Step.{Step}
use Rattle.ddt_sim.specs.declared.schedule.Step.TheVariants.{Ask, Deliver, Replace}
use Rattle.ddt_sim.specs.declared.schedule.Event.{Event}
use Rattle.ddt_sim.specs.declared.schedule.Event.TheVariants.{Replied, Silent, Heard}
use Rattle.ddt_sim.specs.declared.schedule.Datagram.{Datagram}
use Rattle.ddt_sim.specs.Waiting.{CanBeAsked}
use Rattle.ddt_sim.specs.World.{World, Members, MayReply, reply_to, request_from, request_in, request_at, sent_for, event_of, reply_at, progress_at, call_at, CallsResolver, asked, heard, ticked, Resolves, by_reply, by_silence, WorldStep, resolves, serves, not_sent, passes, replaces, no_member}
use Rattle.ddt_sim.specs.History.{Line, History, begin, next, Each, at_start}
use Rattle.ddt_sim.specs.Schedules.{Ends, IsOnce}
use Rattle.ddt_sim.specs.laws.Ticket.{Tickets, tickets_on, once_on, IsTurn, still_turn, move_turn, reply_told, told_progress, PendingFrom, pending_from, stayed, opened, went_on}

-- ---- lists that have grown at their end

module _ {X : Type 0} where
  pub get_append : (xs ys : List X) (i : ℕ) (x : X) → slice_get xs i ≡ Some x → slice_get (xs ++ ys) i ≡ Some x
  get_append [] ys i x e = absurd (none-some x e)
  get_append (y ∷ xs) ys zero x e = e
  get_append (y ∷ xs) ys (suc i) x e = get_append xs ys i x e

  pub get_last : (xs : List X) (x : X) → slice_get (xs ++ x ∷ []) (length xs) ≡ Some x
  get_last [] x = refl
  get_last (y ∷ xs) x = get_last xs x

  -- what is found after an append was there, or is the new element
  pub got_append : (xs : List X) (x : X) (i : ℕ) (y : X) → slice_get (xs ++ x ∷ []) i ≡ Some y → (slice_get xs i ≡ Some y) ⊎ ((i ≡ length xs) × (x ≡ y))
  got_append [] x zero y e = inr (refl, same_Some x y e)
  got_append [] x (suc i) y e = absurd (none-some y e)
  got_append (z ∷ xs) x zero y e = inl e
  got_append (z ∷ xs) x (suc i) y e = elim (got_append xs x i y e) [ inl f ↦ inl f | inr f ↦ inr (ap suc f.0, f.1) ]

-- ---- how the resolver is called

-- an ask's call is an ask of the identifier
pub asked_by : {w : World} {step : Step} {call : ResolverCall} (x : Xeid) → CallsResolver w step call → call ≡ resolver.Ask x → (step ≡ Ask x) × CanBeAsked x w.state.me
asked_by x (asked y fits e f) g = let same : y ≡ x = cc (f, g) in (e ∙ ap Ask same, rw same at fits)
asked_by x (heard k d e found kind f) g = absurd (cc (f, g))
asked_by x (ticked e f) g = absurd (cc (f, g))

-- what a step calls for
pub calls_at : {w : World} {step : Step} {call : ResolverCall} → CallsResolver w step call → call ≡ call_at w.sent step
calls_at (asked x fits e f) = rw e f
calls_at (heard k d e found kind f) = rw (e, found) f
calls_at (ticked e f) = rw e f

-- a request that is delivered isn't heard
request_unheard : {w : World} {step : Step} {call : ResolverCall} (k : ℕ) (d : Datagram) → step ≡ Deliver k → slice_get w.sent k ≡ Some d → d.is_reply ≡ false → CallsResolver w step call → ⊥
request_unheard k d is found kind (asked x fits e f) = cc (is, e)
request_unheard k d is found kind (ticked e f) = cc (is, e)
request_unheard {w = w} k d is found kind (heard j c e there other f) = let same : j ≡ k = cc (is, e) in false≢true (cc (kind, found, ap (slice_get w.sent) same, there, other))

-- ---- the steps that the resolver has no part in

-- a line of a history
abbrev pub one_line : World → Step → Event → World → Line
one_line w step event new = record { before = w; step = step; event = event; after = new }

-- the datagrams are as they were, or a server's reply is one more; a request that is delivered meets silence or a reply
pub data Adds (servers : Members) (w : World) (step : Step) (event : Event) (new : World) : Type 0 where
  unsent : new.sent ≡ w.sent → ((n : ℕ) → event ≡ Replied n → ⊥)
      → ((k : ℕ) (d : Datagram) → step ≡ Deliver k → slice_get w.sent k ≡ Some d → MayReply (servers.honest w.member) (servers.silent w.member) d.to d.bytes None × (event ≡ Silent) × (new ≡ w)) → Adds servers w step event new
  answered : (k : ℕ) (d : Datagram) (bytes : List ℕ) → step ≡ Deliver k → slice_get w.sent k ≡ Some d → d.is_reply ≡ false → MayReply (servers.honest w.member) (servers.silent w.member) d.to d.bytes (Some bytes)
      → event ≡ Replied (length w.sent) → new.sent ≡ w.sent ++ reply_to d bytes ∷ [] → Adds servers w step event new

pub record IsRest (servers : Members) (w : World) (step : Step) (event : Event) (new : World) : Type 0 where
  pub idle : reply_at event ≡ None
  pub state : new.state ≡ w.state
  pub later : w.moment ≤ last_moment → (w.moment ≤ new.moment) × (new.moment ≤ last_moment)
  pub member : (new.member ≡ w.member) ⊎ ((step ≡ Replace new.member) × (new.member < servers.count))
  pub adds : Adds servers w step event new

-- a step is the resolver's, or it has no part in it
abbrev pub Part : Members → World → Step → Event → World → Type 0
Part servers w step event new = Resolves w step event new ⊎ IsRest servers w step event new

same_datagram : (w : World) (step : Step) (j k : ℕ) (c d : Datagram) → step ≡ Deliver j → slice_get w.sent j ≡ Some c → step ≡ Deliver k → slice_get w.sent k ≡ Some d → c ≡ d
same_datagram w step j k c d e there is found = let same : j ≡ k = cc (is, e) in same_Some c d (sym there ∙ ap (slice_get w.sent) same ∙ found)

pub part_of : (servers : Members) (w : World) (step : Step) (event : Event) (new : World) → WorldStep servers w step event new → Part servers w step event new
part_of servers w step event new (resolves does) = inl does
part_of servers w step event new (serves k more is (by_reply d bytes found kind may e g) f) =
    inr (rw (e, f) (record { idle = refl; state = refl; later = λ le. (omega arith, le); member = inl refl; adds = answered k d bytes is found kind may refl g }))
part_of servers w step event new (serves j more e (by_silence c there kind may g same) f) =
    inr (rw (g, f, same) (record { idle = refl; state = refl; later = λ le. (omega arith, le); member = inl refl; adds = unsent refl (λ n h. cc h) (λ k d is found. (rw (sym (same_datagram w step j k c d e there is found)) may, refl, refl)) }))
part_of servers w step event new (not_sent j e gone g f) =
    inr (rw (g, f) (record { idle = refl; state = refl; later = λ le. (omega arith, le); member = inl refl; adds = unsent refl (λ n h. cc h) (λ k d is found. let same : j ≡ k = cc (is, e) in let lt = slice_get_within w.sent k d found in absurd (omega (arith, gone, lt, same))) }))
part_of servers w step event new (passes millis e g f) =
    inr (rw (g, f) (record { idle = refl; state = refl; later = λ le. (omega (arith, le), omega arith); member = inl refl; adds = unsent refl (λ n h. cc h) (λ k d is found. absurd (cc (is, e))) }))
part_of servers w step event new (replaces j e lt g f) =
    inr (rw (g, f) (record { idle = refl; state = refl; later = λ le. (omega arith, le); member = inr (e, lt); adds = unsent refl (λ n h. cc h) (λ k d is found. absurd (cc (is, e))) }))
part_of servers w step event new (no_member j e le g f) =
    inr (rw (g, f) (record { idle = refl; state = refl; later = λ le. (omega arith, le); member = inl refl; adds = unsent refl (λ n h. cc h) (λ k d is found. absurd (cc (is, e))) }))

-- the servers in force after a step were in force before, or the step names them
pub member_on : {servers : Members} {w : World} {step : Step} {event : Event} {new : World} → Part servers w step event new → (new.member ≡ w.member) ⊎ ((step ≡ Replace new.member) × (new.member < servers.count))
member_on (inl does) = inl (ap (λ (v : World). v.member) does.goes_on)
member_on (inr rest) = rest.member

-- what comes of a request that is delivered
abbrev pub IsServed : Members → World → Event → World → Datagram → Type 0
IsServed servers w event new d =
    ((bytes : List ℕ) × MayReply (servers.honest w.member) (servers.silent w.member) d.to d.bytes (Some bytes) × (event ≡ Replied (length w.sent)) × (new.sent ≡ w.sent ++ reply_to d bytes ∷ []))
    ⊎ (MayReply (servers.honest w.member) (servers.silent w.member) d.to d.bytes None × (event ≡ Silent) × (new ≡ w))

pub served : {servers : Members} {w : World} {step : Step} {event : Event} {new : World} → Part servers w step event new → (k : ℕ) (d : Datagram) → step ≡ Deliver k → slice_get w.sent k ≡ Some d → d.is_reply ≡ false → IsServed servers w event new d
served (inl r) k d is found kind = absurd (request_unheard k d is found kind r.calls)
served {w = w} {step = step} (inr rest) k d is found kind = elim rest.adds [
  | unsent same other silent ↦ inr (silent k d is found)
  | answered j c bytes e there other may f h ↦ let own = same_datagram w step j k c d e there is found in inl (bytes, rw own at may, f, rw own at h)
]

-- ---- the invariant

pub record IsGround (past : List Line) (w : World) : Type 0 where
  pub order : IsStateInOrder w.state
  pub early : w.moment ≤ last_moment
  pub time : w.state.known.time ≤ w.moment
  pub fits : (t : ℕ) (l : Pending) → get w.state.pending t ≡ Some l → CanBeAsked l.x w.state.me
  pub tickets : Tickets past w.state

-- what stays from a world to a later one: a lookup that is pending there with a nonce of before is what it was
pub record Follows (w new : World) : Type 0 where
  pub me : new.state.me ≡ w.state.me
  pub grows : w.state.next ≤ new.state.next
  pub later : w.moment ≤ new.moment
  pub sent : (k : ℕ) (d : Datagram) → slice_get w.sent k ≡ Some d → slice_get new.sent k ≡ Some d
  pub longer : length w.sent ≤ length new.sent
  pub older : (t : ℕ) (l : Pending) → get new.state.pending t ≡ Some l → l.nonce < w.state.next → get w.state.pending t ≡ Some l

-- a lookup that has just sent its next request: nobody else has its nonce
pub record HasSent (w new : World) (t : ℕ) (l : Pending) : Type 0 where
  pub lookup : IsLookup l
  pub pending : get new.state.pending t ≡ Some (numbered (moved w.moment w.state) l)
  pub alone : (u : ℕ) (k : Pending) → get new.state.pending u ≡ Some k → k.nonce ≡ w.state.next → (u ≡ t) × (numbered (moved w.moment w.state) l ≡ k)
  pub below : w.state.next < new.state.next

-- what a datagram is that is sent in a step
pub data IsNew (servers : Members) (w new : World) (d : Datagram) : Type 0 where
  request : (t : ℕ) (l : Pending) → HasSent w new t l → request_from w.state.me (request_of (moved w.moment w.state) l) ≡ d → IsNew servers w new d
  reply : (k : ℕ) (c : Datagram) (bytes : List ℕ) → slice_get w.sent k ≡ Some c → c.is_reply ≡ false → MayReply (servers.honest w.member) (servers.silent w.member) c.to c.bytes (Some bytes) → reply_to c bytes ≡ d → IsNew servers w new d

module _ {past : List Line} {w : World} (g : IsGround past w) where
  abbrev now : State
  now = moved w.moment w.state

  pub order_now : IsStateInOrder (moved w.moment w.state)
  order_now = order_moved w.state w.moment g.early g.order

  -- the time is the moment
  pub at_moment : (moved w.moment w.state).known.time ≡ w.moment
  at_moment = let le = g.time in omega (arith, le)

  -- ---- a step of the resolver

  module _ {step : Step} {event : Event} {new : World} (does : Resolves w step event new) where
    pub is_moved : IsMoved (moved w.moment w.state) does.call does.state does.reply
    is_moved = moved_by_step now order_now does.call does.state does.reply does.does

    pub state_is : new.state ≡ does.state
    state_is = ap (λ (v : World). v.state) does.goes_on

    pub reply_now : reply_at event ≡ Some does.reply
    reply_now = ap reply_at does.tells ∙ reply_told does.reply

    -- the event tells the answer
    pub answer_is : (a : Reply) → event ≡ event_of a → does.reply ≡ a
    answer_is a e = same_Some does.reply a (sym reply_now ∙ ap reply_at e ∙ reply_told a)

    pub progress_now : progress_at event ≡ progress_of does.reply
    progress_now = ap progress_at does.tells ∙ told_progress does.reply

    pub came_by : (t : ℕ) (l : Pending) → get new.state.pending t ≡ Some l → PendingFrom (moved w.moment w.state) does.call does.reply t l
    came_by t l found = pending_from is_moved.move t l (rw state_is at found)

    came_fits : (t : ℕ) (l : Pending) → PendingFrom now does.call does.reply t l → CanBeAsked l.x w.state.me
    came_fits t l (stayed there other) = g.fits t l there
    came_fits t l (opened k is here called place first empty f) = subst (λ (v : Pending). CanBeAsked v.x w.state.me) is (asked_by k.x does.calls called).1
    came_fits t l (went_on old k is there x goes lookup) = subst (λ (v : Pending). CanBeAsked v.x w.state.me) is (rw x (g.fits t old there))

    came_older : (t : ℕ) (l : Pending) → l.nonce < w.state.next → PendingFrom now does.call does.reply t l → get w.state.pending t ≡ Some l
    came_older t l below (stayed there other) = there
    came_older t l below (opened k is here called place first empty f) = let own : w.state.next ≡ l.nonce = ap (λ (v : Pending). v.nonce) is in absurd (omega (arith, below, own))
    came_older t l below (went_on old k is there x goes lookup) = let own : w.state.next ≡ l.nonce = ap (λ (v : Pending). v.nonce) is in absurd (omega (arith, below, own))

    turn_by : IsTurn (one_line w step event new) w.state new.state
    turn_by = subst (IsTurn (one_line w step event new) w.state) (sym state_is) (move_turn (one_line w step event new) w.moment w.state does.state does.call does.reply (λ x is. (asked_by x does.calls is).0) does.tells is_moved.move)

    -- what is heard was sent
    pub heard_by : (h : Hearing) → event ≡ Heard h → (k : ℕ) × (c : Datagram) × (step ≡ Deliver k) × (slice_get w.sent k ≡ Some c) × (c.is_reply ≡ true) × HearStep (moved w.moment w.state) c.source c.bytes does.state h
    heard_by h is = let told : does.reply ≡ ToDatagram h = answer_is (ToDatagram h) is in elim does.does [
      | asks x r id st called to ↦ absurd (cc (told, to))
      | ticks r st called to ↦ absurd (cc (told, to))
      | hears source bytes own st called to ↦ elim does.calls [
        | asked x fits e f ↦ absurd (cc (f, called))
        | ticked e f ↦ absurd (cc (f, called))
        | heard k c e found kind f ↦
            let from : c.source ≡ source = cc (f, called) in let text : c.bytes ≡ bytes = cc (f, called) in let same : own ≡ h = cc (told, to) in
            (k, c, e, found, kind, rw (from, text, ← same) st)
      ]
    ]

    -- why a lookup ends
    pub left_now : (t : ℕ) (end : Result Outcome Why) → Ends event t end → (l : Pending) × (get w.state.pending t ≡ Some l) × Leaves (moved w.moment w.state) does.call t l end
    left_now t end ends = elim is_moved.move [
      | stays p n quiet ↦ absurd (cc (ends, progress_now, quiet))
      | opens l called place first empty unsaved lookup more few p n f ↦ absurd (cc (ends, progress_now, ap progress_of f))
      | sends u old l there x goes lookup more p n ↦ absurd (cc (ends, progress_now, goes_sends now does.call does.reply u old l goes))
      | drops u l e there p n f why ↦ let same : u ≡ t = cc (ends, progress_now, f) in let own : e ≡ end = cc (ends, progress_now, f) in (l, rw same at there, rw (same, own) at why)
    ]

    -- what it sends
    has_sent : (t : ℕ) (l : Pending) → IsLookup l → does.state.pending ≡ insert w.state.pending t (numbered now l) → does.state.next ≡ w.state.next + 1 → HasSent w new t l
    has_sent t l is p n = record {
      lookup = is;
      pending = rw (state_is, p) (get-insert_same w.state.pending t (numbered now l));
      alone = λ u k found same. elim (found_insert w.state.pending t (numbered now l) u k (rw (state_is, p) at found)) [
        | inl e ↦ e
        | inr e ↦ let below = (order_now.lookups u k e.1).nonce in absurd (omega (arith, below, same))
      ];
      below = rw state_is (omega (arith, n));
    }

    new_request : (servers : Members) (k : ℕ) (d : Datagram) (q : Option Outgoing) → slice_get (w.sent ++ sent_for w.state.me q) k ≡ Some d → request_in (progress_of does.reply) ≡ q → (slice_get w.sent k ≡ Some d) ⊎ IsNew servers w new d
    new_request servers k d None found is = inl (rw append-nil at found)
    new_request servers k d (Some q) found is = elim (got_append w.sent (request_from w.state.me q) k d found) [
      | inl there ↦ inl there
      | inr here ↦ inr (elim is_moved.move [
        | stays p n quiet ↦ absurd (none-some q (ap request_in (sym quiet) ∙ is))
        | opens l called place first empty unsaved lookup more few p n f ↦ this here.1 w.state.next l (has_sent w.state.next l lookup p n) (ap progress_of f)
        | sends t old l there x goes lookup more p n ↦ this here.1 t l (has_sent t l lookup p n) (goes_sends now does.call does.reply t old l goes)
        | drops t l end there p n f why ↦ absurd (none-some q (ap request_in (sym f) ∙ is))
      ])
    ]
      where
        this : request_from w.state.me q ≡ d → (t : ℕ) (l : Pending) → HasSent w new t l → progress_of does.reply ≡ Sends t (request_of now l) → IsNew servers w new d
        this here t l has f = let same : q ≡ request_of now l = same_Some q (request_of now l) (sym is ∙ ap request_in f) in request t l has (ap (request_from w.state.me) (sym same) ∙ here)

  -- ---- any step

  -- nothing ends where the resolver has no part
  pub rest_ends : {servers : Members} {step : Step} {event : Event} {new : World} → IsRest servers w step event new → progress_at event ≡ Stays
  rest_ends rest = ap (λ r. option_map_or progress_of r Stays) rest.idle

  module _ {servers : Members} {step : Step} {event : Event} {new : World} where
    turn_on : Part servers w step event new → IsTurn (one_line w step event new) w.state new.state
    turn_on (inl does) = turn_by does
    turn_on (inr rest) = still_turn (one_line w step event new) w.state new.state (rest_ends rest) rest.state

    pub ground_on : Part servers w step event new → IsGround (one_line w step event new ∷ past) new
    ground_on (inl does) = record {
      order = rw (state_is does) (order_kept now does.call does.state does.reply order_now (is_moved does));
      early = rw does.goes_on g.early;
      time = rw does.goes_on (let e = (is_moved does).time in let time = at_moment in omega (arith, e, time));
      fits = λ t l found. rw (state_is does, (is_moved does).me) (came_fits does t l (came_by does t l found));
      tickets = tickets_on g.tickets (turn_by does);
    }
    ground_on (inr rest) = record {
      order = rw rest.state g.order;
      early = (rest.later g.early).1;
      time = let time = g.time in let later = (rest.later g.early).0 in rw rest.state (omega (arith, time, later));
      fits = rw rest.state g.fits;
      tickets = tickets_on g.tickets (turn_on (inr rest));
    }

    -- no ticket is opened twice, and none ends twice
    pub once_now : Part servers w step event new → IsOnce past (one_line w step event new)
    once_now part = once_on g.tickets (turn_on part)

    sent_on : Part servers w step event new → (more : List Datagram) × (new.sent ≡ w.sent ++ more)
    sent_on (inl does) = (sent_for w.state.me (request_at event), ap (λ (v : World). v.sent) does.goes_on)
    sent_on (inr rest) = elim rest.adds [ unsent same other silent ↦ ([], same ∙ sym (append-nil w.sent)) | answered k c bytes is there kind may e f ↦ (reply_to c bytes ∷ [], f) ]

    pub follows : Part servers w step event new → Follows w new
    follows part = record {
      me = elim part [ inl does ↦ rw (state_is does) (is_moved does).me | inr rest ↦ rw rest.state refl ];
      grows = (turn_on part).grows;
      later = elim part [ inl does ↦ rw does.goes_on (omega arith) | inr rest ↦ (rest.later g.early).0 ];
      sent = λ k d found. rw (sent_on part).1 (get_append w.sent (sent_on part).0 k d found);
      longer = rw ((sent_on part).1, length-append) (omega arith);
      older = λ t l found below. elim part [ inl does ↦ came_older does t l below (came_by does t l found) | inr rest ↦ rw rest.state at found ];
    }

    -- a datagram that is there after a step was there before, or is new
    pub sent_by : Part servers w step event new → (k : ℕ) (d : Datagram) → slice_get new.sent k ≡ Some d → (slice_get w.sent k ≡ Some d) ⊎ IsNew servers w new d
    sent_by (inl does) k d found = new_request does servers k d (request_at event) (rw (ap (λ (v : World). v.sent) does.goes_on) at found) (sym (ap request_in (progress_now does)))
    sent_by (inr rest) k d found = elim rest.adds [
      | unsent same other silent ↦ inl (rw same at found)
      | answered j c bytes is there kind may e f ↦ elim (got_append w.sent (reply_to c bytes) k d (rw f at found)) [ inl old ↦ inl old | inr here ↦ inr (reply j c bytes there kind may here.1) ]
    ]

-- ---- a run

pub first_ground : (s : State) → IsStateInOrder s → ((t : ℕ) → get s.pending t ≡ None) → IsGround [] (at_start s)
first_ground s o at_rest = record {
  order = o;
  early = o.known.time;
  time = omega arith;
  fits = λ t l found. absurd (none-some l (sym (at_rest t) ∙ found));
  tickets = record {
    asked_for = λ t l found. absurd (none-some l (sym (at_rest t) ∙ found));
    running = λ t l found h. h;
    known = λ t h. absurd h;
    ended = λ t h. absurd h;
  };
}

-- What each step keeps holds after a run, where each line is as it has to be. So does what follows of each line.
module _ {servers : Members} {start : World} (fit : Line → Type 0) (holds : List Line → World → Type 0) (first : holds [] start)
    (keeps : (past : List Line) (w : World) → holds past w → (step : Step) (event : Event) (new : World) → Part servers w step event new → fit (one_line w step event new) → holds (one_line w step event new ∷ past) new) where
  pub run_kept : {past : List Line} {w : World} → Each (λ past. fit) past → History servers start past w → holds past w
  run_kept are begin = first
  run_kept {w = w} are (next {past = p} {w = v} step event h does) = keeps p v (run_kept are.1 h) step event w (part_of servers v step event w does) are.0

  pub each_kept : (says : List Line → Line → Type 0) → ((past : List Line) (w : World) → holds past w → (step : Step) (event : Event) (new : World) → Part servers w step event new → says past (one_line w step event new))
      → {past : List Line} {w : World} → Each (λ past. fit) past → History servers start past w → Each says past
  each_kept says each are begin = tt
  each_kept says each {w = w} are (next {past = p} {w = v} step event h does) = (each p v (run_kept are.1 h) step event w (part_of servers v step event w does), each_kept says each are.1 h)
