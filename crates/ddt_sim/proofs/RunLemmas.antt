-- The steps of a schedule as the calls take them.
use Rattle.std.proofs.Common.{◌≡◌, ℕ, zero, suc, arith, ◌+◌, ◌<◌, ◌≤◌, Bool, true, List, length, get_or, take, drop, map, reverse, [], ◌∷◌, ◌++◌, Option, None, Some, Result, Ok, Err, refl, sym, ap, ◌∙◌, subst, inl, inr, ◌⊎◌}
use Rattle.std.specs.Prelude.{slice_get}
use Rattle.std.specs.Result.{OnErr}
use Rattle.std.specs.Option.{option_map}
use Rattle.std.proofs.lemmas.Option.{none-some, same_Some, slice_get_read, slice_get_within}
use Rattle.std.proofs.lemmas.List.{take_more, take-append-drop, drop_more, reverse-append, length-set}
use Rattle.std.proofs.Math.ListN.{set}
use Rattle.std.proofs.lemmas.List.Elements.{Contains-append_left, Contains-append_right}
use Rattle.ddt_path.specs.declared.locator.Locator.{Locator}
use Rattle.ddt_path.specs.laws.Member.{contained}
use Rattle.ddt_resolver.specs.State.{State, moved}
use Rattle.ddt_resolver.specs.declared.step.Reply.{Reply}
use Rattle.ddt_resolver.specs.Step as resolver
use Rattle.ddt_resolver.specs.Step.{ResolverCall, Hear}
use Rattle.ddt_sim.specs.declared.schedule.Step.{Step}
use Rattle.ddt_sim.specs.declared.schedule.Step.TheVariants.{Deliver, Replace}
use Rattle.ddt_sim.specs.declared.schedule.Event.{Event}
use Rattle.ddt_sim.specs.declared.schedule.Datagram.{Datagram}
use Rattle.ddt_register.specs.declared.register.Register.{Register}
use Rattle.ddt_sim.specs.World.{World, world, members, at_place, StillAre, OthersStay, ComesIntoForce, MayReply, event_of, after, CallsResolver, call_at, Resolves, Serves, by_reply, by_silence, WorldStep, resolves, serves, not_sent, passes, replaces, no_member, Stops, undone, wanting, untold, heard}
use Rattle.ddt_sim.proofs.GroundLemmas.{calls_at, part_of, member_on}
use Rattle.ddt_sim.specs.History.{Line, History, begin, next, steps_of, events_of, at_start, WantsNext, StopsAfter}

-- ---- a datagram that is delivered

found_reply : (o : Option Datagram) (b : Bool) → option_map (λ (d : Datagram). d.is_reply) o ≡ Some b → (d : Datagram) × (o ≡ Some d) × (d.is_reply ≡ b)
found_reply None b e = absurd (none-some b e)
found_reply (Some d) b e = (d, refl, same_Some d.is_reply b e)

pub hears_call : (w : World) (k : ℕ) → option_map (λ (d : Datagram). d.is_reply) (slice_get w.sent k) ≡ Some true → (call : ResolverCall) × CallsResolver w (Deliver k) call
hears_call w k e = let f = found_reply (slice_get w.sent k) true e in (Hear f.0.source f.0.bytes, heard k f.0 refl f.1 f.2 refl)

module _ (sent : List Datagram) (k : ℕ) (b : Bool) (d : Datagram) (is : option_map (λ (c : Datagram). c.is_reply) (slice_get sent k) ≡ Some b) (read : d ≡ get_or sent k d) where
  pub read_at : (slice_get sent k ≡ Some d) × (d.is_reply ≡ b)
  read_at =
      let f = found_reply (slice_get sent k) b is in
      let here : slice_get sent k ≡ Some d = slice_get_read sent (length sent) k d refl (slice_get_within sent k f.0 f.1) read in
      (here, rw (same_Some f.0 d (sym f.1 ∙ here)) at f.2)

-- no datagram has this number
pub none_at : (sent : List Datagram) (k : ℕ) → option_map (λ (d : Datagram). d.is_reply) (slice_get sent k) ≡ None → length sent ≤ k
none_at [] k none = omega arith
none_at (d ∷ ds) zero none = absurd (none-some d.is_reply (sym none))
none_at (d ∷ ds) (suc k) none = let le : length ds ≤ k = none_at ds k none in omega (arith, le)

-- ---- a call of the resolver

module _ {w : World} {step : Step} (asks : (call : ResolverCall) × CallsResolver w step call) {sent : List Datagram} (here : sent ≡ w.sent) {call : ResolverCall} (is : call ≡ call_at sent step) where
  pub called_by : CallsResolver w step call
  called_by = subst (CallsResolver w step) (calls_at asks.1 ∙ ap (λ l. call_at l step) (sym here) ∙ sym is) asks.1

  pub resolved_by : {reply : Reply} {s : State} {event : Event} → resolver.Step (moved w.moment w.state) call s reply → event ≡ event_of reply → Resolves w step event (after w s event)
  resolved_by {reply = reply} {s = s} does tells = record { call = call; reply = reply; state = s; calls = called_by; does = does; tells = tells; goes_on = refl }

-- an error leaves what it left
pub left_by : {T E : Type 0} {P : Type 0} (r : Result T E) → P → OnErr r P
left_by (Ok x) p = tt
left_by (Err e) p = p

-- ---- servers that are what they were

module _ {S : Type 0} (fact : S → Register → Type 0) where
  place_set : (l : List S) (k : ℕ) (old new : S) → slice_get l k ≡ Some old → ((r : Register) → fact old r → fact new r) → (j : ℕ) (r : Register) → at_place fact l j r → at_place fact (set l k new) j r
  place_set [] k old new found on j r h = absurd (none-some old found)
  place_set (x ∷ l) zero old new found on zero r h = (new, refl, on r (subst (λ z. fact z r) (sym (same_Some x h.0 h.1) ∙ same_Some x old found) h.2))
  place_set (x ∷ l) zero old new found on (suc j) r h = h
  place_set (x ∷ l) (suc k) old new found on zero r h = h
  place_set (x ∷ l) (suc k) old new found on (suc j) r h = place_set l k old new found on j r h

  pub still_set : (l : List S) (k : ℕ) (old new : S) → k < length l → old ≡ get_or l k old → ((r : Register) → fact old r → fact new r) → StillAre fact l (set l k new)
  still_set l k old new lt is on = (length-set l k new, place_set l k old new (slice_get_read l (length l) k old refl lt is) on)

  pub still_same : (l : List S) → StillAre fact l l
  still_same l = (refl, λ k r h. h)

  pub still_on : (l m n : List S) → StillAre fact l m → StillAre fact m n → StillAre fact l n
  still_on l m n a b = (b.0 ∙ a.0, λ k r h. b.1 k r (a.1 k r h))

  -- what stands at a place is what the facts are of
  pub own_place : (l : List S) (k : ℕ) (own : S) (r : Register) → k < length l → own ≡ get_or l k own → at_place fact l k r → fact own r
  own_place l k own r lt is h = subst (λ z. fact z r) (same_Some h.0 own (sym h.1 ∙ slice_get_read l (length l) k own refl lt is)) h.2

-- what is set leaves the others
pub set_others : {S : Type 0} → (l : List S) (k : ℕ) (new : S) → OthersStay (λ j. j ≡ k) l (set l k new)
set_others [] k new j other = refl
set_others (x ∷ l) zero new zero other = absurd (other refl)
set_others (x ∷ l) zero new (suc j) other = refl
set_others (x ∷ l) (suc k) new zero other = refl
set_others (x ∷ l) (suc k) new (suc j) other = set_others l k new j (λ e. other (ap suc e))

-- ---- a request

-- what may come back from servers may come back where less is known of them
module _ {honest silent honest2 silent2 : Register → Type 0} (keeps : (r : Register) → honest2 r → honest r) (still : (r : Register) → silent2 r → silent r) where
  less_known : (to : Locator) (bytes : List ℕ) (reply : Option (List ℕ)) → MayReply honest silent to bytes reply → MayReply honest2 silent2 to bytes reply
  less_known to bytes reply may = record { honestly = λ r m h. may.honestly r m (keeps r h); silently = λ r h. may.silently r (still r h) }

  serves_less : (sent : List Datagram) (k : ℕ) (more : List Datagram) (event : Event) → Serves honest silent sent k more event → Serves honest2 silent2 sent k more event
  serves_less sent k more event (by_reply d bytes found kind may e f) = by_reply d bytes found kind (less_known d.to d.bytes (Some bytes) may) e f
  serves_less sent k more event (by_silence d found kind may e f) = by_silence d found kind (less_known d.to d.bytes None may) e f

module _ {S : Type 0} (is_honest is_silent : S → Register → Type 0) where
  pub serves_at : (l : List S) (k : ℕ) (own : S) → k < length l → own ≡ get_or l k own → (moment number : ℕ) (sent more : List Datagram) (s : State) (event : Event) → Serves (is_honest own) (is_silent own) sent number more event
      → WorldStep (members is_honest is_silent l) (world moment k sent s) (Deliver number) event (world moment k more s)
  serves_at l k own lt is moment number sent more s event serve =
      serves number more refl (serves_less (λ r. own_place is_honest l k own r lt is) (λ r. own_place is_silent l k own r lt is) sent number more event serve) refl

  -- a step over what the servers were before
  still_step : (before now : List S) → StillAre is_honest before now → StillAre is_silent before now → (w : World) (step : Step) (event : Event) (new : World) → WorldStep (members is_honest is_silent now) w step event new
      → WorldStep (members is_honest is_silent before) w step event new
  still_step before now honest silent w step event new (resolves r) = resolves r
  still_step before now honest silent w step event new (serves k more is by f) = serves k more is (serves_less (honest.1 w.member) (silent.1 w.member) w.sent k more event by) f
  still_step before now honest silent w step event new (not_sent k is past e f) = not_sent k is past e f
  still_step before now honest silent w step event new (passes ms is e f) = passes ms is e f
  still_step before now honest silent w step event new (replaces k is lt e f) = let same = honest.0 in replaces k is (omega (arith, lt, same)) e f
  still_step before now honest silent w step event new (no_member k is le e f) = let same = honest.0 in no_member k is (omega (arith, le, same)) e f

-- one more at the end
pub reverse_more : {X : Type 0} (x : X) (xs : List X) → reverse (x ∷ xs) ≡ reverse xs ++ x ∷ []
reverse_more x xs = reverse-append (x ∷ []) xs

-- What holds of a run of the first i steps, over servers that were what they were before.
pub record IsRunning {S : Type 0} (is_honest is_silent : S → Register → Type 0) (before now : List S) (old : State) (steps : List Step) (i : ℕ) (events : List Event) (w : World) : Type 0 where
  pub past : List Line
  pub history : History (members is_honest is_silent before) (at_start old) past w
  pub steps_are : take i steps ≡ steps_of past
  pub events_are : events ≡ events_of past
  pub within : w.member < length now
  pub honest : StillAre is_honest before now
  pub silent : StillAre is_silent before now
  pub came : ComesIntoForce (take i steps) w.member
  pub others : OthersStay (ComesIntoForce (take i steps)) before now

module _ {S : Type 0} {is_honest is_silent : S → Register → Type 0} where
  pub running_at_start : (servers : List S) → 0 < length servers → (old : State) (steps : List Step) (events : List Event) (moment : ℕ) (sent : List Datagram) → events ≡ [] → moment ≡ old.known.time → sent ≡ []
      → IsRunning is_honest is_silent servers servers old steps 0 events (world moment 0 sent old)
  running_at_start servers some old steps events moment sent no_events now no_sent = record {
    past = [];
    history = rw (now, no_sent) begin;
    steps_are = refl;
    events_are = no_events;
    within = some;
    honest = still_same is_honest servers;
    silent = still_same is_silent servers;
    came = inl refl;
    others = λ k none. refl;
  }

  module _ {before now : List S} {old : State} {steps : List Step} {i : ℕ} {events : List Event} {w : World} (so_far : IsRunning is_honest is_silent before now old steps i events w) where
    before_step : (new : State) → (new ≡ w.state) ⊎ WantsNext w (drop i steps) new → StopsAfter (members is_honest is_silent before) old steps new
    before_step new at = record {
      past = so_far.past;
      rest = drop i steps;
      last = w;
      history = so_far.history;
      steps_are = sym (take-append-drop i steps) ∙ ap (λ l. l ++ drop i steps) so_far.steps_are;
      state_is = at;
    }

    -- memory stops it right after a step
    pub stops_after : StopsAfter (members is_honest is_silent before) old steps w.state
    stops_after = before_step w.state (inl refl)

    -- who doesn't come into force in any of the steps is what it was
    pub others_stay : (after : List S) → OthersStay (λ k. k ≡ w.member) now after → OthersStay (ComesIntoForce steps) before after
    others_stay after last k none = last k (λ same. none (in_all k (rw same so_far.came))) ∙ so_far.others k (λ h. none (in_all k h))
      where
        in_all : (j : ℕ) → ComesIntoForce (take i steps) j → ComesIntoForce steps j
        in_all j (inl e) = inl e
        in_all j (inr h) = inr (rw take-append-drop at (Contains-append_left (take i steps) (drop i steps) (Replace j) h))

    module _ (lt : i < length steps) (default : Step) where
      abbrev step : Step
      step = get_or steps i default

      steps_more : take (i + 1) steps ≡ take i steps ++ step ∷ []
      steps_more = take_more steps i default lt

      came_more : (k : ℕ) → ComesIntoForce (take i steps) k → ComesIntoForce (take (i + 1) steps) k
      came_more k (inl e) = inl e
      came_more k (inr h) = inr (rw steps_more (Contains-append_left (take i steps) (step ∷ []) (Replace k) h))

      came_on : (event : Event) (new : World) → WorldStep (members is_honest is_silent now) w step event new → ComesIntoForce (take (i + 1) steps) new.member
      came_on event new does = elim (member_on (part_of (members is_honest is_silent now) w step event new does)) [
        | inl same ↦ rw same (came_more w.member so_far.came)
        | inr named ↦ inr (rw steps_more (Contains-append_right (take i steps) (step ∷ []) (Replace new.member) (contained (step ∷ []) (Replace new.member) (inl (sym named.0)))))
      ]

      done_more : (past : List Line) → take i steps ≡ steps_of past → take (i + 1) steps ≡ reverse (step ∷ map (λ (line : Line). line.step) past)
      done_more past are = steps_more ∙ ap (λ l. l ++ step ∷ []) are ∙ sym (reverse_more step (map (λ (line : Line). line.step) past))

      pub runs_on : {event : Event} {new : World} {events2 : List Event} {after : List S} → WorldStep (members is_honest is_silent now) w step event new
          → events2 ≡ events ++ event ∷ [] → new.member < length after → StillAre is_honest now after → StillAre is_silent now after → OthersStay (λ k. k ≡ w.member) now after
          → IsRunning is_honest is_silent before after old steps (i + 1) events2 new
      runs_on {event = event} {new = new} {after = after} does grown within honest silent others = record {
        past = record { before = w; step = step; event = event; after = new } ∷ so_far.past;
        history = next step event so_far.history (still_step is_honest is_silent before now so_far.honest so_far.silent w step event new does);
        steps_are = done_more so_far.past so_far.steps_are;
        events_are = grown ∙ ap (λ l. l ++ event ∷ []) so_far.events_are ∙ sym (reverse_more event (map (λ (line : Line). line.event) so_far.past));
        within = within;
        honest = still_on is_honest before now after so_far.honest honest;
        silent = still_on is_silent before now after so_far.silent silent;
        came = came_on event new does;
        others = λ k none. others k (λ same. none (rw same (came_more w.member so_far.came))) ∙ so_far.others k (λ h. none (came_more k h));
      }

      -- memory stops it in a step
      pub stops_in : {new : State} → Stops w step new → StopsAfter (members is_honest is_silent before) old steps new
      stops_in {new = new} (undone at) = before_step new (inl at)
      stops_in {new = new} (wanting wants) = before_step new (inr (record { step = step; more = drop (i + 1) steps; first = drop_more steps i default lt; wants = wants }))
      stops_in {new = new} (untold event world2 does at) = record {
        past = record { before = w; step = step; event = event; after = world2 } ∷ so_far.past;
        rest = drop (i + 1) steps;
        last = world2;
        history = next step event so_far.history (resolves does);
        steps_are = sym (take-append-drop (i + 1) steps) ∙ ap (λ l. l ++ drop (i + 1) steps) (done_more so_far.past so_far.steps_are);
        state_is = inl at;
      }
