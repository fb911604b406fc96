-- Who waits at a resolver, from act to act: each for a lookup of what it asked for.
use Rattle.std.proofs.Common.{◌≡◌, ℕ, ◌≤◌, List, [], Option, Result, refl, ap, ◌∙◌}
use Rattle.std.specs.Prelude.{All}
use Rattle.std.proofs.lemmas.List.Elements.{All-nil, All-push}
use Rattle.ddt_path.specs.declared.locator.Locator.{Locator}
use Rattle.ddt_path.specs.declared.record.Outcome.{Outcome}
use Rattle.ddt_path.specs.declared.xeid.Xeid.{Xeid}
use Rattle.ddt_cache.specs.Moment.{last_moment}
use Rattle.ddt_sockets.specs.declared.wire_calls.Call.{Call}
use Rattle.ddt_sockets.specs.declared.wire_calls.Packet.{Packet}
use Rattle.ddt_resolver.specs.declared.itr_messages.ItrRequest.{ItrRequest}
use Rattle.ddt_resolver.specs.declared.results.Asked.TheVariants as asked_as
use Rattle.ddt_resolver.specs.declared.results.AskError.{AskError}
use Rattle.ddt_resolver.specs.declared.step.Reply.{Reply}
use Rattle.ddt_resolver.specs.Order.{IsStateInOrder}
use Rattle.ddt_resolver.specs.State.{State, moved, forgotten}
use Rattle.ddt_resolver.specs.Step.{ResolverCall, Ask, Step, progress_of}
use Rattle.ddt_resolver.specs.laws.Order.{order_moved, order_forgotten}
use Rattle.ddt_resolver.specs.laws.Shape.{moved_by_step}
use Rattle.ddt_loop.specs.declared.requester.Requester.{Requester}
use Rattle.ddt_loop.specs.declared.requester.Requester.TheVariants.{Identifier, Itr}
use Rattle.ddt_loop.specs.Requesters.{Desk, opening_desk, waiting_for}
use Rattle.ddt_loop.specs.Acts as acts
use Rattle.ddt_loop.specs.Acts.{Running, running, Asks, answered, refused, lacks_memory, AsksForItr, Proceeds, HearsOrTicks, Hastens}
use Rattle.ddt_loop.specs.Polls.{IsPacketTaken, asks, no_request, hears, other_port}
use Rattle.ddt_laws.proofs.ShapeLemmas.{IsAct, of_step, of_haste}
use Rattle.ddt_laws.proofs.PositiveEndsLemmas.ForLemmas.{IsFor, for_on, IsOwn, IsOwnOf, Carries, all_own, left_waiting, started_for}

-- a resolver in order, at which the lookup of each ITR that waits is for what it asked for
pub record Waits (w : Running) : Type 0 where
  pub order : IsStateInOrder w.state
  pub asked_for : All (IsOwnOf w.state) w.desk.waiting

-- so it is after an act, and each lookup that goes on is for the same identifier
pub record WaitsOn (w new : Running) : Type 0 where
  pub waits : Waits new
  pub carries : Carries w.state new.state

-- nobody waits yet
pub waits_first : (w : Running) → IsStateInOrder w.state → w.desk ≡ opening_desk [] → Waits w
waits_first w order nobody = record { order = order; asked_for = rw nobody (All-nil (IsOwnOf w.state)) }

wait_act : {s new : State} {a : Reply} {d : Desk} → Waits (running s d) → (me : Locator) (after : Desk) (tries : List Call) → Proceeds me d (progress_of a) tries after → IsAct s new a
    → WaitsOn (running s d) (running new after)
wait_act {s} {new} {a} {d} h me after tries goes act =
    let carries : Carries s new = for_on act.shape in record {
      waits = record { order = act.order; asked_for = all_own carries after.waiting (left_waiting (IsOwnOf s) me d (progress_of a) tries after goes h.asked_for) };
      carries = carries;
    }

for_moved : (s : State) (now : ℕ) → Carries s (moved now s)
for_moved s now t x h = record { given = h.given; same = h.same }

-- who asks for x
abbrev AsksOf : Requester → Xeid → Type 0
AsksOf (Identifier place) x = Unit {0}
AsksOf (Itr q) x = q.xeid ≡ x

own_asked : {s : State} {t : ℕ} {x : Xeid} (who : Requester) → AsksOf who x → IsFor s t x → IsOwn s t who
own_asked (Identifier place) asker h = tt
own_asked {s} {t} (Itr q) asker h = rw asker h

-- a prefix is forgotten
pub wait_forgot : {w : Running} (p : List ℕ) → Waits w → WaitsOn w (running (forgotten w.state p) w.desk)
wait_forgot {w} p h =
    let carries : Carries w.state (forgotten w.state p) = λ t x f. record { given = f.given; same = f.same } in
    record { waits = record { order = order_forgotten w.state p h.order; asked_for = all_own carries w.desk.waiting h.asked_for }; carries = carries }

module _ {w : Running} (h : Waits w) (now : ℕ) (le : now ≤ last_moment) where
  abbrev s : State
  s = moved now w.state

  pub wait_moved : WaitsOn w (running s w.desk)
  wait_moved = record {
    waits = record { order = order_moved w.state now le h.order; asked_for = all_own (for_moved w.state now) w.desk.waiting h.asked_for };
    carries = for_moved w.state now;
  }

  -- nothing changes but the time
  still : (new : Running) → new.state ≡ s → new.desk ≡ w.desk → WaitsOn w new
  still new state desk =
      let same : new ≡ running s w.desk = ap (λ (z : State). running z new.desk) state ∙ ap (running s) desk in
      rw same wait_moved

  stay : (new : Running) → new ≡ w → WaitsOn w new
  stay new same = rw same (record { waits = h; carries = λ t x f. f })

  by_act : (me : Locator) {new : State} {a : Reply} → IsAct s new a → (after : Desk) (tries : List Call) → Proceeds me w.desk (progress_of a) tries after → WaitsOn w (running new after)
  by_act me act after tries goes =
      let a = wait_act wait_moved.waits me after tries goes act in
      record { waits = a.waits; carries = λ t x f. a.carries t x (for_moved w.state now t x f) }

  by_step : (me : Locator) {call : ResolverCall} {new : State} {a : Reply} → Step s call new a → (after : Desk) (tries : List Call) → Proceeds me w.desk (progress_of a) tries after → WaitsOn w (running new after)
  by_step me step = by_act me (of_step wait_moved.waits.order step)

  pub wait_hears : {me : Locator} {call : ResolverCall} {tries : List Call} {new : Running} → HearsOrTicks me now call w tries new → WaitsOn w new
  wait_hears {me} {tries = tries} {new = new} (acts.does reply step goes) = by_step me step new.desk tries goes
  wait_hears {new = new} (acts.fails wants state desk none) = still new state desk

  pub wait_hastens : {me : Locator} {nonce : ℕ} {tries : List Call} {new : Running} → Hastens me now nonce w tries new → WaitsOn w new
  wait_hastens {me} {tries = tries} {new = new} (acts.does ticked step goes) = by_act me (of_haste wait_moved.waits.order step) new.desk tries goes
  wait_hastens {new = new} (acts.fails wants state desk none) = still new state desk

  wait_asks : {me : Locator} {x : Xeid} {who : Requester} {answer : Result (Option Outcome) AskError} {tries : List Call} {new : Running} → AsksOf who x → Asks me now x who w answer tries new → WaitsOn w new
  wait_asks {me} {tries = tries} {new = new} asker (answered (asked_as.Answer o) step starting is) = by_step me step new.desk tries starting
  wait_asks {me} {x} {who} {tries = tries} {new = new} asker (answered (asked_as.Sent t d) step starting is) =
      let a = by_step me step w.desk tries (starting.0, refl) in
      let own = own_asked who asker (started_for (moved_by_step s wait_moved.waits.order (Ask x) new.state _ step).move) in
      record {
        waits = record {
          order = a.waits.order;
          asked_for = rw starting.1 (All-push (IsOwnOf new.state) w.desk.waiting (waiting_for t who) a.waits.asked_for own);
        };
        carries = a.carries;
      }
  wait_asks {me} {tries = tries} {new = new} asker (refused why step desk none is) = by_step me step new.desk tries (none, desk)
  wait_asks {new = new} asker (lacks_memory wants state desk none is) = still new state desk

  pub wait_for_itr : {me : Locator} {q : ItrRequest} {tries : List Call} {new : Running} → AsksForItr me now q w tries new → WaitsOn w new
  wait_for_itr act = wait_asks refl act.asks

  pub wait_taken : {me : Locator} {p : Packet} {heard : List ℕ} {tries : List Call} {new : Running} → IsPacketTaken me now p heard w tries new → WaitsOn w new
  wait_taken (asks encapsulated q is act) = wait_for_itr act
  wait_taken {new = new} (no_request encapsulated not none same) = stay new same
  wait_taken (hears plain port act) = wait_hears act
  wait_taken {new = new} (other_port plain port none same) = stay new same
