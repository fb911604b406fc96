-- The lookups of a Map-Resolver end truly where registers replace each other meanwhile.
use Rattle.std.proofs.Common.{◌≡◌, ℕ, ◌≤◌, List, [], Some, None, Result, Ok, Err, refl, arith}
use Rattle.std.specs.FinMap.{get}
use Rattle.std.proofs.lemmas.List.Elements.{All-nil}
use Rattle.ddt_path.specs.declared.locator.Locator.{Locator}
use Rattle.ddt_path.specs.declared.record.Outcome.{Outcome}
use Rattle.ddt_path.specs.Path.{xeid_path}
use Rattle.ddt_register.specs.declared.register.Register.{Register}
use Rattle.ddt_check.specs.Rules.{IsAccepted}
use Rattle.ddt_check.specs.laws.Statements.{FinalAnswersAreTheAssignment}
use Rattle.ddt_cache.specs.Moment.{last_moment}
use Rattle.ddt_sockets.specs.declared.wire_calls.Call.{Call}
use Rattle.ddt_wire.specs.laws.Statements.{RecordsComeBack}
use Rattle.ddt_resolver.specs.declared.itr_messages.ItrRequest.{ItrRequest}
use Rattle.ddt_resolver.specs.declared.pending.Pending.{Pending}
use Rattle.ddt_resolver.specs.declared.results.Why.{Why}
use Rattle.ddt_resolver.specs.declared.step.Reply.{Reply}
use Rattle.ddt_resolver.specs.declared.step.Progress.TheVariants.{Ends}
use Rattle.ddt_resolver.specs.Order.{IsStateInOrder}
use Rattle.ddt_resolver.specs.State.{State, moved}
use Rattle.ddt_resolver.specs.Step.{ResolverCall, Ask, Hear, Tick, progress_of}
use Rattle.ddt_loop.specs.declared.packet_outcome.Ended.{Ended as End}
use Rattle.ddt_loop.specs.declared.requester.Requester.TheVariants.{Itr}
use Rattle.ddt_loop.specs.declared.requester.WaitingRequester.{WaitingRequester}
use Rattle.ddt_loop.specs.Requesters.{opening_desk, TakesOff}
use Rattle.ddt_loop.specs.Acts.{Running, running}
use Rattle.ddt_loop.specs.Ends.{EndsBy, EndsByHaste}
use Rattle.ddt_daemon.specs.Resolving.{Resolving}
use Rattle.ddt_daemon.specs.Runs.{HasServed, begins, round, tick, hastening, resending, forgetting, waiting, renewal}
use Rattle.ddt_laws.specs.ReplacedEnds.{AreRepliesSince, begun_at, WasTrue, EndWasTrue, EndsWereTrue, WentToAssigned, RequestsWereAssigned, IsAtRest, LookupsEndTruly}
use Rattle.ddt_laws.proofs.ShapeLemmas.{Shape, of_step, of_haste}
use Rattle.ddt_laws.proofs.PositiveEndsLemmas.ForLemmas.{IsFor, IsOwnOf, of_taken}
use Rattle.ddt_laws.proofs.PositiveEndsLemmas.WaitLemmas.{Waits, waits_first, wait_moved}
use Rattle.ddt_laws.proofs.PositiveEndsLemmas.ChangeLemmas.{IsAsk, change_in, change_hears, change_hastens}
use Rattle.ddt_laws.proofs.PositiveEndsLemmas.CloseLemmas.{IsKept, EndsWell, finished_well, AllGo, followed, none_go, go_registered}
use Rattle.ddt_laws.proofs.PositiveEndsLemmas.EndLemmas.{was_pending}
use Rattle.ddt_laws.proofs.PositiveEndsLemmas.RoundLemmas.{Keeps, keeps_forgot, keeps_moved, keeps_ticked, keeps_hastened, Changes, once, twice, round_on}
use Rattle.ddt_laws.proofs.ReplacedEndsLemmas.SaidLemmas.{Told, heard_told}
use Rattle.ddt_laws.proofs.ReplacedEndsLemmas.GoLemmas.{WasAssignedBy, was_assigned}
use Rattle.ddt_laws.proofs.ReplacedEndsLemmas.SinceLemmas.{Since, since_first, begun_on, since_longer, since_moved, since_on, since_twice, end_step, end_haste}

module _ (back : RecordsComeBack) (in_force : ℕ → Register) (accepted : (at : ℕ) → IsAccepted (in_force at)) (decided : (at : ℕ) → FinalAnswersAreTheAssignment (in_force at)) where
  -- ---- an end

  module _ {begun : ℕ → ℕ} {w : Running} (h : Waits w) (j : Since in_force begun w.state) (now : ℕ) (le : now ≤ last_moment) where
    abbrev s : State
    s = moved now w.state

    abbrev o : IsStateInOrder s
    o = (wait_moved h now le).waits.order

    -- the outcome was true of the identifier of a request, since its lookup began
    abbrev Good : ℕ → Result Outcome Why → ItrRequest → Type 0
    Good t end q = EndWasTrue in_force (begun t) s.known.time end q

    good_for : (t : ℕ) (end : Result Outcome Why) (l : Pending) → get w.state.pending t ≡ Some l
        → ((out : Outcome) → end ≡ Ok out → WasTrue in_force (begun t) s.known.time (xeid_path l.x) out) → (q : ItrRequest) → IsFor w.state t q.xeid → Good t end q
    good_for t (Ok out) l here was q own = let same : l.x ≡ q.xeid = own.same l here in rw same at (was out refl)
    good_for t (Err why) l here was q own = tt

    well : {a : Reply} {new : State} (e : End) (after : List WaitingRequester) (q : ItrRequest) → Shape s new a → progress_of a ≡ Ends e.ticket e.end
        → ((l : Pending) → get w.state.pending e.ticket ≡ Some l → (out : Outcome) → e.end ≡ Ok out → WasTrue in_force (begun e.ticket) s.known.time (xeid_path l.x) out)
        → TakesOff e.ticket w.desk.waiting after (Some (Itr q)) → EndsWell Good w.state e q
    well e after q shape ends was takes =
        let l = was_pending shape ends in
        let others = good_for e.ticket e.end l.0 l.1 (was l.0 l.1) in
        record { first = others q (of_taken takes (IsOwnOf w.state) h.asked_for); others = others }

    ends_truly : {call : ResolverCall} {new : State} {after : List WaitingRequester} (e : End) → Told in_force s call → (by_ : EndsBy call s new w.desk.waiting after e)
        → EndsWell Good w.state e by_.request
    ends_truly {call} {new} {after} e told by_ =
        well e after by_.request (of_step o by_.step).shape by_.ends
        (λ l here out is. end_step o (since_moved w.state now j) decided e.ticket out l here call new by_.reply told by_.step (rw is at by_.ends)) by_.takes

    ends_hastily : {nonce : ℕ} {new : State} {after : List WaitingRequester} (e : End) → (by_ : EndsByHaste nonce s new w.desk.waiting after e) → EndsWell Good w.state e by_.request
    ends_hastily {nonce} {new} {after} e by_ =
        well e after by_.request (of_haste o by_.step).shape by_.ends
        (λ l here out is. end_haste o (since_moved w.state now j) decided e.ticket out l here nonce new by_.ticked by_.step (rw is at by_.ends)) by_.takes

    -- a request goes on to one of the servers that were assigned of late
    goes_truly : (me from : Locator) (heard : List ℕ) {new : State} {after : List WaitingRequester} (e : End) → Told in_force s (Hear from heard) → EndsBy (Hear from heard) s new w.desk.waiting after e
        → AllGo me w.state (WentToAssigned in_force me s.known.time) (Some from) e
    goes_truly me from heard {new} e told by_ = go_registered me w.state (WentToAssigned in_force me s.known.time) from e (λ p servers same k asks_it own answer.
        let l = was_pending (of_step o by_.step).shape by_.ends in
        let was = was_assigned in_force accepted decided s o from heard told e.ticket p servers l.0 l.1 new by_.reply by_.step (rw same at by_.ends) in
        let own_x : l.0.x ≡ k.request.xeid = own.same l.0 l.1 in
        let found : WasAssignedBy in_force s.known.time (xeid_path k.request.xeid) servers from = rw own_x at was in
        record {
          onward = record {
            to = from;
            request = k.request;
            bytes = k.bytes;
            answer = answer;
            asks = asks_it;
            is = refl;
          };
          moment = found.moment;
          before = found.before;
          of_late = found.of_late;
          prefix = found.prefix;
          servers = servers;
          registered = found.is.registered;
          among_them = found.is.among_them;
        })

  -- ---- a run

  told_ask : (s : State) (call : ResolverCall) → IsAsk call → Told in_force s call
  told_ask s (Ask x) is = tt
  told_ask s (Hear source bytes) is = absurd is
  told_ask s Tick is = absurd is

  changed : {begun : ℕ → ℕ} {s new : State} {me : Locator} {near : List Call} (now : ℕ) → now ≤ last_moment → IsStateInOrder s → Since in_force begun s
      → Changes me now (Told in_force (moved now s)) s new near → Since in_force (begun_on begun s (moved now s).known.time) new
  changed now le o j (once c) = since_on decided now le o j c
  changed {s = s} now le o j (twice c) = since_twice decided now le o j (change_in (told_ask (moved now (moved now s))) (λ call k. k) c)

  module _ {me : Locator} {start : Resolving} where
    run_on : {calls onward : List Call} {w : Resolving} → Keeps start → Since in_force (λ t. 0) start.running.state → (run : HasServed IsAtRest me start calls onward w) → AreRepliesSince in_force me run
        → Keeps w × Since in_force (begun_at run) w.running.state × EndsWereTrue in_force run × RequestsWereAssigned in_force me run
    run_on keeps since begins fair = (keeps, since, tt, tt)
    run_on keeps since (round {w = v} settings now near far new so_far le is) fair =
        let a = run_on keeps since so_far fair.0 in
        let o = a.0.waits.order in
        let d = round_on a.0 now le me (Told in_force (moved now v.running.state)) (λ x. tt) (λ t end q. EndWasTrue in_force (begun_at so_far t) (moved now v.running.state).known.time end q)
        (WentToAssigned in_force me (moved now v.running.state).known.time)
        (λ p heard got e told by_. ends_truly a.0.waits a.1 now le e told by_.ends) (λ p heard got e told by_. goes_truly a.0.waits a.1 now le me p.from heard e told by_.ends)
        settings near far new (λ p bytes rest came. heard_told back in_force now v.running.state o p bytes rest fair.1 came) is in
        (d.keeps, changed now le o a.1 d.changes, (a.2, d.ends), (a.3, d.onward))
    run_on keeps since (tick {w = v} now near far new so_far le is) fair =
        let a = run_on keeps since so_far fair in
        let c = change_hears (Told in_force (moved now v.running.state)) tt is.resolves in (
          keeps_ticked a.0 now le me near far new is,
          since_on decided now le a.0.waits.order a.1 c,
          (
            a.2,
            finished_well (λ t end q. EndWasTrue in_force (begun_at so_far t) (moved now v.running.state).known.time end q) (λ e by_. by_.request) v.kept is.ended is.ends
                (λ e by_. ends_truly a.0.waits a.1 now le e tt by_) a.0.kept,
          ),
          (
            a.3,
            followed me v.running.state (WentToAssigned in_force me (moved now v.running.state).known.time) None is.ended v.kept is.tells far new.kept is.follows is.ends
                (λ e by_. none_go me v.running.state (WentToAssigned in_force me (moved now v.running.state).known.time) e) a.0.kept,
          ),
        )
    run_on keeps since (hastening {w = v} now nonce near far new so_far le is) fair =
        let a = run_on keeps since so_far fair in
        let c = change_hastens (Told in_force (moved now v.running.state)) is.hastens in (
          keeps_hastened a.0 now le me nonce near far new is,
          since_on decided now le a.0.waits.order a.1 c,
          (
            a.2,
            finished_well (λ t end q. EndWasTrue in_force (begun_at so_far t) (moved now v.running.state).known.time end q) (λ e by_. by_.request) v.kept is.ended is.ends
                (λ e by_. ends_hastily a.0.waits a.1 now le e by_) a.0.kept,
          ),
          (
            a.3,
            followed me v.running.state (WentToAssigned in_force me (moved now v.running.state).known.time) None is.ended v.kept is.tells far new.kept is.follows is.ends
                (λ e by_. none_go me v.running.state (WentToAssigned in_force me (moved now v.running.state).known.time) e) a.0.kept,
          ),
        )
    run_on keeps since (resending nonce near so_far is) fair = run_on keeps since so_far fair
    run_on keeps since (forgetting {w = v} p so_far) fair =
        let a = run_on keeps since so_far fair in
        (keeps_forgot p a.0, since_longer refl (omega arith) a.1, a.2, a.3)
    run_on keeps since (waiting {w = v} now so_far le) fair =
        let a = run_on keeps since so_far fair in
        (keeps_moved a.0 now le, since_moved v.running.state now a.1, a.2, a.3)
    run_on keeps since (renewal new so_far may later) fair =
        let a = run_on keeps since so_far fair in (
          record { waits = waits_first (running new (opening_desk [])) may.order refl; kept = All-nil (IsKept new) },
          since_first new may.none_pending,
          a.2,
          a.3,
        )

pub ends_truly_meanwhile : RecordsComeBack → ((r : Register) → IsAccepted r → FinalAnswersAreTheAssignment r) → LookupsEndTruly
ends_truly_meanwhile back decided in_force me start calls onward w accepted b run fair =
    let keeps : Keeps start = record { waits = waits_first start.running b.at_rest.order b.nobody; kept = rw b.no_request (All-nil (IsKept start.running.state)) } in
    let a = run_on back in_force accepted (λ at. decided (in_force at) (accepted at)) keeps (since_first start.running.state b.at_rest.none_pending) run fair in
    (a.2, a.3)
