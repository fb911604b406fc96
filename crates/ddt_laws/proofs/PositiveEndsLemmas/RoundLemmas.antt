-- What a round of a Map-Resolver does: who waits after it, how the resolver changes, which lookups end, and what goes on.
use Rattle.std.proofs.Common.{◌≡◌, ℕ, ◌≤◌, List, [], ◌∷◌, ◌++◌, Option, Some, None, Result, Ok, refl, ap, inl, inr}
use Rattle.std.specs.Prelude.{All}
use Rattle.std.proofs.lemmas.List.Elements.{All-nil, All-push, All-contains, Contains-push, Contains-append_left, Contains-append_right}
use Rattle.ddt_path.specs.declared.locator.Locator.{Locator}
use Rattle.ddt_path.specs.declared.record.Outcome.{Outcome}
use Rattle.ddt_path.specs.declared.xeid.Xeid.{Xeid}
use Rattle.ddt_cache.specs.Moment.{last_moment}
use Rattle.ddt_config.specs.declared.settings.resolver_settings.Settings.{Settings}
use Rattle.ddt_ecm.specs.UdpHeader.{control_port}
use Rattle.ddt_sockets.specs.declared.wire_calls.Call.{Call}
use Rattle.ddt_sockets.specs.declared.wire_calls.Packet.{Packet}
use Rattle.ddt_resolver.specs.declared.itr_messages.ItrRequest.{ItrRequest}
use Rattle.ddt_resolver.specs.declared.results.Why.{Why}
use Rattle.ddt_resolver.specs.State.{State, moved, forgotten}
use Rattle.ddt_resolver.specs.Step.{ResolverCall, Ask, Hear}
use Rattle.ddt_resolver.specs.Within.{IsCut}
use Rattle.ddt_loop.specs.declared.packet_outcome.Ended.{Ended as End}
use Rattle.ddt_loop.specs.declared.requester.Requester.TheVariants.{Itr}
use Rattle.ddt_loop.specs.declared.requester.WaitingRequester.{WaitingRequester}
use Rattle.ddt_loop.specs.Requesters.{Desk, waiting_for}
use Rattle.ddt_loop.specs.Acts.{Running, running}
use Rattle.ddt_loop.specs.Runs.{heard_of, EndsByReply}
use Rattle.ddt_loop.specs.Sharing.{IsAskedBy}
use Rattle.ddt_loop.specs.Polls.{polled}
use Rattle.ddt_daemon.specs.declared.counts.ResolverCounts.{ResolverCounts}
use Rattle.ddt_daemon.specs.declared.itr_requests.WaitingRequest.{WaitingRequest}
use Rattle.ddt_daemon.specs.declared.recent_requests.Recent.{Recent}
use Rattle.ddt_daemon.specs.Requests.{AsksFor}
use Rattle.ddt_daemon.specs.Resolving.{Resolving, resolving, at_moment}
use Rattle.ddt_daemon.specs.Rounds as rounds
use Rattle.ddt_daemon.specs.Rounds.{HasWaited, WaitsAs, KeepsAsked, at_once, waits, HearsReply, IsHeard, IsHandled, IsRound, no_packet, failed, came, IsTick, IsHastened}
use Rattle.ddt_daemon.specs.Spelled.{IsSpelledAs}
use Rattle.ddt_laws.specs.PositiveEnds.{Finished, finished, ended_by_datagram, ended_by_packet, ended_in_round}
use Rattle.ddt_laws.proofs.PositiveEndsLemmas.ForLemmas.{IsFor, IsOwnOf}
use Rattle.ddt_laws.proofs.PositiveEndsLemmas.WaitLemmas.{Waits, WaitsOn, wait_moved, wait_forgot, wait_hears, wait_hastens, wait_for_itr, wait_taken}
use Rattle.ddt_laws.proofs.PositiveEndsLemmas.ChangeLemmas.{Change, same, later, change_in, IsAsk, change_for_itr, change_taken}
use Rattle.ddt_laws.proofs.PositiveEndsLemmas.CloseLemmas.{IsKept, all_kept, OfAll, EndsWell, finished_well, kept_followed, AllGo, followed}

-- ---- who waits

-- what holds of the resolver, and of the requests that wait
pub record Keeps (w : Resolving) : Type 0 where
  pub waits : Waits w.running
  pub kept : All (IsKept w.running.state) w.kept

kept_as : {begun : _} {from : Locator} {bytes : List ℕ} {q : ItrRequest} {k : WaitingRequest} {v : State} → WaitsAs begun from bytes q k → AsksFor bytes q → IsFor v k.ticket q.xeid → IsKept v k
kept_as as_it asks_it own = record { asks = rw (as_it.bytes_are, as_it.request) asks_it; lookup = rw as_it.request own }

-- the last one that waits
last_own : {v : Running} (d : List WaitingRequester) (t : ℕ) (q : ItrRequest) → Waits v → v.desk.waiting ≡ d ++ waiting_for t (Itr q) ∷ [] → IsFor v.state t q.xeid
last_own {v} d t q h is =
    All-contains (IsOwnOf v.state) (d ++ waiting_for t (Itr q) ∷ []) (waiting_for t (Itr q)) (rw is at h.asked_for) (Contains-push d (waiting_for t (Itr q)))

pub keeps_forgot : {w : Resolving} (p : List ℕ) → Keeps w → Keeps (resolving (running (forgotten w.running.state p) w.running.desk) w.kept w.counts w.recent)
keeps_forgot {w} p h = let a = wait_forgot p h.waits in record { waits = a.waits; kept = all_kept a.carries w.kept h.kept }

module _ {w : Resolving} (h : Keeps w) (now : ℕ) (le : now ≤ last_moment) where
  pub keeps_moved : {c : ResolverCounts} {r : List (Option Recent)} → Keeps (resolving (at_moment now w.running) w.kept c r)
  keeps_moved = let a = wait_moved h.waits now le in record { waits = a.waits; kept = all_kept a.carries w.kept h.kept }

  keeps_waited : {v : Running} (c : ResolverCounts) (r : List (Option Recent)) → HasWaited now w.running v → Keeps (resolving v w.kept c r)
  keeps_waited c r (inl is) = rw is (record { waits = h.waits; kept = h.kept })
  keeps_waited c r (inr is) = rw is (keeps_moved {c = c} {r = r})

  -- a request that shares a lookup waits for one of the same identifier
  shares_own : (k : WaitingRequest) (q : ItrRequest) → IsAskedBy w.running.desk.waiting k.ticket q.xeid → IsFor (moved now w.running.state) k.ticket q.xeid
  shares_own k q asked_by =
      let own : IsFor (moved now w.running.state) k.ticket asked_by.0.xeid =
      All-contains (IsOwnOf (moved now w.running.state)) w.running.desk.waiting (waiting_for k.ticket (Itr asked_by.0)) (wait_moved h.waits now le).waits.asked_for asked_by.1 in
      rw asked_by.2 at own

  keeps_asked : (from : Locator) (bytes : List ℕ) (servers : List Locator) (q : ItrRequest) (r : List (Option Recent)) (new : Resolving) → AsksFor bytes q → WaitsOn (at_moment now w.running) new.running
      → KeepsAsked servers from bytes q (resolving (at_moment now w.running) w.kept w.counts r) new → Keeps new
  keeps_asked from bytes servers q r new asks_it a (at_once desk kept counts recent) = record { waits = a.waits; kept = rw kept (all_kept a.carries w.kept (keeps_moved {c = w.counts} {r = r}).kept) }
  keeps_asked from bytes servers q r new asks_it a (waits k as_it desk kept counts recent) =
      let own : IsFor new.running.state k.ticket q.xeid = last_own w.running.desk.waiting k.ticket q a.waits (ap (λ (d : Desk). d.waiting) desk) in
      record {
        waits = a.waits;
        kept = rw kept (All-push (IsKept new.running.state) w.kept k (all_kept a.carries w.kept (keeps_moved {c = w.counts} {r = r}).kept) (kept_as as_it asks_it own));
      }

  module _ (me : Locator) where
    keeps_replied : (p : Packet) (heard : List ℕ) (near far : List Call) (new : Resolving) → HearsReply me now p heard w near far new → Keeps new
    keeps_replied p heard near far new is =
        let a = wait_taken h.waits now le is.taken in
        record { waits = a.waits; kept = all_kept a.carries new.kept (kept_followed me (Some p.from) is.ended w.kept is.tells far new.kept is.follows h.kept) }

    pub keeps_ticked : (near far : List Call) (new : Resolving) → IsTick me now w near far new → Keeps new
    keeps_ticked near far new is =
        let a = wait_hears h.waits now le is.resolves in
        record { waits = a.waits; kept = all_kept a.carries new.kept (kept_followed me None is.ended w.kept is.tells far new.kept is.follows h.kept) }

    pub keeps_hastened : (nonce : ℕ) (near far : List Call) (new : Resolving) → IsHastened me now nonce w near far new → Keeps new
    keeps_hastened nonce near far new is =
        let a = wait_hastens h.waits now le is.hastens in
        record { waits = a.waits; kept = all_kept a.carries new.kept (kept_followed me None is.ended w.kept is.tells far new.kept is.follows h.kept) }

-- ---- a round

-- the change of a round: one, or an ask once time has passed
pub data Changes (me : Locator) (now : ℕ) (holds : ResolverCall → Type 0) (s new : State) (near : List Call) : Type 0 where
  once : Change me now holds s new near → Changes me now holds s new near
  twice : Change me now IsAsk (moved now s) new near → Changes me now holds s new near

-- what is done, where something holds of all that is heard: who waits, how the resolver changes, what holds of the
-- lookups that have ended, and of the calls by which requests go on
pub record IsDone (me : Locator) (now : ℕ) (holds : ResolverCall → Type 0) (Good : ℕ → Result Outcome Why → ItrRequest → Type 0) (Goes : Call → Type 0) (w : Resolving) (near far : List Call)
    (ended : List Finished) (new : Resolving) : Type 0 where
  pub keeps : Keeps new
  pub changes : Changes me now holds w.running.state new.running.state near
  pub ends : All (OfAll Good) ended
  pub onward : All Goes far

-- it holds of what is heard in the place of a datagram: of the whole, and of what it is cut to
pub record HeardWell (holds : ResolverCall → Type 0) (s : State) (p : Packet) (bytes : List ℕ) : Type 0 where
  pub whole : (plain : Option (List ℕ)) → p.port ≡ control_port → IsSpelledAs s bytes plain → holds (Hear p.from (heard_of bytes plain))
  pub cut : (plain : Option (List ℕ)) (heard : List ℕ) → p.port ≡ control_port → IsSpelledAs s bytes plain → IsCut s p.from (heard_of bytes plain) (Some heard) → holds (Hear p.from heard)

module _ {w : Resolving} (h : Keeps w) (now : ℕ) (le : now ≤ last_moment) (me : Locator) (holds : ResolverCall → Type 0) (asked : (x : Xeid) → holds (Ask x))
    (Good : ℕ → Result Outcome Why → ItrRequest → Type 0) (Goes : Call → Type 0)
    (well : (p : Packet) (heard : List ℕ) (new : Running) (e : End) → holds (Hear p.from heard) → (by_ : EndsByReply now p heard w.running new e) → EndsWell Good w.running.state e by_.ends.request)
    (go : (p : Packet) (heard : List ℕ) (new : Running) (e : End) → holds (Hear p.from heard) → EndsByReply now p heard w.running new e → AllGo me w.running.state Goes (Some p.from) e) where
  abbrev Done : List Call → List Call → List Finished → Resolving → Type 0
  Done near far ended new = IsDone me now holds Good Goes w near far ended new

  -- nothing has ended, and nothing goes on
  quietly : {near far : List Call} {new : Resolving} → far ≡ [] → Keeps new → Changes me now holds w.running.state new.running.state near → Done near far [] new
  quietly off keeps changes = record { keeps = keeps; changes = changes; ends = All-nil (OfAll Good); onward = rw off (All-nil Goes) }

  replied : (c : ResolverCounts) (p : Packet) (heard : List ℕ) (near far : List Call) (new : Resolving) → holds (Hear p.from heard) → (is : HearsReply me now p heard (record w { counts = c }) near far new)
      → Done near far (finished (λ e by_. by_.ends.request) w.kept is.ended is.ends) new
  replied c p heard near far new fair is = record {
    keeps = keeps_replied (record { waits = h.waits; kept = h.kept }) now le me p heard near far new is;
    changes = once (rw is.calls_are (change_in (λ call is. is) (λ call k. Contains-append_left is.tries is.tells call k) (change_taken holds asked fair is.taken)));
    ends = finished_well Good (λ e by_. by_.ends.request) w.kept is.ended is.ends (λ e by_. well p heard new.running e fair by_) h.kept;
    onward = followed me w.running.state Goes (Some p.from) is.ended w.kept is.tells far new.kept is.follows is.ends (λ e by_. go p heard new.running e fair by_) h.kept;
  }

  module _ (p : Packet) (bytes : List ℕ) (all : HeardWell holds w.running.state p bytes) where
    heard_on : (near far : List Call) (new : Resolving) → (is : IsHeard me now p bytes w near far new) → Done near far (ended_by_datagram is) new
    heard_on near far new (rounds.other_port port none off is) = quietly off (rw is h) (once (same (rw is refl)))
    heard_on near far new (rounds.lost_whole t l port its given none off is) = quietly off (rw is h) (once (same (rw is refl)))
    heard_on near far new (rounds.spelled plain port spelled (rounds.lost wide none off is)) = quietly off (rw is h) (once (same (rw is refl)))
    heard_on near far new (rounds.spelled plain port spelled (rounds.whole cuts is)) = replied w.counts p (heard_of bytes plain) near far new (all.whole plain port spelled) is
    heard_on near far new (rounds.spelled plain port spelled (rounds.cut heard cuts is)) = replied _ p heard near far new (all.cut plain heard port spelled cuts) is

    waited : {v : Running} {near : List Call} → HasWaited now w.running v → Changes me now holds w.running.state v.state near
    waited (inl is) = once (same (rw is refl))
    waited (inr is) = once (later (rw is refl))

    handled_on : (settings : Settings) (near far : List Call) (new : Resolving) → (is : IsHandled settings me now p bytes w near far new) → Done near far (ended_by_packet is) new
    handled_on settings near far new (rounds.dropped why v sort is passes none off stays) = rw stays (quietly off (keeps_waited h now le _ _ passes) (waited passes))
    handled_on settings near far new (rounds.answered q o sort admitted its tells off stays) = rw stays (quietly off (keeps_moved h now le) (once (later refl)))
    handled_on settings near far new (rounds.shared q k recent sort admitted as_it own is_new none off stays) =
        let m = keeps_moved h now le {c = w.counts} {r = recent} in
        rw stays (quietly off (record { waits = m.waits; kept = All-push (IsKept (moved now w.running.state)) w.kept k m.kept (kept_as as_it (settings.listen, admitted.may.asks) (shares_own h now le k q own.1)) })
        (once (later refl)))
    handled_on settings near far new (rounds.asked q servers recent sort admitted placed is_new act off keeps) =
        let m = keeps_moved h now le {c = w.counts} {r = recent} in
        quietly off (keeps_asked h now le p.from bytes servers q recent new (settings.listen, admitted.may.asks) (wait_for_itr m.waits now le act) keeps)
        (twice (change_for_itr IsAsk (λ x. tt) act))
    handled_on settings near far new (rounds.heard sort is) = heard_on near far new is

  changes_in : {new : State} (packet : Call) (tries : List Call) → Changes me now holds w.running.state new tries → Changes me now holds w.running.state new (packet ∷ tries)
  changes_in packet tries (once c) = once (change_in (λ call is. is) (λ call k. Contains-append_right (packet ∷ []) tries call k) c)
  changes_in packet tries (twice c) = twice (change_in (λ call is. is) (λ call k. Contains-append_right (packet ∷ []) tries call k) c)

  pub round_on : (settings : Settings) (near far : List Call) (new : Resolving)
      → ((p : Packet) (bytes : List ℕ) (rest : List Call) → near ≡ polled me (Ok (Some p)) bytes ∷ rest → HeardWell holds w.running.state p bytes)
      → (is : IsRound settings me now w near far new) → Done near far (ended_in_round is) new
  round_on settings near far new all (no_packet none off is) = quietly off (rw is h) (once (same (rw is refl)))
  round_on settings near far new all (failed fault none off is) = quietly off (rw is h) (once (same (rw is refl)))
  round_on settings near far new all (came p bytes tries is handled) =
      let a = handled_on p bytes (all p bytes tries is) settings tries far new handled in
      rw is (record { keeps = a.keeps; changes = changes_in (polled me (Ok (Some p)) bytes) tries a.changes; ends = a.ends; onward = a.onward })
