-- One request of a lookup and what comes back, and the lookup that follows replies until it ends.
use Rattle.std.proofs.Common.{◌≡◌, ℕ, ◌<◌, ◌≤◌, ◌^◌, true, List, [], ◌∷◌, ◌++◌, Option, Some, None, Result, Ok, Err, inl, inr, refl, ap, subst, ◌∙◌, arith, ◌+◌, length, length-append}
use Rattle.std.specs.Prelude.{IfOk, MatchOption}
use Rattle.std.proofs.lemmas.List.Elements.{All-push, All-nil}
use Rattle.std.specs.declared.alloc.AllocError.{AllocError}
use Rattle.ddt_path.specs.declared.xeid.Xeid.{Xeid}
use Rattle.ddt_path.specs.Path.{xeid_path}
use Rattle.ddt_register.specs.declared.register.Register.{Register}
use Rattle.ddt_check.specs.Assignment.{assignment}
use Rattle.ddt_check.specs.Says.{says}
use Rattle.ddt_wire.specs.Referral.{Spells, message_of}
use Rattle.ddt_ecm.specs.Request.{Message}
use Rattle.ddt_ecm.specs.laws.Statements.{WrittenSpells, message_of as message_of_request}
use Rattle.ddt_node.specs.Server.{IsDdtRequest}
use Rattle.ddt_resolver.specs.declared.results.Outgoing.{Outgoing}
use Rattle.ddt_resolver.specs.declared.results.Heard.{Heard}
use Rattle.ddt_resolver.specs.declared.results.Heard.TheVariants as heard
use Rattle.ddt_resolver.specs.declared.results.Why.{Why}
use Rattle.ddt_resolver.specs.State.{State, moved}
use Rattle.ddt_resolver.specs.declared.step.Reply.TheVariants.{ToDatagram}
use Rattle.ddt_resolver.specs.Step as steps
use Rattle.ddt_resolver.specs.Bound.{measure, ComesNearer}
use Rattle.ddt_resolver.specs.Act.{HearStep}
use Rattle.ddt_resolver.specs.Order.{IsStateInOrder}
use Rattle.ddt_resolver.specs.laws.Order.{order_moved}
use Rattle.ddt_cache.specs.Moment.{last_moment}
use Rattle.ddt_sim.specs.declared.lookup_result.Hop.{Hop}
use Rattle.ddt_sim.specs.declared.lookup_result.LookupError.{LookupError}
use Rattle.ddt_sim.specs.declared.lookup_result.LookupError.TheVariants.{GaveUp, Memory}
use Rattle.ddt_sim.specs.declared.exchange.LookupProgress.{LookupProgress}
use Rattle.ddt_sim.specs.declared.exchange.LookupProgress.TheVariants.{GoesOn, Ends}
use Rattle.ddt_sim.specs.Honest.{IsServer, IsHonestReply}
use Rattle.ddt_sim.specs.Sound.{IsSound, IsRightHeard, StepsKeepSoundness, TimeKeepsSoundness}
use Rattle.ddt_sim.specs.Waiting.{Waits, requests_left, left_after, IsAwaited}
use Rattle.ddt_sim.specs.Lookup.{IsNotFor, IsLookupTurn, TurnFails, gave_up, unanswered, not_taken, stopped, heard_of, hop_of, reply_or_failure, turn_or_failure, Reaches, followed, FailsUnder, HasOutcome, by_reply}
use Rattle.ddt_sim.specs.Headline.{IsUnderWay, IsHonestHop, IsRightTurn, IsRightFailure, IsRightlyTurned, WhileUnderWay, IsRightlyEnded}
use Rattle.ddt_sim.specs.Reply.{IsWellHeard, IsUnderstood}
use Rattle.std.specs.List.{All}
use Rattle.ddt_path.specs.declared.record.Outcome.{Outcome}
use Rattle.ddt_sim.proofs.ServerLemmas.{asks_a_server}
use Rattle.ddt_sim.proofs.WaitingLemmas.{does, waits_on, followed_waits, spelled_request, Follows, followed_me}
use Rattle.ddt_sim.proofs.ReplyLemmas.{IsFor, RepliesAreRead, honest_reply_is_fair, honest_reply_is_taken}

-- what is for a ticket is not for another
for_is_own : (t : ℕ) (h : Heard) → IsFor t h → IsNotFor t h → ⊥
for_is_own t (heard.Ignored why) own other = own
for_is_own t _ own other = other own

-- ---- the reply of an honest server

module _ (r : Register) (now : ℕ) (x : Xeid) (s : State) (t : ℕ) (d : Outgoing) (early : now ≤ last_moment) (o : IsStateInOrder s) (u : IsUnderWay r now x s t d)
    (keeps : StepsKeepSoundness) (time : TimeKeepsSoundness) (laws : RepliesAreRead r) (written : WrittenSpells) where
  order : IsStateInOrder (moved now s)
  order = order_moved s now early o

  abbrev w : Waits now x (moved now s) t d
  w = waits_on now x s t d u.waits

  module _ (reply : List ℕ) (spells : Spells reply (message_of w.lookup.nonce (says r d.to (xeid_path x)))) (new : State) (h : Heard) (step : HearStep (moved now s) d.to reply new h) where
    kept : IsSound r new × IsRightHeard r (moved now s) h
    kept = keeps r (moved now s) (steps.Hear d.to reply) new (ToDatagram h) u.accepted order (time r s now u.sound) (honest_reply_is_fair r laws order w reply spells) (steps.hears d.to reply h step refl refl)

    well : IsWellHeard r x s t d reply new h
    well = record {
      own = for_is_own t h (honest_reply_is_taken r laws order w reply spells step);
      sound = kept.0;
      outcome = λ v e. (rw e at kept.1) w.lookup w.is_pending ∙ ap (λ y. assignment r (xeid_path y)) w.its_x;
      why = λ v e. let gave = does (subst (HearStep (moved now s) d.to reply new) e step) in
          elim (rw e at kept.1) [ inl none ↦ absurd (gave.0 none) | inr over ↦ (over, gave.1 over) ];
      hop = (w.lookup.nonce, w.bytes, spells);
    }

  -- each request of a lookup under way is understood
  pub understood : IsUnderstood r now x s t d
  understood =
      let l = o.lookups t w.lookup w.is_pending in
      let few : w.lookup.nonce < 2 ^ 64 = let a = l.nonce in let b = o.next in omega arith in record {
        request = message_of_request w.lookup.nonce x (s.me ∷ []) true;
        server = rw w.to (asks_a_server r s.me w.lookup (u.sound.lookups t w.lookup w.is_pending) l.lookup.place);
        spelled = (rw w.bytes (spelled_request written w.lookup.nonce x s.me few u.fits), refl);
        heard = λ reply spells new h step. well reply spells new h step;
      }

-- ---- what a request and its reply make of a lookup

-- What came back for a request, from servers of which `honest` says for which registers they answer honestly, and what
-- the resolver's step made of it.
pub record IsReplyReceived (honest : Register → Type 0) (now : ℕ) (s : State) (d : Outgoing) (reply : List ℕ) (new : State) (h : Heard) : Type 0 where
  pub step : HearStep (moved now s) d.to reply new h
  pub said : (r : Register) (m : Message) → honest r → IsServer r d.to → IsDdtRequest d.bytes m → IsHonestReply r d.to m (Some reply)

answered : (P : Option (List ℕ) → Type 0) (answer : Result (Option (List ℕ)) AllocError) {reply : List ℕ} → Ok reply ≡ reply_or_failure answer → IfOk answer P → P (Some reply)
answered P (Ok (Some came)) {reply = reply} e is = let same : reply ≡ came = cc e in rw same is
answered P _ e is = absurd (cc e)

module _ (d : Outgoing) (answer : Result (Option (List ℕ)) AllocError) {honest : Register → Type 0} {sent : List ℕ} (same : sent ≡ d.bytes)
    (says : (r : Register) (m : Message) → honest r → IsServer r d.to → IsDdtRequest sent m → IfOk answer (IsHonestReply r d.to m)) where
  pub came_back : {now : ℕ} {s : State} {reply bytes : List ℕ} {new : State} {h : Heard} → Ok reply ≡ reply_or_failure answer → bytes ≡ reply → HearStep (moved now s) d.to bytes new h
      → IsReplyReceived honest now s d reply new h
  came_back {now = now} {s = s} {new = new} {h = h} came is step = record {
    step = subst (λ v. HearStep (moved now s) d.to v new h) is step;
    said = λ r m own server asked. answered (IsHonestReply r d.to m) answer came (says r m own server (rw same asked));
  }

  -- the reply of an honest server is there, if there is memory
  pub unreplied_well : {r : Register} {now : ℕ} {x : Xeid} {s : State} {t : ℕ} {hops : List Hop} {error : LookupError} → honest r → IsUnderWay r now x s t d → IsUnderstood r now x s t d
      → Err error ≡ reply_or_failure answer → IsRightlyTurned r x s.me hops (Err error) hops s
  unreplied_well {r = r} {s = s} {error = error} is u a e = record { sound = u.sound; turn = tt; failure = by answer (says r a.request is a.server (rw same a.spelled)) e; hops = λ all. tt }
    where
      by : (v : Result (Option (List ℕ)) AllocError) → IfOk v (IsHonestReply r d.to a.request) → Err error ≡ reply_or_failure v → IsRightFailure s error
      by (Ok (Some reply)) is e = cc e
      by (Ok None) is e = absurd is
      by (Err refused) is e = let memory : error ≡ Memory = cc e in rw memory tt

pub unreplied_fails : {now : ℕ} {s : State} {t : ℕ} {d : Outgoing} (answer : Result (Option (List ℕ)) AllocError) {error : LookupError} → Err error ≡ reply_or_failure answer → TurnFails now s t d error s
unreplied_fails (Ok (Some reply)) e = cc e
unreplied_fails (Ok None) e = unanswered refl (cc e)
unreplied_fails (Err refused) e = stopped (inl refl) (cc e)

-- whether the answer to a reply is for its ticket
abbrev pub IsOwn : ℕ → Heard → Option (Result LookupProgress Why) → Type 0
IsOwn t h own = MatchOption own (IsNotFor t h) (λ o. h ≡ heard_of t o)

pub taken_is : (t : ℕ) {h : Heard} (own : Option (Result LookupProgress Why)) {turn : LookupProgress} → IsOwn t h own → Ok turn ≡ turn_or_failure own → h ≡ heard_of t (Ok turn)
taken_is t (Some (Ok same)) is e = is ∙ ap (λ (v : LookupProgress). heard_of t (Ok v)) (cc e)
taken_is t _ is e = cc e

module _ {honest : Register → Type 0} {now : ℕ} {s : State} {t : ℕ} {d : Outgoing} {reply : List ℕ} {new : State} {h : Heard} (came : IsReplyReceived honest now s d reply new h) where
  pub untaken_fails : (own : Option (Result LookupProgress Why)) {error : LookupError} → IsOwn t h own → Err error ≡ turn_or_failure own → TurnFails now s t d error new
  untaken_fails (Some (Ok turn)) is e = cc e
  untaken_fails (Some (Err why)) is e = gave_up reply why (subst (HearStep (moved now s) d.to reply new) is came.step) (cc e)
  untaken_fails None is e = not_taken reply h came.step is (cc e)

  pub turn_of : {turn : LookupProgress} {hops more : List Hop} → h ≡ heard_of t (Ok turn) → more ≡ hops ++ hop_of d reply ∷ [] → IsLookupTurn now s t d hops turn more new
  turn_of is grown = record { reply = reply; step = subst (HearStep (moved now s) d.to reply new) is came.step; hop = grown }

  -- over honest servers
  module _ {r : Register} {x : Xeid} (is : honest r) (a : IsUnderstood r now x s t d) where
    pub well_heard : IsWellHeard r x s t d reply new h
    well_heard = a.heard reply (came.said r a.request is a.server a.spelled) new h came.step

    pub untaken_well : (own : Option (Result LookupProgress Why)) {error : LookupError} {hops : List Hop} → IsOwn t h own → Err error ≡ turn_or_failure own → IsRightlyTurned r x s.me hops (Err error) hops new
    untaken_well own {error = error} is e = record { sound = well_heard.sound; turn = tt; failure = by own is e; hops = λ all. tt }
      where
        by : (own : Option (Result LookupProgress Why)) → IsOwn t h own → Err error ≡ turn_or_failure own → IsRightFailure new error
        by (Some (Ok turn)) is e = cc e
        by (Some (Err why)) is e = let gave : error ≡ GaveUp why = cc e in rw gave (well_heard.why why is)
        by None is e = absurd (well_heard.own is)

    pub taken_well : (turn : LookupProgress) {hops more : List Hop} → h ≡ heard_of t (Ok turn) → more ≡ hops ++ hop_of d reply ∷ [] → IsRightlyTurned r x s.me hops (Ok turn) more new
    taken_well turn {hops = hops} is grown = record { sound = well_heard.sound; turn = by turn is; failure = tt; hops = λ all. rw grown (All-push (IsHonestHop r x s.me) hops (hop_of d reply) all well_heard.hop) }
      where
        by : (turn : LookupProgress) → h ≡ heard_of t (Ok turn) → IsRightTurn r x turn
        by (GoesOn e) is = tt
        by (Ends o) is = well_heard.outcome o is

-- a turn brings the lookup nearer to its end
pub turn_is_nearer : {now : ℕ} {s : State} {t : ℕ} {d : Outgoing} {new : State} {source : _} {bytes : List ℕ} {h : Heard} {x : Xeid} (turn : LookupProgress) → IsStateInOrder s → HearStep (moved now s) source bytes new h
    → ComesNearer s new h → h ≡ heard_of t (Ok turn) → Waits now x s t d → left_after new t turn < requests_left s t
turn_is_nearer {now = now} {s = s} {new = new} {source = source} {bytes = bytes} (GoesOn e) o step near is w =
    let on = followed_waits w (does (subst (HearStep (moved now s) source bytes new) is step)) in
    let closer : measure on.lookup < measure w.lookup = (rw is at near) w.lookup on.lookup w.is_pending on.is_pending in
    rw (w.is_pending, on.is_pending) closer
turn_is_nearer (Ends v) o step near is w = let place = (o.lookups _ w.lookup w.is_pending).lookup.place in rw w.is_pending (omega arith)

-- ---- a lookup that follows replies until it ends

-- What holds of a lookup on its way: it was asked for by d0 in the state s0 and has come to d in the state s. `before` says
-- for which registers the servers were honest when it began, `honest` for which they are.
pub record IsOnItsWay (before honest : Register → Type 0) (now : ℕ) (s0 : State) (t : ℕ) (d0 : Outgoing) (hops : List Hop) (s : State) (d : Outgoing) : Type 0 where
  pub awaited : IsAwaited now s t d
  pub reaches : (x : Xeid) (start : State) → Reaches now x start [] t d0 s0 → Reaches now x start hops t d s
  pub under : (r : Register) (x : Xeid) → before r → IsUnderWay r now x s0 t d0 → IsUnderWay r now x s t d
  pub fair : (r : Register) (x : Xeid) → before r → IsUnderWay r now x s0 t d0 → All (IsHonestHop r x s0.me) hops
  pub stay : (r : Register) → before r → honest r
  pub me : s.me ≡ s0.me
  pub left : length hops + requests_left s t ≤ requests_left s0 t

-- at the start
pub on_its_way : (honest : Register → Type 0) {now : ℕ} {s : State} {t : ℕ} {d : Outgoing} {hops : List Hop} → hops ≡ [] → IsAwaited now s t d → IsOnItsWay honest honest now s t d hops s d
on_its_way honest {s = s} none waits = rw none (record {
  awaited = waits;
  reaches = λ x start reached. reached;
  under = λ r x is u. u;
  fair = λ r x is u. All-nil (IsHonestHop r x s.me);
  stay = λ r is. is;
  me = refl;
  left = omega arith;
})

module _ {before honest : Register → Type 0} {now : ℕ} {s0 : State} {t : ℕ} {d0 : Outgoing} {hops : List Hop} {s : State} {d : Outgoing} (w : IsOnItsWay before honest now s0 t d0 hops s d) where
  -- it fails
  pub fails_under : {error : LookupError} {new : State} → TurnFails now s t d error new → (x : Xeid) (start : State) → Reaches now x start [] t d0 s0 → FailsUnder now x start t error new
  fails_under fails x start reached = record { hops = hops; request = d; state = s; reaches = w.reaches x start reached; fails = fails }

  pub fails_well : {error : LookupError} {more : List Hop} {new : State} → WhileUnderWay honest now s t d (λ r x. IsRightlyTurned r x s.me hops (Err error) more new)
      → WhileUnderWay before now s0 t d0 (λ r x. IsRightlyEnded r x s0.me (Err error) new)
  fails_well well r x honest u = let v = well r x (w.stay r honest) (w.under r x honest u) in record { sound = v.sound; right = tt; failure = v.failure; fair = tt }

  module _ {turn : LookupProgress} {more : List Hop} {new : State} (is_turn : IsLookupTurn now s t d hops turn more new) where
    module _ (near : (x : Xeid) → Waits now x s t d → left_after new t turn < requests_left s t) where
      within : length more + left_after new t turn ≤ requests_left s0 t
      within =
          let a = w.left in let b = near w.awaited.identifier w.awaited.waits in
          let c : length more ≡ length hops + 1 = ap length is_turn.hop ∙ length-append hops (hop_of d is_turn.reply ∷ []) in omega arith

      -- within its requests
      pub ends_within : {kept : List Hop} → kept ≡ more → length kept ≤ requests_left s0 t
      ends_within same = let a = within in let b = ap length same in omega arith

      -- with fewer requests left
      pub fewer_left : {e : Outgoing} → turn ≡ GoesOn e → requests_left new t < requests_left s t
      fewer_left is = subst (λ v. left_after new t v < requests_left s t) is (near w.awaited.identifier w.awaited.waits)

    -- it ends
    pub ends_with : {o : Outcome} {kept : List Hop} → turn ≡ Ends o → kept ≡ more → (x : Xeid) (start : State) → Reaches now x start [] t d0 s0 → HasOutcome now x start o kept new
    ends_with is same x start reached = rw same (by_reply (w.reaches x start reached) (rw is at is_turn))

    module _ (well : WhileUnderWay honest now s t d (λ r x. IsRightlyTurned r x s.me hops (Ok turn) more new)) where
      turned : (r : Register) (x : Xeid) → before r → IsUnderWay r now x s0 t d0 → IsRightlyTurned r x s0.me hops (Ok turn) more new
      turned r x is u = subst (λ me. IsRightlyTurned r x me hops (Ok turn) more new) w.me (well r x (w.stay r is) (w.under r x is u))

      -- rightly
      pub ends_well : {o : Outcome} {kept : List Hop} → turn ≡ Ends o → kept ≡ more → WhileUnderWay before now s0 t d0 (λ r x. IsRightlyEnded r x s0.me (Ok (record { outcome = o; hops = kept })) new)
      ends_well is same r x honest u = let v = turned r x honest u in
          record { sound = v.sound; right = subst (IsRightTurn r x) is v.turn; failure = tt; fair = rw same (v.hops (w.fair r x honest u)) }

      -- it goes on
      pub goes_on : {e : Outgoing} {after : Register → Type 0} → turn ≡ GoesOn e → ((x : Xeid) → Waits now x s t d → left_after new t turn < requests_left s t) → ((r : Register) → honest r → after r)
          → IsOnItsWay before after now s0 t d0 more new e
      goes_on {e = e} is near stay = record {
        awaited = record { identifier = w.awaited.identifier; waits = followed_waits w.awaited.waits follows };
        reaches = λ x start reached. rw is_turn.hop (followed is_turn.reply e new (w.reaches x start reached) step);
        under = λ r x honest u0. let u = w.under r x honest u0 in record { accepted = u.accepted; sound = (turned r x honest u0).sound; waits = followed_waits u.waits follows; fits = rw (followed_me follows) u.fits };
        fair = λ r x honest u0. (turned r x honest u0).hops (w.fair r x honest u0);
        stay = λ r honest. stay r (w.stay r honest);
        me = followed_me follows ∙ w.me;
        left = subst (λ v. length more + left_after new t v ≤ requests_left s0 t) is (within near);
      }
        where
          step : HearStep (moved now s) d.to is_turn.reply new (heard_of t (Ok (GoesOn e)))
          step = subst (λ v. HearStep (moved now s) d.to is_turn.reply new (heard_of t (Ok v))) is is_turn.step

          follows : Follows (moved now s) d.to is_turn.reply t new e
          follows = does step
