-- The hops of a lookup: how they follow one another, from its steps, and that its passes are short, whatever its servers say.
use Rattle.std.proofs.Common.{◌≡◌, ℕ, ◌<◌, List, [], ◌∷◌, ◌++◌, length, drop, None, Some, Ok, Err, refl, ap, ◌∙◌, subst, arith, ◌+◌, ◌≤◌, Option, Result, inl, inr, sym}
use Rattle.std.specs.Option.{option_map_or}
use Rattle.std.specs.Prelude.{IsTrue, Result, IfOk}
use Rattle.std.proofs.lemmas.List.{append_assoc, drop_more, append-nil}
use Rattle.std.proofs.Math.ListN.{drop_of_length-le}
use Rattle.ddt_path.specs.declared.record.Outcome.{Outcome}
use Rattle.ddt_path.specs.declared.record.ReferralRecord.{ReferralRecord}
use Rattle.ddt_path.specs.declared.xeid.Xeid.{Xeid}
use Rattle.ddt_path.specs.Path.{xeid_path, is_path}
use Rattle.ddt_register.specs.declared.register.Register.{Register}
use Rattle.ddt_check.specs.Rules.{IsAccepted}
use Rattle.ddt_cache.specs.Found.{IsFound}
use Rattle.ddt_resolver.specs.declared.pending.Pending.{Pending}
use Rattle.ddt_resolver.specs.declared.results.Outgoing.{Outgoing}
use Rattle.ddt_resolver.specs.State.{State, moved, server, numbered, opening, stored, forgotten, referred, passed_on, started_over, tried_again, at_next}
use Rattle.ddt_resolver.specs.Records.{IsAbout, NamesServer, outcome_of, start_at, IsBelow}
use Rattle.ddt_resolver.specs.AskStep.{answer_of}
use Rattle.ddt_resolver.specs.MatchReply.{IsTaken}
use Rattle.ddt_resolver.specs.Order.{IsStateInOrder}
use Rattle.ddt_resolver.specs.laws.Shape.{opening_lookup, about_covers, referral_apart}
use Rattle.ddt_sim.specs.declared.lookup_result.Hop.{Hop}
use Rattle.ddt_sim.specs.declared.lookup_result.Lookup.{Lookup}
use Rattle.ddt_sim.specs.declared.lookup_result.LookupError.{LookupError}
use Rattle.ddt_sim.specs.Waiting.{Waits}
use Rattle.ddt_sim.specs.Lookup.{Reaches, sent, followed, HasOutcome, at_once, by_reply, hop_of}
use Rattle.ddt_sim.specs.Sound.{IsSound}
use Rattle.ddt_sim.specs.Headline.{HasHonestHops, HasFewHops}
use Rattle.ddt_sim.specs.Trail as trail
use Rattle.ddt_sim.specs.Trail.{IsHopTo, IsTrail, HasTrail, HonestTrailsAreShort}
use Rattle.std.specs.List.{All, AllByRecursion}
use Rattle.std.proofs.lemmas.List.Elements.{All-from_recursion}
use Rattle.ddt_path.specs.declared.action.Action.{Action}
use Rattle.ddt_path.specs.declared.action.Action.TheVariants.{NotAuthoritative}
use Rattle.ddt_path.specs.declared.locator.Locator.{Locator}
use Rattle.ddt_path.specs.Actions.{IsReferral}
use Rattle.ddt_path.specs.laws.Cover.{length-covered}
use Rattle.ddt_wire.specs.Referral.{message_in}
use Rattle.ddt_wire.specs.laws.Statements.{MessagesAreRead}
use Rattle.ddt_resolver.specs.Bound.{room}
use Rattle.ddt_sim.specs.Passes.{in_front, told_in_front, passes_of, HasShortPasses, PassesAreShort, PassGoesOn, same_pass, second_pass, PassesGoOn, HastePassesGoOn}
use Rattle.std.specs.FinMap.{get, insert, remove}
use Rattle.std.proofs.lemmas.Option.{same_Some}
use Rattle.ddt_resolver.specs.AskStep as ask
use Rattle.ddt_resolver.specs.Act as acts
use Rattle.ddt_resolver.specs.Act.{Act}
use Rattle.ddt_resolver.specs.TickStep as ticks
use Rattle.ddt_resolver.specs.TickStep.{GoOn}
use Rattle.ddt_resolver.specs.Step.{asks, hears, ticks as ticks_on}
use Rattle.ddt_resolver.specs.laws.NumberMap.{found_insert, found_remove}
use Rattle.ddt_sim.proofs.WaitingLemmas.{Opens, opens, does_ask, Onward, onward_keeps, refers, passes_on, starts_over, Follows, follows, Closes, ends, concludes, does, asked_waits, followed_waits, own_lookup}

-- ---- what is known of hops because of those that come after them

-- A fact of a lookup and of the hops that it has yet to take: it holds of a lookup that goes on, if it holds of what that goes on as.
abbrev pub HoldsBefore : Xeid → State → (Pending → List Hop → Type 0) → Type 0
HoldsBefore x s0 fact =
    (s : State) (l : Pending) (rec : ReferralRecord) (base : State) (m : Pending) (hop : Hop) (more : List Hop) → s.known.roots ≡ s0.known.roots
    → IsHopTo x s0.me (server s0.me l) hop rec → NamesServer rec → Onward s l rec base m → fact (numbered base m) more → fact l (hop ∷ more)

-- it holds of a lookup that begins at the entry that is found for x
abbrev pub Begins : Xeid → State → (Pending → List Hop → Type 0) → List Hop → Type 0
Begins x s0 fact hops =
    (p : _) × (e : _) × IsFound s0.known (xeid_path x) p e × (answer_of p e ≡ None) × fact (numbered s0 (opening x e.servers (start_at p))) hops

-- The lookup of x that was asked in the state s0 has come this far: where the fact holds of it, it holds of the whole.
pub record IsAlong (now : ℕ) (x : Xeid) (s0 : State) (fact : Pending → List Hop → Type 0) (hops : List Hop) (t : ℕ) (d : Outgoing) (s : State) : Type 0 where
  pub waits : Waits now x s t d
  pub me : s.me ≡ s0.me
  pub roots : s.known.roots ≡ s0.known.roots
  pub back : (more : List Hop) → fact waits.lookup more → Begins x s0 fact (hops ++ more)

module _ {now : ℕ} {x : Xeid} {s0 s : State} {fact : Pending → List Hop → Type 0} {hops : List Hop} {t : ℕ} {d : Outgoing} {reply : List ℕ} {l : Pending} {rec : ReferralRecord}
    (a : IsAlong now x s0 fact hops t d s) (taken : IsTaken (moved now s) d.to reply t l rec) where
  own : l ≡ a.waits.lookup
  own = own_lookup a.waits taken

  -- the hop of a reply that is taken
  its_hop : IsHopTo x s0.me (server s0.me l) (hop_of d reply) rec
  its_hop = record {
    nonce = a.waits.lookup.nonce;
    to = a.waits.to ∙ rw (a.me, own) refl;
    asks = rw (← a.me) a.waits.bytes;
    tells = rw (← own) taken.in_time.from_server.reply.tells;
    about = subst (λ y. IsAbout rec (xeid_path y)) (ap (λ (q : Pending). q.x) own ∙ a.waits.its_x) taken.about;
  }

  with_hop : (more : List Hop) → fact l (hop_of d reply ∷ more) → Begins x s0 fact ((hops ++ hop_of d reply ∷ []) ++ more)
  with_hop more holds = rw (append_assoc hops (hop_of d reply ∷ []) more) (a.back (hop_of d reply ∷ more) (rw (← own) holds))

module _ {now : ℕ} {x : Xeid} (start : State) (fact : Pending → List Hop → Type 0) (before : HoldsBefore x (moved now start) fact) where
  asked_along : {s : State} {t : ℕ} {d : Outgoing} → Opens (moved now start) x s t d → IsAlong now x (moved now start) fact [] t d s
  asked_along (opens p e found none) =
      record { waits = asked_waits (omega arith) (opens p e found none); me = refl; roots = refl; back = λ more holds. (p, e, found, none, holds) }

  followed_along : {hops : List Hop} {t : ℕ} {d : Outgoing} {s : State} {reply : List ℕ} {new : State} {e : Outgoing} → IsAlong now x (moved now start) fact hops t d s
      → Follows (moved now s) d.to reply t new e → IsAlong now x (moved now start) fact (hops ++ hop_of d reply ∷ []) t e new
  followed_along {s = s} a (follows l rec base m taken on) = let k = onward_keeps on in record {
    waits = followed_waits a.waits (follows l rec base m taken on);
    me = k.2 ∙ a.me;
    roots = k.3 ∙ a.roots;
    back = λ more holds. with_hop a taken more (before (moved now s) l rec base m _ more a.roots (its_hop a taken) taken.names_server on holds);
  }

  -- a lookup that has come some way
  pub reached_along : {hops : List Hop} {t : ℕ} {d : Outgoing} {s : State} → Reaches now x start hops t d s → IsAlong now x (moved now start) fact hops t d s
  reached_along (sent t d s step) = asked_along (does_ask step)
  reached_along (followed reply e new reaches step) = followed_along (reached_along reaches) (does step)

-- ---- a whole lookup

module _ (now : ℕ) (x : Xeid) (start : State) (outcome : Outcome) (o : IsStateInOrder (moved now start)) (id : IsTrue (is_path (xeid_path x))) where
  -- the hops of a lookup give this outcome
  abbrev gives : Pending → List Hop → Type 0
  gives l more = l.server_index < length l.servers → IsTrail x start.me start.known.roots outcome l.last_referral l.start_entry (drop l.server_index l.servers) more

  gives_before : HoldsBefore x (moved now start) gives
  gives_before s l rec base m hop more roots to names (refers k lower) rest here = rw (drop_more l.servers l.server_index start.me here) (trail.refers rec to k lower (rest (names k)))
  gives_before s l rec base m hop more roots to names (passes_on k next) rest here = rw (drop_more l.servers l.server_index start.me here) (trail.passes_on rec to k (rest next))
  gives_before s l rec base m hop more roots to names (starts_over p k begun) rest here =
      rw (drop_more l.servers l.server_index start.me here, begun.start) (trail.starts_over {more = more} p rec to k (subst (λ set. IsTrail x start.me start.known.roots outcome None None set more) roots (rest (rw roots o.root))))

  gives_last : {l : Pending} {rec : ReferralRecord} {hop : Hop} → IsHopTo x start.me (server start.me l) hop rec → Closes l rec → outcome ≡ outcome_of rec → gives l (hop ∷ [])
  gives_last {l = l} to (ends k) is here = rw (drop_more l.servers l.server_index start.me here) (trail.ends _ to k is)
  gives_last {l = l} to (concludes k last) is here = rw (drop_more l.servers l.server_index start.me here, drop_of_length-le l.servers last) (trail.concludes _ to k is)

  has_trail : {hops : List Hop} → Begins x (moved now start) gives hops → HasTrail x (moved now start) outcome hops
  has_trail b = trail.from_servers b.0 b.1 b.2 b.3 (b.4 (opening_lookup (moved now start) o x id b.0 b.1 b.2 b.3).place)

  -- what a lookup gives comes by its trail
  pub outcome_trail : {hops : List Hop} {new : State} → HasOutcome now x start outcome hops new → HasTrail x (moved now start) outcome hops
  outcome_trail (at_once step none) = let h = does_ask step in trail.at_once h.0 h.1 h.2 h.3 none
  outcome_trail (by_reply {before = hs} {d = d} reaches turn) =
      let a = reached_along start gives gives_before reaches in let h = does turn.step in
      rw (turn.hop, ← append-nil (hs ++ hop_of d turn.reply ∷ [])) (has_trail (with_hop a h.2 [] (gives_last (its_hop a h.2) h.3 h.4)))

-- so does what a call gives
pub result_trail : (now : ℕ) (x : Xeid) (start : State) → IsStateInOrder (moved now start) → IsTrue (is_path (xeid_path x)) → (new : State) (res : Result Lookup LookupError)
    → IfOk res (λ l. HasOutcome now x start l.outcome l.hops new) → IfOk res (λ l. HasTrail x (moved now start) l.outcome l.hops)
result_trail now x start o id new (Ok l) has = outcome_trail now x start l.outcome o id has
result_trail now x start o id new (Err error) has = tt

-- and what it gives over honest servers is short
pub short_result : HonestTrailsAreShort → (r : Register) (x : Xeid) (s : State) → IsAccepted r → IsStateInOrder s → IsSound r s → IsTrue (is_path (xeid_path x)) → (res : Result Lookup LookupError)
    → IfOk res (λ l. HasTrail x s l.outcome l.hops) → IfOk res (HasHonestHops r x s.me) → IfOk res (HasFewHops r x)
short_result short r x s accepted o sound id (Ok l) has honest = short r x s l accepted o sound id has honest
short_result short r x s accepted o sound id (Err error) has honest = tt

-- ---- the passes of a lookup are short, whatever its servers say

-- what a lookup may have from here on, by what it has saved and where it started
data ArePasses (digits : ℕ) (saved start : Option (List ℕ)) : List ℕ → Type 0 where
  are : (n : ℕ) (others : List ℕ) → n ≤ room digits saved → AllByRecursion (λ m. m ≤ digits + 1) others → length others ≤ option_map_or (λ p. 1) start 0
      → ArePasses digits saved start (n ∷ others)

nothing_yet : (top : ℕ) (saved start : Option (List ℕ)) → ArePasses top saved start (0 ∷ [])
nothing_yet top saved start = are 0 [] (omega arith) tt (omega arith)

one_room : (top n : ℕ) (q : List ℕ) (saved : Option (List ℕ)) → IsBelow saved q → length q ≤ top → n ≤ room top (Some q) → n + 1 ≤ room top saved
one_room top n q None below le short = omega arith
one_room top n q (Some p) below le short = omega arith

-- a referral goes down
deeper : {top : ℕ} {saved start : Option (List ℕ)} {q : List ℕ} {action : Action} {passes : List ℕ} → IsReferral action → IsBelow saved q → length q ≤ top
    → ArePasses top (Some q) start passes → ArePasses top saved start (in_front action passes)
deeper {top = top} {saved = saved} (inl k) below le (are n others short all few) = rw k (are (n + 1) others (one_room top n _ saved below le short) all few)
deeper {top = top} {saved = saved} (inr k) below le (are n others short all few) = rw k (are (n + 1) others (one_room top n _ saved below le short) all few)

-- another pass begins
restarted : {top : ℕ} {saved : Option (List ℕ)} {p : List ℕ} {passes : List ℕ} → ArePasses top None None passes → ArePasses top saved (Some p) (0 ∷ passes)
restarted (are n others short all few) = are 0 (n ∷ others) (omega arith) (short, all) (omega arith)

-- passes behind which nothing comes
are_short : (x : Xeid) (hops : List Hop) {start : Option (List ℕ)} → ArePasses (length (xeid_path x)) None start (passes_of hops) → HasShortPasses x hops
are_short x hops {start = start} own = let h = by (passes_of hops) start own in record { two = h.0; short = h.1 }
  where
    by : (passes : List ℕ) (start : Option (List ℕ)) → ArePasses (length (xeid_path x)) None start passes → (length passes ≤ 2) × All (λ n. n ≤ length (xeid_path x) + 1) passes
    by passes None (are n others short all few) = (omega arith, All-from_recursion _ (n ∷ others) (short, all))
    by passes (Some p) (are n others short all few) = (omega arith, All-from_recursion _ (n ∷ others) (short, all))

module _ (read : MessagesAreRead) (x : Xeid) where
  abbrev passed : Option (List ℕ) → Option (List ℕ) → List Hop → Type 0
  passed saved start hops = ArePasses (length (xeid_path x)) saved start (passes_of hops)

  module _ {me l : Locator} {hop : Hop} {rec : ReferralRecord} (to : IsHopTo x me l hop rec) where
    -- what a reply tells is in front
    told : (later : List ℕ) → told_in_front (message_in hop.reply) later ≡ in_front rec.action later
    told later = ap (λ m. told_in_front m later) (read.read hop.reply to.tells.message to.tells.spells) ∙ ap (λ (v : ReferralRecord). in_front v.action later) to.tells.same_record

    down : {saved start : Option (List ℕ)} (more : List Hop) → IsReferral rec.action → IsBelow saved rec.prefix → passed (Some rec.prefix) start more → passed saved start (hop ∷ more)
    down more k below own = rw (told (passes_of more)) (deeper k below (length-covered _ _ (about_covers rec (xeid_path x) to.about (referral_apart rec.action k))) own)

    again : {saved : Option (List ℕ)} {p : List ℕ} (more : List Hop) → rec.action ≡ NotAuthoritative → passed None None more → passed saved (Some p) (hop ∷ more)
    again more k own = rw (told (passes_of more), k) (restarted own)

  passed_before : (s0 : State) → HoldsBefore x s0 (λ l. passed l.last_referral l.start_entry)
  passed_before s0 s l rec base m hop more roots to names (refers k below) own = down to more k below own
  passed_before s0 s l rec base m hop more roots to names (passes_on k next) own = rw (told to (passes_of more), k) own
  passed_before s0 s l rec base m hop more roots to names (starts_over p k begun) own = rw begun.start (again to more k own)

  trail_passes : {me : Locator} {roots : List Locator} {outcome : Outcome} {saved start : Option (List ℕ)} {left : List Locator} {hops : List Hop} → IsTrail x me roots outcome saved start left hops → passed saved start hops
  trail_passes (trail.ends rec to (inl k) is) = rw (told to (0 ∷ []), k) (nothing_yet _ _ _)
  trail_passes (trail.ends rec to (inr k) is) = rw (told to (0 ∷ []), k) (nothing_yet _ _ _)
  trail_passes (trail.concludes rec to k is) = rw (told to (0 ∷ []), k) (nothing_yet _ _ _)
  trail_passes (trail.passes_on {more = more} rec to k after) = rw (told to (passes_of more), k) (trail_passes after)
  trail_passes (trail.refers {more = more} rec to k below after) = down to more k below (trail_passes after)
  trail_passes (trail.starts_over {more = more} p rec to k after) = again to more k (trail_passes after)

-- however far it has come
pub passes_are_short : MessagesAreRead → PassesAreShort
passes_are_short read now x start hops t d s reaches =
    let b = (reached_along start (λ l. passed read x l.last_referral l.start_entry) (passed_before read x (moved now start)) reaches).back [] (nothing_yet _ _ _) in
    are_short x hops (rw append-nil at b.4)

-- and of what a call gives
pub short_passes : MessagesAreRead → (x : Xeid) (s : State) (res : Result Lookup LookupError) → IfOk res (λ l. HasTrail x s l.outcome l.hops) → IfOk res (λ l. HasShortPasses x l.hops)
short_passes read x s (Ok l) (trail.at_once p e found answer none) = rw none (are_short x [] (nothing_yet _ _ None))
short_passes read x s (Ok l) (trail.from_servers p e found unanswered path) = are_short x l.hops (trail_passes read x path)
short_passes read x s (Err error) has = tt

-- ---- a lookup stays in its pass or begins its second one, in each step

module _ (s : State) (o : IsStateInOrder s) (t : ℕ) (l : Pending) (here : get s.pending t ≡ Some l) (new : State) (m : Pending) (found : get new.pending t ≡ Some m) where
  -- it is untouched
  stays : get s.pending t ≡ Some m → PassGoesOn l m
  stays there = let same : m ≡ l = same_Some m l (sym there ∙ here) in rw same (same_pass refl (inl refl))

  unchanged : new ≡ s → PassGoesOn l m
  unchanged e = stays (rw e at found)

  inserted : (u : ℕ) (k : Pending) → new.pending ≡ insert s.pending u k → (t ≡ u → PassGoesOn l k) → PassGoesOn l m
  inserted u k p own = elim (found_insert s.pending u k t m (rw p at found)) [ inl e ↦ rw (← e.1) (own e.0) | inr e ↦ stays e.1 ]

  module _ (u : ℕ) (k : Pending) (there : get s.pending u ≡ Some k) where
    removed : new.pending ≡ remove s.pending u → PassGoesOn l m
    removed p = stays (found_remove s.pending u t m (rw p at found)).1

    -- a lookup of this ticket is this one
    request_sent_as : (next : Pending) → new.pending ≡ insert s.pending u next → PassGoesOn k next → PassGoesOn l m
    request_sent_as next p goes = inserted u next p (λ same. let own : l ≡ k = same_Some l k (sym here ∙ ap (get s.pending) same ∙ there) in rw own goes)

    acted : (rec : _) (h : _) → Act s u k rec new h → PassGoesOn l m
    acted rec h (acts.loops r loop e f) = removed (rw e refl)
    acted rec h (acts.refers r below more e f) = request_sent_as (numbered (stored s rec) (referred k rec)) (rw e refl) (same_pass refl (inr (rec.prefix, refl, below)))
    acted rec h (acts.acknowledges a e f) = removed (rw e refl)
    acted rec h (acts.closes a e f) = removed (rw e refl)
    acted rec h (acts.passes_on a more room e f) = request_sent_as (numbered s (passed_on k rec)) (rw e refl) (same_pass refl (inl refl))
    acted rec h (acts.concludes a last e f) = removed (rw e refl)
    acted rec h (acts.starts_over p a start room e f) = request_sent_as (numbered (forgotten s p) (started_over s k)) (rw e refl) (second_pass start.first refl)
    acted rec h (acts.nobody a start e f) = removed (rw e refl)
    acted rec h (acts.used_up on none e f) = removed (rw e refl)

    went_on : (h : _) → GoOn s u k new h → PassGoesOn l m
    went_on h (ticks.again first room e f) = request_sent_as (numbered s (tried_again k)) (rw e refl) (same_pass refl (inl refl))
    went_on h (ticks.next_place second more room e f) = request_sent_as (numbered s (at_next k)) (rw e refl) (same_pass refl (inl refl))
    went_on h (ticks.answered rec second last kept e f) = removed (rw e refl)
    went_on h (ticks.no_reply second last kept e f) = removed (rw e refl)
    went_on h (ticks.used_up has none e f) = removed (rw e refl)

  asked_on : (x : _) (r : _) → ask.AskStep s x new r → PassGoesOn l m
  asked_on x r step = by step.start
    where
      by : ask.Start s x step.prefix step.entry new r → PassGoesOn l m
      by (ask.cached out some e f) = unchanged e
      by (ask.full none many e f) = unchanged e
      by (ask.used_up none few over e f) = unchanged e
      by (ask.opened free e f) =
          let w = o.lookups t l here in let a = w.ticket in let b = w.nonce in
          inserted s.next (numbered s (opening x step.entry.servers (start_at step.prefix))) (rw e refl) (λ same. absurd (omega (arith, a, b, same)))

pub passes_go_on : PassesGoOn
passes_go_on s call new reply o (asks x r id step called to) t l m here found = asked_on s o t l here new m found x r step
passes_go_on s call new reply o (hears source bytes h (acts.ignored why ignores e f) called to) t l m here found = unchanged s o t l here new m found e
passes_go_on s call new reply o (hears source bytes h (acts.taken u k rec taken does) called to) t l m here found =
    acted s o t l here new m found u k taken.in_time.from_server.reply.is_pending rec h does
passes_go_on s call new reply o (ticks_on h (ticks.nothing none e f) called to) t l m here found = unchanged s o t l here new m found e
passes_go_on s call new reply o (ticks_on h (ticks.due u k due on) called to) t l m here found = went_on s o t l here new m found u k due.is_pending h on

pub haste_passes_go_on : HastePassesGoOn
haste_passes_go_on s nonce new h o (ticks.unknown none e f) t l m here found = unchanged s o t l here new m found e
haste_passes_go_on s nonce new h o (ticks.hastened u k there its on) t l m here found = went_on s o t l here new m found u k there h on
