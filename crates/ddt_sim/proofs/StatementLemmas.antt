-- What holds of each line of a schedule over honest servers.
use Rattle.std.proofs.Common.{◌≡◌, ℕ, true, false, List, [], ◌∷◌, ◌++◌, map, Some, None, Result, Ok, Err, refl, sym, ap, ◌∙◌, subst, arith, inl, inr, ◌⊎◌}
use Rattle.std.specs.Prelude.{slice_get}
use Rattle.std.proofs.lemmas.List.Elements.{Contains-append_left}
use Rattle.std.proofs.lemmas.List.Sorted.{IsPermutation-reverse}
use Rattle.ddt_path.specs.laws.Member.{IsIn, contained, moved_in}
use Rattle.std.specs.FinMap.{get, len}
use Rattle.std.proofs.lemmas.Option.{none-some}
use Rattle.ddt_path.specs.Path.{xeid_path}
use Rattle.ddt_register.specs.declared.register.Register.{Register}
use Rattle.ddt_check.specs.Says.{says}
use Rattle.ddt_ecm.specs.laws.Statements.{message_of}
use Rattle.ddt_resolver.specs.declared.pending.Pending.{Pending}
use Rattle.ddt_resolver.specs.declared.results.Asked.{Asked as Asking}
use Rattle.ddt_resolver.specs.declared.results.Asked.TheVariants as asked_as
use Rattle.ddt_resolver.specs.declared.results.AskError.{AskError}
use Rattle.ddt_resolver.specs.declared.results.AskError.TheVariants as ask_error
use Rattle.ddt_resolver.specs.declared.results.Heard.{Heard as Hearing}
use Rattle.ddt_resolver.specs.declared.results.Heard.TheVariants as heard_as
use Rattle.ddt_resolver.specs.declared.results.Ignored.{Ignored}
use Rattle.ddt_resolver.specs.declared.results.Ignored.TheVariants.{UnknownNonce, Late}
use Rattle.ddt_resolver.specs.declared.results.Ticked.{Ticked as Ticking}
use Rattle.ddt_resolver.specs.declared.results.Ticked.TheVariants as ticked_as
use Rattle.ddt_resolver.specs.declared.results.Why.{Why}
use Rattle.ddt_resolver.specs.declared.results.Why.TheVariants.{NoReply, Loop, NotAuthoritative, Exhausted}
use Rattle.ddt_resolver.specs.declared.step.Reply.{Reply}
use Rattle.ddt_resolver.specs.declared.step.Reply.TheVariants.{ToAsk, ToDatagram, ToTick}
use Rattle.ddt_resolver.specs.declared.step.Progress.{Progress}
use Rattle.ddt_resolver.specs.declared.step.Progress.TheVariants as progress
use Rattle.ddt_resolver.specs.State.{State, moved, last_nonce, most_pending}
use Rattle.ddt_resolver.specs.Step as resolver
use Rattle.ddt_resolver.specs.Step.{ResolverCall, asks, hears, ticks, progress_of}
use Rattle.ddt_resolver.specs.AskStep as ask
use Rattle.ddt_resolver.specs.AskStep.{AskStep}
use Rattle.ddt_resolver.specs.Act as act
use Rattle.ddt_resolver.specs.Act.{HearStep}
use Rattle.ddt_resolver.specs.MatchReply.{Ignores}
use Rattle.ddt_resolver.specs.Order.{IsStateInOrder}
use Rattle.ddt_resolver.specs.laws.Shape.{Leaves, by_record, by_kept, by_loop, by_nobody, by_silence, by_nonce}
use Rattle.ddt_sim.specs.declared.schedule.Step.{Step}
use Rattle.ddt_sim.specs.declared.schedule.Step.TheVariants.{Replace}
use Rattle.ddt_sim.specs.declared.schedule.Event.{Event}
use Rattle.ddt_sim.specs.declared.schedule.Event.TheVariants.{Refused, Heard}
use Rattle.ddt_sim.specs.declared.schedule.Datagram.{Datagram}
use Rattle.ddt_sim.specs.declared.schedule.Transcript.{Transcript}
use Rattle.ddt_sim.specs.RunLaws.{LawsOfRuns}
use Rattle.ddt_sim.specs.Sound.{IsSound, IsRight, IsRightHeard, IsRightTicked, IsRightEnd, IsRightWhy}
use Rattle.ddt_sim.specs.World.{World, Members, MayReply, reply_at, call_at, Resolves}
use Rattle.ddt_sim.specs.History.{Line, Each, steps_of, at_start, IsTranscriptOf, StopsAfter}
use Rattle.ddt_sim.specs.Schedules.{StartsSound, KeepServers, Ends, IsRightAnswer, IsOnce, IsRightReply, IsRightFailureLine}
use Rattle.ddt_sim.specs.Tries.{IsRightNoReply}
use Rattle.ddt_sim.proofs.GroundLemmas.{IsGround, Part, one_line, served, order_now, answer_is, calls_at, progress_now, rest_ends, heard_by, left_now, once_now, first_ground, run_kept, each_kept}
use Rattle.ddt_sim.proofs.ReplyLemmas.{act_is_for, says_usable}
use Rattle.ddt_sim.proofs.TriesLemmas.{IsTried, ReplyUsably, tried_on, vain_now}
use Rattle.ddt_sim.proofs.ScheduleLemmas.{ignored_rightly, IsSoundRun, Stands, known_request, known_reply, replied_honestly, right_now, steps_soundly}

-- ---- failures, whatever the servers say

-- a lookup gives up for want of a reply, as it is led round, as nobody is in charge, or at the last nonce
why_left : (s : State) (call : ResolverCall) (t : ℕ) (l : Pending) (why : Why) → Leaves s call t l (Err why)
    → (why ≡ NoReply) ⊎ (why ≡ Loop) ⊎ (why ≡ NotAuthoritative) ⊎ ((why ≡ Exhausted) × (s.next ≡ last_nonce))
why_left s call t l why (by_record rec takes final is) = absurd (cc is)
why_left s call t l why (by_kept rec due kept is) = absurd (cc is)
why_left s call t l why (by_loop rec takes referral below is) = inr (inl (cc is))
why_left s call t l why (by_nobody rec takes away start is) = inr (inr (inl (cc is)))
why_left s call t l why (by_silence due empty is) = inl (cc is)
why_left s call t l why (by_nonce over is) = inr (inr (inr (cc is, over)))

-- an ask is refused only where 1,024 lookups are pending, or at the last nonce
abbrev IsRightRefusal : State → AskError → Type 0
IsRightRefusal s why = ((why ≡ ask_error.TooMany) × (len s.pending ≡ most_pending)) ⊎ ((why ≡ ask_error.Exhausted) × (s.next ≡ last_nonce))

refused_by : (s : State) → IsStateInOrder s → (call : ResolverCall) (new : State) (a : Reply) (why : AskError) → resolver.Step s call new a → a ≡ ToAsk (Err why) → IsRightRefusal s why
refused_by s o call new a why (hears source bytes h step called to) is = absurd (cc (to, is))
refused_by s o call new a why (ticks h step called to) is = absurd (cc (to, is))
refused_by s o call new a why (asks x res id step called to) is = let same : res ≡ Err why = cc (to, is) in elim step.start [
  | ask.cached out some e f ↦ absurd (cc (same, f))
  | ask.full none many e f ↦ let few = o.few in inl (cc (same, f), omega (arith, many, few))
  | ask.used_up none few over e f ↦ inr (cc (same, f), over)
  | ask.opened free e f ↦ absurd (cc (same, f))
]

module _ {servers : Members} {past : List Line} {w : World} (g : IsGround past w) {step : Step} {event : Event} {new : World} where
  pub gave_up_now : Part servers w step event new → (t : ℕ) (why : Why) → Ends event t (Err why) → (why ≡ NoReply) ⊎ (why ≡ Loop) ⊎ (why ≡ NotAuthoritative) ⊎ ((why ≡ Exhausted) × (w.state.next ≡ last_nonce))
  gave_up_now (inl d) t why ends = let left = left_now g d t (Err why) ends in why_left (moved w.moment w.state) d.call t left.0 why left.2
  gave_up_now (inr rest) t why ends = absurd (cc (ends, rest_ends g rest))

  pub refused_now : Part servers w step event new → (why : AskError) → event ≡ Refused why → IsRightRefusal w.state why
  refused_now (inl d) why is = refused_by (moved w.moment w.state) (order_now g) d.call d.state d.reply why d.does (answer_is g d (ToAsk (Err why)) is)
  refused_now (inr rest) why is = absurd (cc (rest.idle, ap reply_at is))

  -- a reply is ignored for the reason that its datagram has
  pub ignored_now : Part servers w step event new
      → ((k : ℕ) (c : Datagram) → slice_get w.sent k ≡ Some c → c.is_reply ≡ true → (why : Ignored) → Ignores (moved w.moment w.state) c.source c.bytes why → (why ≡ UnknownNonce) ⊎ (why ≡ Late))
      → (why : Ignored) → event ≡ Heard (heard_as.Ignored why) → (why ≡ UnknownNonce) ⊎ (why ≡ Late)
  ignored_now (inr rest) rightly why is = absurd (cc (rest.idle, ap reply_at is))
  ignored_now (inl d) rightly why is = let c = heard_by g d (heard_as.Ignored why) is in elim c.5 [
    | act.taken t l rec taken acts ↦ absurd (act_is_for (moved w.moment w.state) t l rec d.state (heard_as.Ignored why) acts)
    | act.ignored reason ignores e told ↦ let own : reason ≡ why = cc told in rw own at (rightly c.0 c.1 c.3 c.4 reason ignores)
  ]

-- ---- right answers

-- what a step makes of the lookups is right: an outcome is the assignment, and none gives up but for a reply or a nonce
abbrev IsRightProgress : Register → State → Progress → Type 0
IsRightProgress r s progress.Stays = Unit {0}
IsRightProgress r s (progress.Sends t d) = Unit {0}
IsRightProgress r s (progress.Ends t (Ok o)) = IsRightEnd r s t o
IsRightProgress r s (progress.Ends t (Err why)) = IsRightWhy why

module _ (r : Register) (s : State) where
  right_asked : (a : Result Asking AskError) → IsRightProgress r s (progress_of (ToAsk a))
  right_asked (Ok (asked_as.Sent t d)) = tt
  right_asked (Ok (asked_as.Answer o)) = tt
  right_asked (Err why) = tt

  right_heard : (h : Hearing) → IsRightHeard r s h → IsRightProgress r s (progress_of (ToDatagram h))
  right_heard (heard_as.Ignored why) right = tt
  right_heard (heard_as.Followed t d) right = tt
  right_heard (heard_as.Answer t o) right = right
  right_heard (heard_as.GaveUp t why) right = right

  right_ticked : (h : Ticking) → IsRightTicked r s h → IsRightProgress r s (progress_of (ToTick h))
  right_ticked ticked_as.Nothing right = tt
  right_ticked (ticked_as.Sent t d) right = tt
  right_ticked (ticked_as.Answer t o) right = right
  right_ticked (ticked_as.GaveUp t why) right = right

  right_progress : (call : ResolverCall) (new : State) (a : Reply) → resolver.Step s call new a → IsRight r s call a → IsRightProgress r s (progress_of a)
  right_progress call new a (asks x res id step called to) right = rw to (right_asked res)
  right_progress call new a (hears source bytes h step called to) right = rw to (right_heard h (rw (called, to) at right))
  right_progress call new a (ticks h step called to) right = rw to (right_ticked h (rw (called, to) at right))

-- ---- each line

module _ {r : Register} {servers : Members} (on : Stands r servers) {past : List Line} {w : World} (i : IsSoundRun r past w) where
  module _ {step : Step} {event : Event} {new : World} where
    right_end : (d : Resolves w step event new) (t : ℕ) (end : Result _ _) → Ends event t end → IsRightProgress r (moved w.moment w.state) (progress.Ends t end)
    right_end d t end ends = subst (IsRightProgress r (moved w.moment w.state)) (sym (progress_now i.ground d) ∙ ends) (right_progress r (moved w.moment w.state) d.call d.state d.reply d.does (right_now on i d).1)

    right_why : Part servers w step event new → (t : ℕ) (why : Why) → Ends event t (Err why) → IsRightWhy why
    right_why (inl d) t why ends = right_end d t (Err why) ends
    right_why (inr rest) t why ends = absurd (cc (ends, rest_ends i.ground rest))

    right_answer : Part servers w step event new → IsRightAnswer r past (one_line w step event new)
    right_answer (inr rest) = record { at_once = λ x o is e. absurd (cc (rest.idle, e)); to_ticket = λ t o ends. absurd (cc (ends, rest_ends i.ground rest)) }
    right_answer (inl d) = record {
      at_once = λ x o is e. rw (calls_at d.calls ∙ ap (call_at w.sent) is, answer_is i.ground d (ToAsk (Ok (asked_as.Answer o))) e) at (right_now on i d).1;
      to_ticket = λ t o ends. let l = left_now i.ground d t (Ok o) ends in (l.0.x, i.ground.tickets.asked_for t l.0 l.1, right_end d t (Ok o) ends l.0 l.1);
    }

    right_failure : Part servers w step event new → IsRightFailureLine past (one_line w step event new)
    right_failure part = record {
      gave_up = λ t why ends. elim (gave_up_now i.ground part t why ends) [
        | inl a ↦ inl a
        | inr (inl a) ↦ elim (right_why part t why ends) [ inl b ↦ inl b | inr b ↦ absurd (cc (a, b)) ]
        | inr (inr (inl a)) ↦ elim (right_why part t why ends) [ inl b ↦ inl b | inr b ↦ absurd (cc (a, b)) ]
        | inr (inr (inr a)) ↦ inr a
      ];
      ignored = ignored_now i.ground part (λ k d found kind. let q = known_reply on i k d found kind in ignored_rightly on.read d.bytes q.2 q.3);
      refused = refused_now i.ground part;
    }

    right_reply : Part servers w step event new → IsRightReply r past (one_line w step event new)
    right_reply part k d is found kind = elim (served part k d is found kind) [
      | inl h ↦ let q = replied_honestly on i k d (Some h.0) found kind h.1 in record { request = message_of q.0 q.1 (w.state.me ∷ []) true; reply = h.0; asks = q.3; honest = q.4; replied = h.2; sent = h.3 }
      | inr h ↦ absurd (replied_honestly on i k d None found kind h.0).4
    ]

    right_no_reply : IsTried past w → Part servers w step event new → IsRightNoReply r past (one_line w step event new)
    right_no_reply tried part t ends = let vain = vain_now i.ground tried part t ends in record { vain = vain; of_zone = i.sound.lookups t vain.lookup vain.is_pending }

-- the servers' replies are usable, as the requests go to servers of the register
usable_reply : {r : Register} {servers : Members} (on : Stands r servers) {past : List Line} {w : World} (i : IsSoundRun r past w) (k : ℕ) (d : Datagram) (bytes : List ℕ) → slice_get w.sent k ≡ Some d → d.is_reply ≡ false
    → MayReply (servers.honest w.member) (servers.silent w.member) d.to d.bytes (Some bytes) → ReplyUsably d bytes
usable_reply {r = r} on i k d bytes found kind may m id spells = (
  says r d.to (xeid_path m.xeid),
  says_usable r on.read d.to (xeid_path m.xeid) id,
  may.honestly r m (rw i.member on.honest) (known_request on i d (i.known k d found) kind).2.is_server spells,
)

-- ---- all lines

-- no line replaces the servers
abbrev Keeps : Line → Type 0
Keeps line = (k : ℕ) → line.step ≡ Replace k → ⊥

abbrev KeepThem : List Line → Type 0
KeepThem = Each (λ past. Keeps)

in_steps : (past : List Line) → ((k : ℕ) → IsIn (Replace k) (map (λ (line : Line). line.step) past) → ⊥) → KeepThem past
in_steps [] none = tt
in_steps (l ∷ past) none = ((λ k is. none k (inl (sym is))), in_steps past (λ k there. none k (inr there)))

keep_them : (steps : List Step) (past : List Line) → KeepServers steps → steps ≡ steps_of past → KeepThem past
keep_them steps past keep are =
    in_steps past (λ k there. keep k (rw are
    (contained (steps_of past) (Replace k) (moved_in (map (λ (line : Line). line.step) past) (steps_of past) (IsPermutation-reverse (map (λ (line : Line). line.step) past)) (Replace k) there))))

-- those that were done of some steps
keep_first : (steps : List Step) (past : List Line) (rest : List Step) → KeepServers steps → steps ≡ steps_of past ++ rest → KeepThem past
keep_first steps past rest keep are = keep_them (steps_of past) past (λ k there. keep k (rw are (Contains-append_left (steps_of past) rest (Replace k) there))) refl

-- ---- a run

pub first_tried : (s : State) → ((t : ℕ) → get s.pending t ≡ None) → IsTried [] (at_start s)
first_tried s at_rest = record { heard = λ reply moment h. absurd h; replied = λ reply number h. absurd h; trails = λ t l found none. absurd (none-some l (sym (at_rest t) ∙ found)) }

module _ (laws : LawsOfRuns) (servers : Members) (old : State) (o : IsStateInOrder old) (steps : List Step) (r : Register) (honest : servers.honest 0 r) (keep : KeepServers steps) (starts : StartsSound r old) where
  on : Stands r servers
  on = record {
    accepted = starts.accepted;
    honest = honest;
    keeps = laws.keeps;
    time = laws.time;
    read = record { messages = laws.messages; back = laws.back; cover = laws.cover r starts.accepted; servers = laws.servers r starts.accepted; sendable = laws.sendable r starts.accepted };
    written = laws.written;
  }

  -- the run is sound, and the tries of its lookups are known
  abbrev IsSoundly : List Line → World → Type 0
  IsSoundly past w = IsSoundRun r past w × IsTried past w

  first : IsSoundly [] (at_start old)
  first = (record { ground = first_ground old o starts.at_rest; member = refl; sound = starts.sound; known = λ k d found. absurd (none-some d found) }, first_tried old starts.at_rest)

  goes_soundly : (past : List Line) (w : World) → IsSoundly past w → (step : Step) (event : Event) (new : World) → Part servers w step event new → Keeps (one_line w step event new) → IsSoundly (one_line w step event new ∷ past) new
  goes_soundly past w i step event new part keep =
      (steps_soundly on i.0 part keep, tried_on (record { messages = laws.messages; back = laws.back; written = laws.written }) i.0.ground i.1 (usable_reply on i.0) part)

  -- where memory stops it, the resolver is sound too
  pub stops_soundly : (new : State) → StopsAfter servers old steps new → IsSound r new
  stops_soundly new stop =
      let last = (run_kept Keeps IsSoundly first goes_soundly (keep_first steps stop.past stop.rest keep stop.steps_are) stop.history).0.sound in
      elim stop.state_is [ inl same ↦ rw same last | inr waiting ↦ rw waiting.wants.goes_on (laws.time r stop.last.state stop.last.moment last) ]

  module _ (t : Transcript) (new : State) (past : List Line) (tells : IsTranscriptOf servers old steps t new past) where
    each : (holds : List Line → Line → Type 0) → ((past : List Line) (w : World) → IsSoundly past w → (step : Step) (event : Event) (new : World) → Part servers w step event new → holds past (one_line w step event new)) → Each holds past
    each holds each_line = each_kept Keeps IsSoundly first goes_soundly holds each_line (keep_them steps past keep tells.steps_are) tells.history

    pub each_answer : Each (IsRightAnswer r) past
    each_answer = each (IsRightAnswer r) (λ past w i step event new. right_answer on i.0)

    pub each_reply : Each (IsRightReply r) past
    each_reply = each (IsRightReply r) (λ past w i step event new. right_reply on i.0)

    pub each_once : Each IsOnce past
    each_once = each IsOnce (λ past w i step event new. once_now i.0.ground)

    pub each_failure : Each IsRightFailureLine past
    each_failure = each IsRightFailureLine (λ past w i step event new. right_failure on i.0)

    pub each_no_reply : Each (IsRightNoReply r) past
    each_no_reply = each (IsRightNoReply r) (λ past w i step event new. right_no_reply on i.0 i.1)
