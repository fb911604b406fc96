-- What holds of each line of a run over registers that replace each other.
use Rattle.std.proofs.Common.{◌≡◌, ℕ, ◌+◌, ◌<◌, max, true, false, List, [], ◌∷◌, Option, Some, None, Ok, refl, sym, ap, ◌∙◌, arith, inl, inr, ◌⊎◌}
use Rattle.std.specs.Prelude.{IsTrue, slice_get}
use Rattle.std.specs.FinMap.{get}
use Rattle.std.proofs.lemmas.Bool.{false≢true}
use Rattle.std.proofs.lemmas.Option.{none-some}
use Rattle.ddt_path.specs.declared.record.Outcome.{Outcome}
use Rattle.ddt_path.specs.declared.record.Outcome.TheVariants.{NotRegistered}
use Rattle.ddt_path.specs.declared.xeid.Xeid.{Xeid}
use Rattle.ddt_path.specs.Covers.{covers}
use Rattle.ddt_path.specs.Path.{xeid_path, is_path}
use Rattle.ddt_register.specs.declared.register.Register.{Register}
use Rattle.ddt_check.specs.Assignment.{assignment}
use Rattle.ddt_check.specs.Says.{says}
use Rattle.ddt_ecm.specs.laws.Statements.{message_of}
use Rattle.ddt_node.specs.Server.{IsDdtRequest}
use Rattle.ddt_cache.specs.declared.cache_entry.Entry.{Entry}
use Rattle.ddt_cache.specs.Entry.{is_negative}
use Rattle.ddt_cache.specs.Found.{IsFound}
use Rattle.ddt_cache.specs.laws.Live.{live_at-is}
use Rattle.ddt_resolver.specs.declared.pending.Pending.{Pending}
use Rattle.ddt_resolver.specs.declared.results.Asked.TheVariants as asked_as
use Rattle.ddt_resolver.specs.declared.results.Ignored.{Ignored}
use Rattle.ddt_resolver.specs.declared.results.Ignored.TheVariants.{UnknownNonce, Late}
use Rattle.ddt_resolver.specs.declared.step.Reply.{Reply}
use Rattle.ddt_resolver.specs.declared.step.Reply.TheVariants.{ToAsk}
use Rattle.ddt_resolver.specs.State.{State, moved}
use Rattle.ddt_resolver.specs.Records.{outcome_at, outcome_of}
use Rattle.ddt_resolver.specs.MatchReply.{Ignores}
use Rattle.ddt_resolver.specs.AskStep as ask
use Rattle.ddt_resolver.specs.AskStep.{AskStep, answer_of}
use Rattle.ddt_resolver.specs.Step as resolver
use Rattle.ddt_resolver.specs.Step.{ResolverCall, asks, hears, ticks}
use Rattle.ddt_resolver.specs.Order.{IsStateInOrder}
use Rattle.ddt_resolver.specs.laws.Shape.{Leaves, by_record, by_kept, by_loop, by_nobody, by_silence, by_nonce}
use Rattle.ddt_sim.specs.declared.schedule.Step.{Step}
use Rattle.ddt_sim.specs.declared.schedule.Event.{Event}
use Rattle.ddt_sim.specs.declared.schedule.Datagram.{Datagram}
use Rattle.ddt_sim.specs.declared.schedule.Transcript.{Transcript}
use Rattle.ddt_sim.specs.Honest.{IsServer, IsHonestReply}
use Rattle.ddt_sim.specs.RunLaws.{LawsOfRuns}
use Rattle.ddt_sim.specs.Sound.{IsTrueEntry, delegates, registers, denies, IsNotRegistered}
use Rattle.ddt_sim.specs.World.{World, Members, MayReply, call_at, CallsResolver}
use Rattle.ddt_sim.specs.History.{Line, Among, Each, at_start, IsTranscriptOf}
use Rattle.ddt_sim.specs.Schedules.{IsOnce}
use Rattle.ddt_sim.specs.InForce.{in_force, SomeSince, most_age, IsAnswerSince, IsAnswerOfLate, IsReplyInForce, IsFailureInForce, IsNoReplyInForce, AreRegisters}
use Rattle.ddt_sim.specs.laws.Ticket.{among_map}
use Rattle.ddt_sim.proofs.GroundLemmas.{Part, one_line, served, order_now, at_moment, calls_at, answer_is, rest_ends, left_now, once_now, first_ground, each_kept}
use Rattle.ddt_sim.proofs.ReplyLemmas.{says_usable}
use Rattle.ddt_sim.proofs.ScheduleLemmas.{ignored_rightly}
use Rattle.ddt_sim.proofs.SinceLemmas.{since_map, since_any}
use Rattle.ddt_sim.proofs.SoundLemmas.{negative_is, referral_not_negative, kept_is}
use Rattle.ddt_sim.proofs.StatementLemmas.{gave_up_now, refused_now, ignored_now, first_tried}
use Rattle.ddt_sim.proofs.TriesLemmas.{IsTried, ReplyUsably, tried_on, vain_now}
use Rattle.ddt_sim.proofs.InForceLemmas.{server_or_not, HasLaws, IsAsked, IsSent, tells, IsYoung, WasYoung, IsAged, IsSaid, IsSpelled, said_outcome, was_asked, heard_since, spelled, aged_on}
use Rattle.ddt_sim.proofs.InForceLemmas as aged

module _ {servers : Members} {of : ℕ → Register} (on : HasLaws servers of) {past : List Line} {w : World} (i : IsAged servers of past w) {step : Step} {event : Event} {new : World} (part : Part servers w step event new) where
  abbrev line : Line
  line = one_line w step event new

  abbrev s : State
  s = moved w.moment w.state

  -- ---- answers to tickets

  outcome_since : (call : ResolverCall) → CallsResolver w step call → (t : ℕ) (o : Outcome) (l : Pending) → get w.state.pending t ≡ Some l → Leaves s call t l (Ok o) → SomeSince t (λ at. o ≡ assignment (in_force of at) (xeid_path l.x)) past
  outcome_since call calls t o l found (by_record rec takes final e) =
      let own : o ≡ outcome_of rec = cc e in
      let h = heard_since on i calls takes in
      since_map t (IsSaid servers of rec l.x h.0) (λ at. o ≡ assignment (in_force of at) (xeid_path l.x)) (λ at said. own ∙ said_outcome on l.x at said final) past h.2
  outcome_since call calls t o l found (by_kept rec due kept e) =
      let own : o ≡ NotRegistered rec.prefix rec.servers = cc e in
      since_map t (λ at. IsNotRegistered (in_force of at) (xeid_path l.x) rec) (λ at. o ≡ assignment (in_force of at) (xeid_path l.x)) (λ at h. own ∙ kept_is (in_force of at) (xeid_path l.x) rec h) past (i.kept t l rec found kept)
  outcome_since call calls t o l found (by_loop rec takes referral below e) = absurd (cc e)
  outcome_since call calls t o l found (by_nobody rec takes away start e) = absurd (cc e)
  outcome_since call calls t o l found (by_silence due empty e) = absurd (cc e)
  outcome_since call calls t o l found (by_nonce over e) = absurd (cc e)

  pub answer_since : IsAnswerSince of past line
  answer_since t o ends = elim part [
    | inl d ↦ let l = left_now i.ground d t (Ok o) ends in (l.0.x, i.ground.tickets.asked_for t l.0 l.1, outcome_since d.call d.calls t o l.0 l.1 l.2)
    | inr rest ↦ absurd (cc (ends, rest_ends i.ground rest))
  ]

  -- ---- answers at once

  found_young : (x : Xeid) (p : List ℕ) (e : Entry) (o : Outcome) → IsTrue (is_path (xeid_path x)) → IsFound s.known (xeid_path x) p e → answer_of p e ≡ Some o
      → Among (line ∷ past) (λ at. (w.moment < at.before.moment + most_age) × (o ≡ assignment (in_force of at) (xeid_path x)))
  found_young x p e o id (inr root) answer = absurd (none-some o (sym (ap (λ (f : Entry). answer_of p f) root.entry) ∙ answer))
  found_young x p e o id (inl found) answer =
      let own = negative_is e.action p e.servers o answer in
      let was = live_at-is (Rattle.std.proofs.Common.max w.state.known.time w.moment) w.state.known.live p e found.value in
      let live = ((order_now i.ground).known.entries p e found.value).live in
      let time = at_moment i.ground in
      among_map (line ∷ past) (λ at. IsYoung of p e at.before.moment at.before.member) (λ at. (w.moment < at.before.moment + most_age) × (o ≡ assignment (in_force of at) (xeid_path x)))
      (λ at h. let y = h.young in (omega (arith, y, live, time), own.1 ∙ sym (h.is_true (xeid_path x) id found.covers_it))) (i.entries p e was.0 own.0)

  at_once_by : (call : ResolverCall) (after : State) (a : Reply) (x : Xeid) (o : Outcome) → resolver.Step s call after a → call ≡ resolver.Ask x → a ≡ ToAsk (Ok (asked_as.Answer o))
      → Among (line ∷ past) (λ at. (w.moment < at.before.moment + most_age) × (o ≡ assignment (in_force of at) (xeid_path x)))
  at_once_by call after a x o (hears source bytes h step called to) is told = absurd (cc (is, called))
  at_once_by call after a x o (ticks h step called to) is told = absurd (cc (is, called))
  at_once_by call after a x o (asks y res id step called to) is told =
      let same : y ≡ x = cc (called, is) in let given : res ≡ Ok (asked_as.Answer o) = cc (to, told) in
      elim step.start [
        | ask.cached v answer e f ↦ let one : v ≡ o = cc (given, f) in found_young x step.prefix step.entry o (rw same at id) (rw same at step.found) (answer ∙ ap Some one)
        | ask.full none many e f ↦ absurd (cc (given, f))
        | ask.used_up none few over e f ↦ absurd (cc (given, f))
        | ask.opened free e f ↦ absurd (cc (given, f))
      ]

  pub answer_of_late : IsAnswerOfLate of past line
  answer_of_late x o is e = elim part [
    | inl d ↦ at_once_by d.call d.state d.reply x o d.does (calls_at d.calls ∙ ap (call_at w.sent) is) (answer_is i.ground d (ToAsk (Ok (asked_as.Answer o))) e)
    | inr rest ↦ absurd (cc (rest.idle, e))
  ]

  -- ---- replies

  pub reply_in_force : IsReplyInForce of past line
  reply_in_force k d is found kind = elim (served part k d is found kind) [
    | inl h ↦ (
      λ is_server. record { request = message_of q.0 q.1 (w.state.me ∷ []) true; reply = h.0; asks = q.5; honest = honestly (Some h.0) h.1 is_server; replied = h.2; sent = h.3 },
      λ none. absurd (none-some h.0 (sym (h.1.silently (of w.member) (on.silent w.member i.within) none))),
    )
    | inr h ↦ (λ is_server. absurd (honestly None h.0 is_server), λ none. (h.1, h.2))
  ]
    where
      q : (nonce : ℕ) × (x : Xeid) × (t : ℕ) × (m : ℕ) × IsAsked past w d.to nonce x t m × IsDdtRequest d.bytes (message_of nonce x (w.state.me ∷ []) true)
      q = spelled on i d (i.sent k d found) kind

      honestly : (reply : Option (List ℕ)) → MayReply (servers.honest w.member) (servers.silent w.member) d.to d.bytes reply → IsServer (of w.member) d.to → IsHonestReply (of w.member) d.to (message_of q.0 q.1 (w.state.me ∷ []) true) reply
      honestly reply may is_server = may.honestly (of w.member) (message_of q.0 q.1 (w.state.me ∷ []) true) (on.honest w.member i.within) is_server q.5

  -- ---- failures

  sent_ignored : (k : ℕ) (d : Datagram) → slice_get w.sent k ≡ Some d → d.is_reply ≡ true → (why : Ignored) → Ignores s d.source d.bytes why → (why ≡ UnknownNonce) ⊎ (why ≡ Late)
  sent_ignored k d found kind why ignores = elim (i.sent k d found) [
    | aged.asks nonce x t m a is bytes ↦ absurd (false≢true (sym is ∙ kind))
    | tells nonce x t m a is h ↦ let any = since_any t (IsSpelled servers of d.source d.bytes nonce x m) past h in ignored_rightly (on.read any.0.before.member any.1.within) d.bytes (was_asked on i a any.1.is_server) any.1.spells why ignores
  ]

  pub failure_in_force : IsFailureInForce past line
  failure_in_force = record {
    gave_up = gave_up_now i.ground part;
    ignored = ignored_now i.ground part sent_ignored;
    refused = refused_now i.ground part;
  }

  -- the replies of the servers in force are usable
  pub usable_in_force : (k : ℕ) (d : Datagram) (bytes : List ℕ) → slice_get w.sent k ≡ Some d → d.is_reply ≡ false → MayReply (servers.honest w.member) (servers.silent w.member) d.to d.bytes (Some bytes) → ReplyUsably d bytes
  usable_in_force k d bytes found kind may m id asks_it = elim (server_or_not (of w.member) d.to) [
    | inl is_server ↦ (
      says (of w.member) d.to (xeid_path m.xeid),
      says_usable (of w.member) (on.read w.member i.within) d.to (xeid_path m.xeid) id,
      may.honestly (of w.member) m (on.honest w.member i.within) is_server asks_it,
    )
    | inr none ↦ absurd (none-some bytes (sym (may.silently (of w.member) (on.silent w.member i.within) none)))
  ]

-- ---- a run

-- a negative entry that is true for a register says what it assigns
true_negative : (r : Register) (p : List ℕ) (e : Entry) → IsTrueEntry r p e → IsTrue (is_negative e.action) → (y : List ℕ) → IsTrue (is_path y) → IsTrue (covers p y) → assignment r y ≡ outcome_at e.action p e.servers
true_negative r p e (denies neg h) is = h
true_negative r p e (delegates z there same action servers) is = absurd (false≢true (sym (ap is_negative action ∙ referral_not_negative z.kind) ∙ is))
true_negative r p e (registers site z there same action its_zone servers) is = absurd (false≢true (sym (ap is_negative action) ∙ is))

module _ (laws : LawsOfRuns) (servers : Members) (old : State) (o : IsStateInOrder old) (steps : List Step) (some : 0 < servers.count) (of : ℕ → Register) (are : AreRegisters servers of old) where
  stands : HasLaws servers of
  stands = record {
    honest = are.honest;
    silent = are.silent;
    read = λ k lt. let a = are.accepted k lt in record { messages = laws.messages; back = laws.back; cover = laws.cover (of k) a; servers = laws.servers (of k) a; sendable = laws.sendable (of k) a };
    decided = λ k lt. laws.decided (of k) (are.accepted k lt);
    negatives = λ k lt. laws.negatives (of k) (are.accepted k lt);
    written = laws.written;
  }

  -- the run keeps what holds of it, and the tries of its lookups are known
  abbrev IsAgedly : List Line → World → Type 0
  IsAgedly past w = IsAged servers of past w × IsTried past w

  first : IsAgedly [] (at_start old)
  first = (
    record {
      ground = first_ground old o are.starts.at_rest;
      within = some;
      sent = λ k d found. absurd (none-some d found);
      entries = λ p e found neg. inl (record {
        young = let le = (o.known.entries p e found).negative neg in omega (arith, le);
        is_true = true_negative (of 0) p e (are.starts.sound.entries p e found) neg;
      });
      kept = λ t l rec found. absurd (none-some l (sym (are.starts.at_rest t) ∙ found));
    },
    first_tried old are.starts.at_rest,
  )

  goes_agedly : (past : List Line) (w : World) → IsAgedly past w → (step : Step) (event : Event) (new : World) → Part servers w step event new → Unit {0} → IsAgedly (one_line w step event new ∷ past) new
  goes_agedly past w i step event new part any =
      (aged_on stands i.0 part, tried_on (record { messages = laws.messages; back = laws.back; written = laws.written }) i.0.ground i.1 (usable_in_force stands i.0 part) part)

  any_lines : (past : List Line) → Each (λ past line. Unit {0}) past
  any_lines [] = tt
  any_lines (_ ∷ past) = (tt, any_lines past)

  module _ (t : Transcript) (new : State) (past : List Line) (told : IsTranscriptOf servers old steps t new past) where
    each : (holds : List Line → Line → Type 0) → ((past : List Line) (w : World) → IsAgedly past w → (step : Step) (event : Event) (new : World) → Part servers w step event new → holds past (one_line w step event new)) → Each holds past
    each holds each_line = each_kept (λ line. Unit {0}) IsAgedly first goes_agedly holds each_line (any_lines past) told.history

    pub each_since : Each (IsAnswerSince of) past
    each_since = each (IsAnswerSince of) (λ past w i step event new. answer_since stands i.0)

    pub each_of_late : Each (IsAnswerOfLate of) past
    each_of_late = each (IsAnswerOfLate of) (λ past w i step event new. answer_of_late stands i.0)

    pub each_reply_in_force : Each (IsReplyInForce of) past
    each_reply_in_force = each (IsReplyInForce of) (λ past w i step event new. reply_in_force stands i.0)

    pub each_once_in_force : Each IsOnce past
    each_once_in_force = each IsOnce (λ past w i step event new. once_now i.0.ground)

    pub each_failure_in_force : Each IsFailureInForce past
    each_failure_in_force = each IsFailureInForce (λ past w i step event new. failure_in_force stands i.0)

    pub each_no_reply_in_force : Each IsNoReplyInForce past
    each_no_reply_in_force = each IsNoReplyInForce (λ past w i step event new. vain_now i.0.ground i.1)
