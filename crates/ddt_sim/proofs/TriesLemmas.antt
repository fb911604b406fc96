-- A lookup that ends for want of a reply has asked each of its servers twice in vain.
use Rattle.std.proofs.Common.{◌≡◌, ℕ, ◌+◌, ◌*◌, ◌/◌, ◌<◌, ◌≤◌, Bool, true, false, List, [], ◌∷◌, length, get_or, Some, None, Err, refl, sym, ap, ◌∙◌, subst, subst₂, arith, inl, inr, ne_eqb, eq-eqb}
use Rattle.std.specs.Prelude.{IsTrue, ◌==◌, if◌then◌else◌, slice_get}
use Rattle.std.specs.FinMap.{get}
use Rattle.std.proofs.lemmas.Bool.{cond-true, cond-false}
use Rattle.std.proofs.lemmas.Option.{none-some, same_Some, slice_get_within}
use Rattle.ddt_path.specs.declared.locator.Locator.{Locator}
use Rattle.ddt_path.specs.declared.record.ReferralRecord.{ReferralRecord}
use Rattle.ddt_path.specs.declared.xeid.Xeid.{Xeid}
use Rattle.ddt_path.specs.Path.{xeid_path, is_path}
use Rattle.ddt_ecm.specs.Request.{Message}
use Rattle.ddt_ecm.specs.laws.Statements.{WrittenSpells, message_of}
use Rattle.ddt_node.specs.Server.{IsDdtRequest}
use Rattle.ddt_wire.specs.Referral.{Spells, message_of as referral_of}
use Rattle.ddt_wire.specs.laws.Statements.{MessagesAreRead, RecordsComeBack}
use Rattle.ddt_resolver.specs.declared.pending.Pending.{Pending}
use Rattle.ddt_resolver.specs.declared.results.Heard.{Heard as Hearing}
use Rattle.ddt_resolver.specs.declared.results.Heard.TheVariants as heard_as
use Rattle.ddt_resolver.specs.declared.results.Why.TheVariants.{NoReply}
use Rattle.ddt_resolver.specs.declared.step.Reply.{Reply}
use Rattle.ddt_resolver.specs.declared.step.Reply.TheVariants.{ToDatagram}
use Rattle.ddt_resolver.specs.declared.step.Progress.{Progress}
use Rattle.ddt_resolver.specs.declared.step.Progress.TheVariants as progress
use Rattle.ddt_resolver.specs.State.{State, server, numbered, request, reply_timeout_ms, moved, tried_again, at_next}
use Rattle.ddt_resolver.specs.Step.{ResolverCall, progress_of}
use Rattle.ddt_resolver.specs.laws.Shape.{Goes, anew, keeps, repeats, goes_on, goes_sends, IsLastDue, Leaves, by_record, by_kept, by_loop, by_nobody, by_silence, by_nonce}
use Rattle.ddt_sim.specs.declared.schedule.Step.{Step}
use Rattle.ddt_sim.specs.declared.schedule.Step.TheVariants.{Deliver}
use Rattle.ddt_sim.specs.declared.schedule.Event.{Event}
use Rattle.ddt_sim.specs.declared.schedule.Event.TheVariants.{Heard}
use Rattle.ddt_sim.specs.declared.schedule.Datagram.{Datagram}
use Rattle.ddt_sim.specs.World.{World, Members, MayReply, request_in, request_from, reply_to, event_of, reply_at, progress_at, Resolves}
use Rattle.ddt_sim.specs.History.{Line, Among}
use Rattle.ddt_sim.specs.Tries.{Try, try_in, IsSentFor, IsReplyBy, IsHeardBy, IsUnanswered, request_to, IsInVain, IsLater, AreInVain, tries_before, tries_by, tries_of, WasInVain}
use Rattle.ddt_sim.specs.InForce.{IsNoReplyInForce}
use Rattle.ddt_sim.specs.laws.Ticket.{IsOf, PendingFrom, stayed, opened, went_on}
use Rattle.ddt_sim.proofs.GroundLemmas.{get_last, IsGround, unsent, answered, rest_ends, Part, one_line, Follows, follows, order_now, at_moment, reply_now, progress_now, came_by, heard_by, left_now}
use Rattle.ddt_sim.proofs.ReplyLemmas.{IsFor, IsUsable, late_or_taken}
use Rattle.ddt_sim.proofs.WaitingLemmas.{spelled_request}

-- ---- the tries of a ticket

-- what is of no ticket leaves its tries
untold_tries : (t : ℕ) (p : Progress) (these earlier : List Try) → (IsOf p t → ⊥) → tries_by t p these earlier ≡ earlier
untold_tries t (progress.Sends u d) these earlier non = cond-false (u == t) these earlier (ne_eqb u t non)
untold_tries t progress.Stays these earlier non = refl
untold_tries t (progress.Ends u end) these earlier non = refl

own_tries : (t : ℕ) (these earlier : List Try) → (if t == t then these else earlier) ≡ these
own_tries t these earlier = cond-true (t == t) these earlier (eq-eqb t t refl)

-- what a lookup hears is of its ticket
heard_of : (t : ℕ) (h : Hearing) → IsFor t h → IsOf (progress_of (ToDatagram h)) t
heard_of t (heard_as.Ignored why) is = is
heard_of t (heard_as.Followed u d) is = is
heard_of t (heard_as.Answer u o) is = is
heard_of t (heard_as.GaveUp u why) is = is

-- how many tries at its place a lookup has behind its last
abbrev pub behind : Bool → ℕ
behind true = 1
behind false = 0

-- where the server of its last try stands
half : (n p : ℕ) (b : Bool) → n ≡ 2 * p + behind b → n / 2 ≡ p
half n p true e = omega arith
half n p false e = omega arith

-- ---- the invariant

-- what a pending lookup has sent last
abbrev pub waits_for : Locator → Pending → Datagram
waits_for me l = request_to me l.nonce l.x (server me l)

-- bytes reply usably to a datagram: to each request that it spells, with its nonce and a record that is usable for its x
abbrev pub ReplyUsably : Datagram → List ℕ → Type 0
ReplyUsably d bytes = (m : Message) → IsTrue (is_path (xeid_path m.xeid)) → IsDdtRequest d.bytes m → (rec : ReferralRecord) × IsUsable rec (xeid_path m.xeid) × Spells bytes (referral_of m.nonce rec)

-- a datagram is the reply to a request, and usable
pub record IsReplyTo (sent : List Datagram) (reply number : ℕ) : Type 0 where
  pub request : Datagram
  pub bytes : List ℕ
  pub is_request : slice_get sent number ≡ Some request
  pub is_reply : slice_get sent reply ≡ Some (reply_to request bytes)
  pub usable : ReplyUsably request bytes

-- The tries of a lookup that keeps nothing: the last, which nothing replied to in time so far, and the others in vain.
pub record Trail (past : List Line) (w : World) (t : ℕ) (l : Pending) : Type 0 where
  pub last : Try
  pub sent : Among past (IsSentFor t last)
  pub datagram : slice_get w.sent last.number ≡ Some (waits_for w.state.me l)
  pub deadline : l.deadline ≡ last.moment + reply_timeout_ms
  pub unanswered : IsUnanswered past last
  pub earlier : List Try
  pub are_all : tries_of t past ≡ last ∷ earlier
  pub count : length earlier ≡ 2 * l.server_index + behind l.is_retry
  pub is_later : IsLater last earlier
  pub in_vain : AreInVain past w t l.servers l.x earlier

pub record IsTried (past : List Line) (w : World) : Type 0 where
  pub heard : (reply moment : ℕ) → Among past (IsHeardBy reply moment) → reply < length w.sent
  pub replied : (reply number : ℕ) → Among past (IsReplyBy reply number) → IsReplyTo w.sent reply number
  pub trails : (t : ℕ) (l : Pending) → get w.state.pending t ≡ Some l → l.last_not_registered ≡ None → Trail past w t l

-- all the tries of a lookup were in vain once the time of the last is over
all_vain : {past : List Line} {w : World} {t : ℕ} {l : Pending} (h : Trail past w t l) → h.last.moment + reply_timeout_ms ≤ w.moment → AreInVain past w t l.servers l.x (h.last ∷ h.earlier)
all_vain {l = l} h over = (record { sent = h.sent; nonce = l.nonce; request = rw (half (length h.earlier) l.server_index l.is_retry h.count) h.datagram; over = over; unanswered = h.unanswered }, h.is_later, h.in_vain)

-- what requests and replies as bytes stand on
pub record AreBytesRead : Type 0 where
  pub messages : MessagesAreRead
  pub back : RecordsComeBack
  pub written : WrittenSpells

-- ---- one more line

module _ (on : AreBytesRead) {servers : Members} {past : List Line} {w : World} (g : IsGround past w) (i : IsTried past w)
    (usable : (k : ℕ) (d : Datagram) (bytes : List ℕ) → slice_get w.sent k ≡ Some d → d.is_reply ≡ false → MayReply (servers.honest w.member) (servers.silent w.member) d.to d.bytes (Some bytes) → ReplyUsably d bytes)
    {step : Step} {event : Event} {new : World} (part : Part servers w step event new) where
  abbrev line : Line
  line = one_line w step event new

  abbrev s : State
  s = moved w.moment w.state

  f : Follows w new
  f = follows g part

  -- a reply takes the next number
  new_reply : (reply number : ℕ) → IsReplyBy reply number line → (reply ≡ length w.sent) × IsReplyTo new.sent reply number
  new_reply reply number h = elim part [
    | inl d ↦ absurd (cc (reply_now g d, ap reply_at h.1))
    | inr rest ↦ elim rest.adds [
      | unsent same other silent ↦ absurd (other reply h.1)
      | answered k d bytes is found kind may e sent ↦
          let last : reply ≡ length w.sent = cc (h.1, e) in let own : number ≡ k = cc (h.0, is) in
          (last, record { request = d; bytes = bytes; is_request = rw own (f.sent k d found); is_reply = rw (last, sent) (get_last w.sent (reply_to d bytes)); usable = usable k d bytes found kind may })
    ]
  ]

  reply_stays : (reply number : ℕ) → IsReplyTo w.sent reply number → IsReplyTo new.sent reply number
  reply_stays reply number h = record { request = h.request; bytes = h.bytes; is_request = f.sent number h.request h.is_request; is_reply = f.sent reply _ h.is_reply; usable = h.usable }

  -- Nothing changes for a request, unless a reply to it is heard now.
  unanswered_more : (try : Try) → IsUnanswered past try → ((reply : ℕ) (h : Hearing) → Among past (IsReplyBy reply try.number) → step ≡ Deliver reply → event ≡ Heard h → try.moment + reply_timeout_ms ≤ w.moment)
      → IsUnanswered (line ∷ past) try
  unanswered_more try old now reply came (inl p) (inl q) = absurd (cc (p.1, q.1.1))
  unanswered_more try old now reply came (inl p) (inr q) = let e = (new_reply reply try.number p).0 in let lt = i.heard reply came q in absurd (omega (arith, e, lt))
  unanswered_more try old now reply came (inr p) (inl q) = let d = now reply q.1.0 p q.0 q.1.1 in let m = q.2 in omega (arith, d, m)
  unanswered_more try old now reply came (inr p) (inr q) = old reply came p q

  vain_more : (t : ℕ) (to : Locator) (x : Xeid) (try : Try) → IsInVain past w t to x try → IsInVain (line ∷ past) new t to x try
  vain_more t to x try v = record {
    sent = inr v.sent;
    nonce = v.nonce;
    request = rw f.me (f.sent try.number _ v.request);
    over = let o = v.over in let le = f.later in omega (arith, o, le);
    unanswered = unanswered_more try v.unanswered (λ reply h p q did. v.over);
  }

  all_vain_more : (t : ℕ) (servers : List Locator) (x : Xeid) (tries : List Try) → AreInVain past w t servers x tries → AreInVain (line ∷ past) new t servers x tries
  all_vain_more t servers x [] v = tt
  all_vain_more t servers x (try ∷ earlier) v =
      (subst (λ me. IsInVain (line ∷ past) new t (get_or servers (length earlier / 2) me) x try) (sym f.me) (vain_more t (get_or servers (length earlier / 2) w.state.me) x try v.0), v.1, all_vain_more t servers x earlier v.2)

  -- a reply to a lookup of which nothing is told comes late
  heard_late : (t : ℕ) (l : Pending) → get w.state.pending t ≡ Some l → (h : Trail past w t l) → (IsOf (progress_at event) t → ⊥)
      → (reply : ℕ) (hearing : Hearing) → Among past (IsReplyBy reply h.last.number) → step ≡ Deliver reply → event ≡ Heard hearing → h.last.moment + reply_timeout_ms ≤ w.moment
  heard_late t l found h untold reply hearing replied is happened = elim part [
    | inl d ↦
        let p = i.replied reply h.last.number replied in
        let c = heard_by g d hearing happened in
        let same : c.0 ≡ reply = cc (c.2, is) in
        let came : c.1 ≡ reply_to p.request p.bytes = same_Some c.1 (reply_to p.request p.bytes) (sym c.3 ∙ ap (slice_get w.sent) same ∙ p.is_reply) in
        let asked : p.request ≡ waits_for w.state.me l = same_Some p.request (waits_for w.state.me l) (sym p.is_request ∙ h.datagram) in
        let from : c.1.source ≡ server w.state.me l = rw (came, asked) refl in
        let own = g.order.lookups t l found in
        let below = own.nonce in let last = g.order.next in
        let spells = spelled_request on.written l.nonce l.x w.state.me (omega (arith, below, last)) (g.fits t l found) in
        let given = p.usable (message_of l.nonce l.x (w.state.me ∷ []) true) own.lookup.identifier (rw asked (spells, refl)) in
        elim (late_or_taken on.messages on.back s (order_now g) t l found c.1.source from c.1.bytes given.0 given.1 (rw came given.2) d.state hearing c.5) [
          | inl late ↦ let e = h.deadline in let time = g.time in omega (arith, late, e, time)
          | inr told ↦ absurd (untold (rw happened (heard_of t hearing told)))
        ]
    | inr rest ↦ absurd (cc (rest.idle, ap reply_at happened))
  ]

  keeps_trail : (t : ℕ) (l : Pending) → get w.state.pending t ≡ Some l → l.last_not_registered ≡ None → (IsOf (progress_at event) t → ⊥) → Trail (line ∷ past) new t l
  keeps_trail t l found empty untold = let h = i.trails t l found empty in record {
    last = h.last;
    sent = inr h.sent;
    datagram = rw f.me (f.sent h.last.number _ h.datagram);
    deadline = h.deadline;
    unanswered = unanswered_more h.last h.unanswered (heard_late t l found h untold);
    earlier = h.earlier;
    are_all = untold_tries t (progress_at event) _ (tries_of t past) untold ∙ h.are_all;
    count = h.count;
    is_later = h.is_later;
    in_vain = all_vain_more t l.servers l.x h.earlier h.in_vain;
  }

  -- ---- what the resolver sends

  module _ (d : Resolves w step event new) where
    -- no reply to what is sent only now
    new_unanswered : IsUnanswered (line ∷ past) (try_in w)
    new_unanswered reply came (inl p) q = absurd (cc (reply_now g d, ap reply_at p.1))
    new_unanswered reply came (inr p) q =
        let e = i.replied reply (length w.sent) p in let lt = slice_get_within w.sent (length w.sent) e.request e.is_request in absurd (omega (arith, lt))

    new_trail : (t : ℕ) (l : Pending) → progress_at event ≡ progress.Sends t (request s l) → (earlier : List Try) → tries_before event (tries_of t past) ≡ earlier → length earlier ≡ 2 * l.server_index + behind l.is_retry
        → IsLater (try_in w) earlier → AreInVain (line ∷ past) new t l.servers l.x earlier → Trail (line ∷ past) new t (numbered s l)
    new_trail t l sends earlier before count is_later in_vain = record {
      last = try_in w;
      sent = inl ((request s l, sends), refl);
      datagram = rw (f.me, ap (λ (v : World). v.sent) d.goes_on, ap request_in sends) (get_last w.sent (request_from w.state.me (request s l)));
      deadline = let time = at_moment g in omega (arith, time);
      unanswered = new_unanswered;
      earlier = earlier;
      are_all = rw (sends, before) (own_tries t _ _);
      count = count;
      is_later = is_later;
      in_vain = in_vain;
    }

    longer_trail : (t : ℕ) (old l : Pending) → progress_at event ≡ progress.Sends t (request s l) → tries_before event (tries_of t past) ≡ tries_of t past → get w.state.pending t ≡ Some old → old.last_not_registered ≡ None
        → old.deadline ≤ s.known.time → l.servers ≡ old.servers → l.x ≡ old.x → 2 * l.server_index + behind l.is_retry ≡ 2 * old.server_index + behind old.is_retry + 1 → Trail (line ∷ past) new t (numbered s l)
    longer_trail t old l sends before found empty over servers x count =
        let h = i.trails t old found empty in
        let time = at_moment g in let deadline = h.deadline in let number = h.count in
        let vain = all_vain_more t old.servers old.x (h.last ∷ h.earlier) (all_vain h (omega (arith, time, deadline, over))) in
        new_trail t l sends (h.last ∷ h.earlier) (before ∙ h.are_all) (omega (arith, number, count))
        (slice_get_within w.sent h.last.number _ h.datagram) (subst₂ (λ set y. AreInVain (line ∷ past) new t set y (h.last ∷ h.earlier)) (sym servers) (sym x) vain)

    event_is : (a : Reply) → d.reply ≡ a → event ≡ event_of a
    event_is a e = d.tells ∙ ap event_of e

    gone_on : (t : ℕ) (old l : Pending) → get w.state.pending t ≡ Some old → Goes s d.call d.reply t old l → progress_at event ≡ progress.Sends t (request s l) → l.last_not_registered ≡ None → Trail (line ∷ past) new t (numbered s l)
    gone_on t old l found (anew e place first empty) sends none = new_trail t l sends [] (rw (event_is _ e) refl) (rw (place, first) refl) tt tt
    gone_on t old l found (keeps source bytes rec called taken e is) sends none = absurd (none-some rec (sym none ∙ ap (λ (z : Pending). z.last_not_registered) is))
    gone_on t old l found (repeats e over first is) sends none =
        rw is (longer_trail t old (tried_again old) (rw is at sends) (rw (event_is _ e) refl) found (rw is at none) over refl refl (rw first (omega arith)))
    gone_on t old l found (goes_on e over second room is) sends none =
        rw is (longer_trail t old (at_next old) (rw is at sends) (rw (event_is _ e) refl) found (rw is at none) over refl refl (rw second (omega arith)))

    trail_by : (t : ℕ) (l : Pending) → l.last_not_registered ≡ None → PendingFrom s d.call d.reply t l → Trail (line ∷ past) new t l
    trail_by t l none (stayed there other) = keeps_trail t l there none (λ of. other (rw (progress_now g d) at of))
    trail_by t l none (opened k is here called place first empty e) =
        rw (← is) (new_trail t k (rw (here, event_is _ e) refl) [] (rw (event_is _ e) refl) (rw (place, first) refl) tt tt)
    trail_by t l none (went_on old k is there x goes lookup) =
        rw (← is) (gone_on t old k there goes (progress_now g d ∙ goes_sends s d.call d.reply t old k goes) (rw (← is) at none))

  pub tried_on : IsTried (line ∷ past) new
  tried_on = record {
    heard = λ reply moment. elim [
      | inl h ↦ elim part [
        | inl d ↦ let c = heard_by g d h.1.0 h.1.1 in let same : c.0 ≡ reply = cc (c.2, h.0) in rw (← same) (slice_get_within new.sent c.0 c.1 (f.sent c.0 c.1 c.3))
        | inr rest ↦ absurd (cc (rest.idle, ap reply_at h.1.1))
      ]
      | inr h ↦ let lt = i.heard reply moment h in let le = f.longer in omega (arith, lt, le)
    ];
    replied = λ reply number. elim [
      | inl h ↦ (new_reply reply number h).1
      | inr h ↦ reply_stays reply number (i.replied reply number h)
    ];
    trails = λ t l found empty. elim part [
      | inl d ↦ trail_by d t l empty (came_by g d t l found)
      | inr rest ↦ keeps_trail t l (rw rest.state at found) empty (λ of. rw (rest_ends g rest) at of)
    ];
  }

-- ---- the end without a reply

-- it came at the last server of a lookup that keeps nothing
last_due : (s : State) (call : ResolverCall) (t : ℕ) (l : Pending) → Leaves s call t l (Err NoReply) → IsLastDue s call l × (l.last_not_registered ≡ None)
last_due s call t l (by_silence due empty is) = (due, empty)
last_due s call t l (by_record rec takes final is) = absurd (cc is)
last_due s call t l (by_kept rec due kept is) = absurd (cc is)
last_due s call t l (by_loop rec takes referral below is) = absurd (cc is)
last_due s call t l (by_nobody rec takes away start is) = absurd (cc is)
last_due s call t l (by_nonce none is) = absurd (cc is)

module _ {past : List Line} {w : World} (g : IsGround past w) (i : IsTried past w) where
  no_reply_now : (t : ℕ) (l : Pending) (call : ResolverCall) → get w.state.pending t ≡ Some l → IsLastDue (moved w.moment w.state) call l → l.last_not_registered ≡ None → WasInVain past w t
  no_reply_now t l call found d empty =
      let h : Trail past w t l = i.trails t l found empty in
      let within = (g.order.lookups t l found).lookup.place in
      let at_end = d.at_end in
      let count : length h.earlier ≡ 2 * l.server_index + 1 = h.count ∙ ap (λ b. 2 * l.server_index + behind b) d.second in
      let time = at_moment g in let deadline = h.deadline in let over = d.over in
      record {
        lookup = l;
        is_pending = found;
        its_ask = g.tickets.asked_for t l found;
        has_servers = omega (arith, within);
        two_each = rw h.are_all (omega (arith, within, at_end, count));
        in_vain = rw h.are_all (all_vain h (omega (arith, time, deadline, over)));
      }

  pub vain_now : {servers : Members} {step : Step} {event : Event} {new : World} → Part servers w step event new → IsNoReplyInForce past (one_line w step event new)
  vain_now (inl d) t ends = let left = left_now g d t (Err NoReply) ends in let due = last_due (moved w.moment w.state) d.call t left.0 left.2 in no_reply_now t left.0 d.call left.1 due.0 due.1
  vain_now (inr rest) t ends = absurd (cc (ends, rest_ends g rest))
