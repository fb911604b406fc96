-- What each step keeps of a run over registers that replace each other.
use Rattle.std.proofs.Common.{◌≡◌, ℕ, ◌+◌, ◌<◌, ◌≤◌, ◌^◌, true, false, List, [], ◌∷◌, Option, Some, None, refl, sym, ap, ◌∙◌, subst, arith, inl, inr, ◌⊎◌, max}
use Rattle.std.specs.Prelude.{IsTrue, slice_get, find}
use Rattle.std.specs.FinMap.{get}
use Rattle.std.proofs.lemmas.Bool.{false≢true}
use Rattle.std.proofs.lemmas.Option.{none-some, same_Some}
use Rattle.ddt_path.specs.declared.locator.Locator.{Locator}
use Rattle.ddt_path.specs.declared.record.ReferralRecord.{ReferralRecord}
use Rattle.ddt_path.specs.declared.xeid.Xeid.{Xeid}
use Rattle.ddt_path.specs.Covers.{covers}
use Rattle.ddt_path.specs.Locators.{lists}
use Rattle.ddt_path.specs.Path.{xeid_path, is_path}
use Rattle.ddt_path.specs.Records.{record_of}
use Rattle.ddt_path.specs.laws.Member.{in_contained, contained, found_in, found_passes, unfound}
use Rattle.ddt_register.specs.declared.group.Group.{Group}
use Rattle.ddt_register.specs.declared.register.Register.{Register}
use Rattle.ddt_check.specs.Assignment.{assignment}
use Rattle.ddt_check.specs.Says.{says}
use Rattle.ddt_check.specs.laws.Statements.{IsFinal, FinalAnswersAreTheAssignment, NegativesHoldOfAll, negative_prefix}
use Rattle.ddt_wire.specs.Referral.{Spells, message_of as referral_of}
use Rattle.ddt_ecm.specs.laws.Statements.{WrittenSpells, message_of}
use Rattle.ddt_node.specs.Server.{IsDdtRequest}
use Rattle.ddt_cache.specs.declared.cache_entry.Entry.{Entry}
use Rattle.ddt_cache.specs.Entry.{is_negative}
use Rattle.ddt_resolver.specs.declared.pending.Pending.{Pending}
use Rattle.ddt_resolver.specs.State.{State, moved, request_bytes, server, reply_timeout_ms, numbered}
use Rattle.ddt_resolver.specs.Records.{outcome_at, outcome_of}
use Rattle.ddt_resolver.specs.Step.{ResolverCall}
use Rattle.ddt_resolver.specs.laws.Shape.{Takes, Goes, anew, keeps, repeats, goes_on}
use Rattle.ddt_sim.specs.declared.schedule.Step.{Step}
use Rattle.ddt_sim.specs.declared.schedule.Event.{Event}
use Rattle.ddt_sim.specs.declared.schedule.Datagram.{Datagram}
use Rattle.ddt_sim.specs.Honest.{IsServer}
use Rattle.ddt_sim.specs.Sound.{IsNotRegistered}
use Rattle.ddt_sim.specs.Waiting.{CanBeAsked}
use Rattle.ddt_sim.specs.World.{World, Members, MayReply, reply_to, CallsResolver, asked, heard, ticked, Resolves}
use Rattle.ddt_sim.specs.History.{Line, Among}
use Rattle.ddt_sim.specs.Schedules.{IsOpened, AsksFor}
use Rattle.ddt_sim.specs.InForce.{in_force, SomeSince, most_age}
use Rattle.ddt_sim.proofs.GroundLemmas.{IsGround, Follows, IsNew, Part, one_line, member_on, order_now, at_moment, is_moved, state_is, came_by, ground_on, follows, sent_by}
use Rattle.ddt_sim.proofs.ReplyLemmas.{RepliesAreRead}
use Rattle.ddt_sim.proofs.ScheduleLemmas.{WasAsked, told}
use Rattle.ddt_sim.proofs.SinceLemmas.{since_map, since_any, since_among, IsSaved, was_or_saved, negative_final}
use Rattle.ddt_sim.proofs.SoundLemmas.{outcome_back, negative_of, unregistered_record}
use Rattle.ddt_sim.proofs.WaitingLemmas.{spelled_request}
use Rattle.ddt_path.specs.declared.action.Action.TheVariants.{MsNotRegistered}
use Rattle.ddt_cache.specs.laws.Live.{live_at-is}
use Rattle.ddt_resolver.specs.Order.{IsLookup}
use Rattle.ddt_sim.specs.laws.Ticket.{among_map, PendingFrom, stayed, opened, went_on}
use Rattle.ddt_sim.proofs.GroundLemmas as ground

-- a locator is a server's or isn't
pub server_or_not : (r : Register) (l : Locator) → IsServer r l ⊎ (IsServer r l → ⊥)
server_or_not r l = by (find (λ (g : Group). lists g.locators l) r.groups) refl
  where
    by : (found : Option Group) → find (λ (g : Group). lists g.locators l) r.groups ≡ found → IsServer r l ⊎ (IsServer r l → ⊥)
    by (Some g) e = inl (g, contained r.groups g (found_in (λ (h : Group). lists h.locators l) r.groups g e), found_passes (λ (h : Group). lists h.locators l) r.groups g e)
    by None e = inr (λ s. false≢true (sym (unfound (λ (h : Group). lists h.locators l) r.groups s.0 e (in_contained r.groups s.0 s.1)) ∙ s.2))

-- what a run over replaced registers stands on
pub record HasLaws (servers : Members) (registers : ℕ → Register) : Type 0 where
  pub honest : (k : ℕ) → k < servers.count → servers.honest k (registers k)
  pub silent : (k : ℕ) → k < servers.count → servers.silent k (registers k)
  pub read : (k : ℕ) → k < servers.count → RepliesAreRead (registers k)
  pub decided : (k : ℕ) → k < servers.count → FinalAnswersAreTheAssignment (registers k)
  pub negatives : (k : ℕ) → k < servers.count → NegativesHoldOfAll (registers k)
  pub written : WrittenSpells

-- ---- the invariant

-- The resolver has asked `to` for x with this nonce, for the ticket t at the moment m. A pending lookup whose last request
-- has this nonce is that one.
pub record IsAsked (past : List Line) (w : World) (to : Locator) (nonce : ℕ) (x : Xeid) (t m : ℕ) : Type 0 where
  pub fits : CanBeAsked x w.state.me
  pub id : IsTrue (is_path (xeid_path x))
  pub below : nonce < w.state.next
  pub opened : Among past (IsOpened t)
  pub before : m ≤ w.moment
  pub waits : (u : ℕ) (l : Pending) → get w.state.pending u ≡ Some l → l.nonce ≡ nonce → (u ≡ t) × (l.x ≡ x) × (server w.state.me l ≡ to) × (l.deadline ≡ m + reply_timeout_ms)

-- at a line, of the moment m or a later one, the register in force says this in a reply of this nonce
pub record IsSpelled (servers : Members) (registers : ℕ → Register) (source : Locator) (bytes : List ℕ) (nonce : ℕ) (x : Xeid) (m : ℕ) (line : Line) : Type 0 where
  pub late : m ≤ line.before.moment
  pub within : line.before.member < servers.count
  pub is_server : IsServer (in_force registers line) source
  pub spells : Spells bytes (referral_of nonce (says (in_force registers line) source (xeid_path x)))

-- a datagram is a request, or the reply to one by the servers in force at some line since its ask
pub data IsSent (servers : Members) (registers : ℕ → Register) (past : List Line) (w : World) (d : Datagram) : Type 0 where
  asks : (nonce : ℕ) (x : Xeid) (t m : ℕ) → IsAsked past w d.to nonce x t m → d.is_reply ≡ false → d.bytes ≡ request_bytes nonce x w.state.me → IsSent servers registers past w d
  tells : (nonce : ℕ) (x : Xeid) (t m : ℕ) → IsAsked past w d.source nonce x t m → d.is_reply ≡ true → SomeSince t (IsSpelled servers registers d.source d.bytes nonce x m) past → IsSent servers registers past w d

-- a negative entry is true for a register that was in force at a moment, less than 902,000 milliseconds before its end
pub record IsYoung (registers : ℕ → Register) (p : List ℕ) (e : Entry) (moment member : ℕ) : Type 0 where
  pub young : e.end < moment + most_age
  pub is_true : (y : List ℕ) → IsTrue (is_path y) → IsTrue (covers p y) → assignment (registers member) y ≡ outcome_at e.action p e.servers

abbrev pub WasYoung : (ℕ → Register) → List ℕ → Entry → List Line → World → Type 0
WasYoung registers p e past w =
    IsYoung registers p e w.moment w.member ⊎ Among past (λ line. IsYoung registers p e line.before.moment line.before.member)

pub record IsAged (servers : Members) (registers : ℕ → Register) (past : List Line) (w : World) : Type 0 where
  pub ground : IsGround past w
  pub within : w.member < servers.count
  pub sent : (k : ℕ) (d : Datagram) → slice_get w.sent k ≡ Some d → IsSent servers registers past w d
  pub entries : (p : List ℕ) (e : Entry) → get w.state.known.live p ≡ Some e → IsTrue (is_negative e.action) → WasYoung registers p e past w
  pub kept : (t : ℕ) (l : Pending) (rec : ReferralRecord) → get w.state.pending t ≡ Some l → l.last_not_registered ≡ Some rec → SomeSince t (λ line. IsNotRegistered (in_force registers line) (xeid_path l.x) rec) past

-- ---- a reply that is taken

-- at a line, of the moment m or a later one, a server says this record of x
abbrev pub IsSaid : Members → (ℕ → Register) → ReferralRecord → Xeid → ℕ → Line → Type 0
IsSaid servers registers rec x m line =
    (m ≤ line.before.moment) × (line.before.member < servers.count) × ((from : Locator) × (rec ≡ says (in_force registers line) from (xeid_path x)))

module _ {servers : Members} {registers : ℕ → Register} (on : HasLaws servers registers) where
  -- a final record that is said is that of the assignment
  pub said_final : {rec : ReferralRecord} (x : Xeid) {m : ℕ} (line : Line) → IsSaid servers registers rec x m line → IsFinal rec.action → rec ≡ record_of (assignment (in_force registers line) (xeid_path x))
  said_final x line h k = h.2.1 ∙ on.decided line.before.member h.1 h.2.0 (xeid_path x) (rw h.2.1 at k)

  pub said_outcome : {rec : ReferralRecord} (x : Xeid) {m : ℕ} (line : Line) → IsSaid servers registers rec x m line → IsFinal rec.action → outcome_of rec ≡ assignment (in_force registers line) (xeid_path x)
  said_outcome x line h k = ap outcome_of (said_final x line h k) ∙ outcome_back (assignment (in_force registers line) (xeid_path x))

  module _ {past : List Line} {w : World} (i : IsAged servers registers past w) where
    abbrev s : State
    s = moved w.moment w.state

    pub was_asked : {r : Register} {to : Locator} {nonce : ℕ} {x : Xeid} {t m : ℕ} → IsAsked past w to nonce x t m → IsServer r to → WasAsked r (moved w.moment w.state) to nonce x
    was_asked a is_server = record { is_server = is_server; fits = a.fits; id = a.id; below = a.below; waits = λ u l found same. let e = a.waits u l found same in (e.1, e.2) }

    -- a record that is taken was said since the ask, and not before its last request
    pub heard_since : {step : Step} {call : ResolverCall} → CallsResolver w step call → {t : ℕ} {l : Pending} {rec : ReferralRecord} → Takes (moved w.moment w.state) call t l rec → (m : ℕ) × (l.deadline ≡ m + reply_timeout_ms) × SomeSince t (IsSaid servers registers rec l.x m) past
    heard_since (asked x fits e f) takes = absurd (cc (takes.called, f))
    heard_since (ticked e f) takes = absurd (cc (takes.called, f))
    heard_since (heard k d e found kind f) {t = t} {l = l} {rec = rec} takes = elim (i.sent k d found) [
      | asks nonce x u m a other bytes_are ↦ absurd (false≢true (sym other ∙ kind))
      | tells nonce x u m a reply since ↦
          let text : takes.bytes ≡ d.bytes = cc (takes.called, f) in
          let reply_is = takes.taken.in_time.from_server.reply in
          let says_it : (line : Line) → IsSpelled servers registers d.source d.bytes nonce x m line → (l.nonce ≡ nonce) × (rec ≡ says (in_force registers line) d.source (xeid_path x)) =
          λ line h. told (on.read line.before.member h.within) d.bytes (was_asked a h.is_server) h.spells l.nonce rec (rw text at reply_is.tells) in
          let any = since_any u (IsSpelled servers registers d.source d.bytes nonce x m) past since in
          let own = a.waits t l reply_is.is_pending (says_it any.0 any.1).0 in (
            m,
            own.3,
            subst (λ v. SomeSince v (IsSaid servers registers rec l.x m) past) (sym own.0)
                (since_map u (IsSpelled servers registers d.source d.bytes nonce x m) (IsSaid servers registers rec l.x m)
                (λ line h. (h.late, h.within, (d.source, (says_it line h).1 ∙ ap (λ y. says (in_force registers line) d.source (xeid_path y)) (sym own.1)))) past since),
          )
    ]

    -- ---- a request that is delivered

    -- it spells one, with its identifier
    pub spelled : (d : Datagram) → IsSent servers registers past w d → d.is_reply ≡ false
        → (nonce : ℕ) × (x : Xeid) × (t : ℕ) × (m : ℕ) × IsAsked past w d.to nonce x t m × IsDdtRequest d.bytes (message_of nonce x (w.state.me ∷ []) true)
    spelled d (tells nonce x t m a is since) kind = absurd (false≢true (sym kind ∙ is))
    spelled d (asks nonce x t m a is bytes) kind =
        let below = a.below in let last = i.ground.order.next in
        let few : nonce < 2 ^ 64 = omega (arith, below, last) in
        (nonce, x, t, m, a, rw bytes (spelled_request on.written nonce x w.state.me few a.fits, refl))

    -- ---- one more line

    module _ {step : Step} {event : Event} {new : World} (part : Part servers w step event new) where
      abbrev line : Line
      line = one_line w step event new

      f : Follows w new
      f = follows i.ground part

      -- what was asked before
      asked_still : {to : Locator} {nonce : ℕ} {x : Xeid} {t m : ℕ} → IsAsked past w to nonce x t m → IsAsked (line ∷ past) new to nonce x t m
      asked_still a = let below = a.below in let more = f.grows in let before = a.before in let le = f.later in record {
        fits = rw f.me a.fits;
        id = a.id;
        below = omega (arith, below, more);
        opened = inr a.opened;
        before = omega (arith, before, le);
        waits = λ u l found is. rw f.me (a.waits u l (f.older u l found (omega (arith, below, is))) is);
      }

      sent_still : (d : Datagram) → IsSent servers registers past w d → IsSent servers registers (line ∷ past) new d
      sent_still d (asks nonce x t m a is bytes) = asks nonce x t m (asked_still a) is (rw f.me bytes)
      sent_still d (tells nonce x t m a is since) = tells nonce x t m (asked_still a) is (inr since)

      -- what comes back is a reply of the register in force
      replied : (d : Datagram) (bytes : List ℕ) → IsSent servers registers past w d → d.is_reply ≡ false → MayReply (servers.honest w.member) (servers.silent w.member) d.to d.bytes (Some bytes) → IsSent servers registers (line ∷ past) new (reply_to d bytes)
      replied d bytes sent kind may = elim (server_or_not (registers w.member) d.to) [
        | inl is_server ↦ let q = spelled d sent kind in tells q.0 q.1 q.2 q.3 (asked_still q.4) refl (inl (
          inr q.4.opened,
          record {
            late = q.4.before;
            within = i.within;
            is_server = is_server;
            spells = may.honestly (registers w.member) (message_of q.0 q.1 (w.state.me ∷ []) true) (on.honest w.member i.within) is_server q.5;
          },
        ))
        | inr none ↦ absurd (none-some bytes (sym (may.silently (registers w.member) (on.silent w.member i.within) none)))
      ]

      new_sent : (d : Datagram) → IsNew servers w new d → IsSent servers registers (line ∷ past) new d
      new_sent d (ground.reply k c bytes found kind may is) = rw (← is) (replied c bytes (i.sent k c found) kind may)
      new_sent d (ground.request t l h is) = rw (← is) (asks w.state.next l.x t w.moment own refl (rw f.me refl))
        where
          own : IsAsked (line ∷ past) new (server w.state.me l) w.state.next l.x t w.moment
          own = record {
            fits = (ground_on i.ground part).fits t (numbered s l) h.pending;
            id = h.lookup.identifier;
            below = h.below;
            opened = among_map (line ∷ past) (AsksFor t l.x) (IsOpened t) (λ z asks. asks.1) ((ground_on i.ground part).tickets.asked_for t (numbered s l) h.pending);
            before = f.later;
            waits = λ u k found same. let e = h.alone u k found same in rw (f.me, ← e.1) (e.0, refl, refl, ap (λ n. n + reply_timeout_ms) (at_moment i.ground));
          }

      module _ (d : Resolves w step event new) where
        module _ (p : List ℕ) (e : Entry) (found : get d.state.known.live p ≡ Some e) (neg : IsTrue (is_negative e.action)) (saved : IsSaved s d.call p e) where
          abbrev m : ℕ
          m = (heard_since d.calls saved.takes).0

          due : saved.lookup.deadline ≡ m + reply_timeout_ms
          due = (heard_since d.calls saved.takes).1

          id : IsTrue (is_path (xeid_path saved.lookup.x))
          id = ((order_now i.ground).lookups saved.ticket saved.lookup saved.takes.taken.in_time.from_server.reply.is_pending).lookup.identifier

          told_neg : IsTrue (is_negative saved.told.action)
          told_neg = rw saved.is_entry at neg

          soon : e.end ≤ w.moment + 900000
          soon =
              let moves = is_moved i.ground d in
              let le = (moves.known.entries p e found).negative neg in let one = moves.time in let two = at_moment i.ground in omega (arith, le, one, two)

          young_at : (at : Line) → IsSaid servers registers saved.told saved.lookup.x m at → IsYoung registers p e at.before.moment at.before.member
          young_at at said =
              let final = negative_final saved.told.action told_neg in
              let is = said_final saved.lookup.x at said final in
              let q : negative_prefix (assignment (in_force registers at) (xeid_path saved.lookup.x)) ≡ Some saved.told.prefix =
              negative_of (assignment (in_force registers at) (xeid_path saved.lookup.x)) (subst (λ (v : ReferralRecord). IsTrue (is_negative v.action)) is told_neg) ∙ ap (λ (v : ReferralRecord). Some v.prefix) (sym is) in
              let law = on.negatives at.before.member said.1 (xeid_path saved.lookup.x) saved.told.prefix id q in
              let out = said_outcome saved.lookup.x at said final in
              record {
                young = let late = said.0 in let early = saved.takes.taken.in_time.early in let two = at_moment i.ground in omega (arith, soon, late, early, due, two);
                is_true = rw (saved.is_prefix, saved.is_entry) (λ y y_id c. law.1 y y_id c ∙ sym out);
              }

        entries_now : (p : List ℕ) (e : Entry) → get d.state.known.live p ≡ Some e → IsTrue (is_negative e.action) → WasYoung registers p e (line ∷ past) new
        entries_now p e found neg = elim (was_or_saved s d.call d.state p e found d.reply d.does) [
          | inl there ↦ inr (i.entries p e (live_at-is (max w.state.known.time w.moment) w.state.known.live p e there).0 neg)
          | inr saved ↦ inr (inr (since_among saved.ticket (IsSaid servers registers saved.told saved.lookup.x (m p e found neg saved)) (λ at. IsYoung registers p e at.before.moment at.before.member) (young_at p e found neg saved) past
              (heard_since d.calls saved.takes).2))
        ]

        -- ---- kept records

        kept_goes : (t : ℕ) (old k : Pending) (rec : ReferralRecord) → get w.state.pending t ≡ Some old → Goes s d.call d.reply t old k → IsLookup k → k.x ≡ old.x → k.last_not_registered ≡ Some rec
            → SomeSince t (λ at. IsNotRegistered (in_force registers at) (xeid_path k.x) rec) past
        kept_goes t old k rec here (anew g place first empty) lookup same kept = absurd (none-some rec (sym empty ∙ kept))
        kept_goes t old k rec here (keeps source bytes told called taken g e) lookup same kept =
            let one : told ≡ rec = same_Some told rec (sym (ap (λ (z : Pending). z.last_not_registered) e) ∙ kept) in
            let h = heard_since d.calls (record { source = source; bytes = bytes; called = called; taken = taken }) in
            let action : told.action ≡ MsNotRegistered = rw one (lookup.kept_action rec kept) in
            since_map t (IsSaid servers registers told old.x h.0) (λ at. IsNotRegistered (in_force registers at) (xeid_path k.x) rec)
            (λ at said. rw (same, ← one) (unregistered_record (in_force registers at) (xeid_path old.x) told (said_final old.x at said (inr (inl action))) action)) past h.2
        kept_goes t old k rec here (repeats g over first e) lookup same kept = rw same (i.kept t old rec here (rw e at kept))
        kept_goes t old k rec here (goes_on g over second more e) lookup same kept = rw same (i.kept t old rec here (rw e at kept))

        kept_by : (t : ℕ) (l : Pending) (rec : ReferralRecord) → l.last_not_registered ≡ Some rec → PendingFrom s d.call d.reply t l → SomeSince t (λ at. IsNotRegistered (in_force registers at) (xeid_path l.x) rec) (line ∷ past)
        kept_by t l rec is (stayed there other) = inr (i.kept t l rec there is)
        kept_by t l rec is (opened k own here called place first empty g) = absurd (none-some rec (sym empty ∙ ap (λ (z : Pending). z.last_not_registered) own ∙ is))
        kept_by t l rec is (went_on old k own there x goes lookup) =
            inr (subst (λ (v : Pending). SomeSince t (λ at. IsNotRegistered (in_force registers at) (xeid_path v.x) rec) past) own (kept_goes t old k rec there goes lookup x (rw (← own) at is)))

      pub aged_on : IsAged servers registers (line ∷ past) new
      aged_on = record {
        ground = ground_on i.ground part;
        within = elim (member_on part) [ inl same ↦ rw same i.within | inr named ↦ named.1 ];
        sent = λ k d found. elim (sent_by i.ground part k d found) [
          | inl there ↦ sent_still d (i.sent k d there)
          | inr is ↦ new_sent d is
        ];
        entries = λ p e found neg. elim part [
          | inl d ↦ entries_now d p e (rw (state_is i.ground d) at found) neg
          | inr rest ↦ inr (i.entries p e (rw rest.state at found) neg)
        ];
        kept = λ t l rec found is. elim part [
          | inl d ↦ kept_by d t l rec is (came_by i.ground d t l found)
          | inr rest ↦ inr (i.kept t l rec (rw rest.state at found) is)
        ];
      }
