-- What each step of a schedule over honest servers keeps. Its datagrams are requests of the resolver to servers of the
-- register, and honest replies to them.
use Rattle.std.proofs.Common.{◌≡◌, ℕ, ◌<◌, ◌^◌, true, false, List, [], ◌∷◌, Option, Some, refl, sym, ap, ◌∙◌, arith, inl, inr, ◌⊎◌}
use Rattle.std.specs.Prelude.{IsTrue, slice_get}
use Rattle.std.specs.FinMap.{get}
use Rattle.std.proofs.lemmas.Bool.{false≢true}
use Rattle.ddt_path.specs.declared.locator.Locator.{Locator}
use Rattle.ddt_path.specs.declared.record.ReferralRecord.{ReferralRecord}
use Rattle.ddt_path.specs.declared.xeid.Xeid.{Xeid}
use Rattle.ddt_path.specs.Path.{xeid_path, is_path}
use Rattle.ddt_register.specs.declared.register.Register.{Register}
use Rattle.ddt_check.specs.Rules.{IsAccepted}
use Rattle.ddt_check.specs.Says.{says}
use Rattle.ddt_wire.specs.Referral.{Message, Spells, message_of as referral_of, message_record}
use Rattle.ddt_ecm.specs.laws.Statements.{WrittenSpells, message_of}
use Rattle.ddt_node.specs.Server.{IsDdtRequest}
use Rattle.ddt_resolver.specs.declared.pending.Pending.{Pending}
use Rattle.ddt_resolver.specs.declared.results.Ignored.{Ignored}
use Rattle.ddt_resolver.specs.declared.results.Ignored.TheVariants.{UnknownNonce, Late}
use Rattle.ddt_resolver.specs.State.{State, moved, numbered, request_bytes, server}
use Rattle.ddt_resolver.specs.Step.{ResolverCall}
use Rattle.ddt_resolver.specs.MatchReply as takes
use Rattle.ddt_resolver.specs.MatchReply.{TellsReply, IsTaken, Ignores}
use Rattle.ddt_sim.specs.declared.schedule.Step.{Step}
use Rattle.ddt_sim.specs.declared.schedule.Step.TheVariants.{Replace}
use Rattle.ddt_sim.specs.declared.schedule.Event.{Event}
use Rattle.ddt_sim.specs.declared.schedule.Datagram.{Datagram}
use Rattle.ddt_sim.specs.Honest.{IsServer, IsHonestReply}
use Rattle.ddt_sim.specs.Sound.{IsSound, IsFair, IsFairDatagram, IsRight, StepsKeepSoundness, TimeKeepsSoundness}
use Rattle.ddt_sim.specs.Waiting.{CanBeAsked}
use Rattle.ddt_sim.specs.World.{World, Members, MayReply, CallsResolver, asked, heard, ticked, Resolves}
use Rattle.ddt_sim.specs.History.{Line}
use Rattle.ddt_sim.proofs.GroundLemmas.{IsGround, Follows, HasSent, Part, one_line, member_on, order_now, state_is, IsNew, ground_on, follows, sent_by}
use Rattle.ddt_sim.proofs.GroundLemmas as ground
use Rattle.ddt_sim.proofs.ReplyLemmas.{RepliesAreRead}
use Rattle.ddt_sim.proofs.ServerLemmas.{asks_a_server}
use Rattle.ddt_sim.proofs.WaitingLemmas.{spelled_request}

-- ---- a request

-- The resolver has once asked a server of the register for x with this nonce. A pending lookup whose last request has this
-- nonce asks for x, there.
pub record WasAsked (r : Register) (s : State) (to : Locator) (nonce : ℕ) (x : Xeid) : Type 0 where
  pub is_server : IsServer r to
  pub fits : CanBeAsked x s.me
  pub id : IsTrue (is_path (xeid_path x))
  pub below : nonce < s.next
  pub waits : (t : ℕ) (l : Pending) → get s.pending t ≡ Some l → l.nonce ≡ nonce → (l.x ≡ x) × (server s.me l ≡ to)

-- a datagram is such a request, or an honest reply to one
pub data IsKnown (r : Register) (s : State) (d : Datagram) : Type 0 where
  requested : (nonce : ℕ) (x : Xeid) → WasAsked r s d.to nonce x → d.is_reply ≡ false → d.bytes ≡ request_bytes nonce x s.me → IsKnown r s d
  replied : (nonce : ℕ) (x : Xeid) → WasAsked r s d.source nonce x → d.is_reply ≡ true → Spells d.bytes (referral_of nonce (says r d.source (xeid_path x))) → IsKnown r s d

-- ---- a step

-- the passing of time changes nothing of what was asked
pub was_asked_at : {r : Register} {s : State} {to : Locator} {nonce : ℕ} {x : Xeid} (now : ℕ) → WasAsked r s to nonce x → WasAsked r (moved now s) to nonce x
was_asked_at now w = record { is_server = w.is_server; fits = w.fits; id = w.id; below = w.below; waits = w.waits }

module _ {r : Register} {w new : World} (f : Follows w new) where
  was_asked_on : {to : Locator} {nonce : ℕ} {x : Xeid} → WasAsked r w.state to nonce x → WasAsked r new.state to nonce x
  was_asked_on a = let below = a.below in let more = f.grows in record {
    is_server = a.is_server;
    fits = rw f.me a.fits;
    id = a.id;
    below = omega (arith, below, more);
    waits = λ t l found same. rw f.me (a.waits t l (f.older t l found (omega (arith, below, same))) same);
  }

  pub known_on : (d : Datagram) → IsKnown r w.state d → IsKnown r new.state d
  known_on d (requested nonce x a is bytes) = requested nonce x (was_asked_on a) is (rw f.me bytes)
  known_on d (replied nonce x a is spells) = replied nonce x (was_asked_on a) is spells

  -- what is sent now was asked
  pub asks_now : IsSound r new.state → (t : ℕ) (l : Pending) → HasSent w new t l → CanBeAsked l.x new.state.me → WasAsked r new.state (server w.state.me l) w.state.next l.x
  asks_now sound t l h fits = record {
    is_server = asks_a_server r w.state.me (numbered (moved w.moment w.state) l) (sound.lookups t (numbered (moved w.moment w.state) l) h.pending) h.lookup.place;
    fits = fits;
    id = h.lookup.identifier;
    below = h.below;
    waits = λ u k found same. let e = h.alone u k found same in rw (f.me, ← e.1) (refl, refl);
  }

-- ---- a reply that is heard

module _ {r : Register} (laws : RepliesAreRead r) {s : State} {source : Locator} (bytes : List ℕ) {nonce : ℕ} {x : Xeid} (w : WasAsked r s source nonce x)
    (spells : Spells bytes (referral_of nonce (says r source (xeid_path x)))) where
  -- whatever the reply tells is this
  pub told : (n : ℕ) (rec : ReferralRecord) → TellsReply bytes n rec → (n ≡ nonce) × (rec ≡ says r source (xeid_path x))
  told n rec tells =
      let same : tells.message ≡ referral_of nonce (says r source (xeid_path x)) = laws.messages.one bytes tells.message (referral_of nonce (says r source (xeid_path x))) tells.spells spells in (
        sym tells.same_nonce ∙ ap (λ (m : Message). m.nonce) same,
        sym tells.same_record ∙ ap message_record same ∙ laws.back nonce (says r source (xeid_path x)) (laws.sendable source (xeid_path x) w.id).few_servers,
      )

  -- a lookup that has its nonce asks for the identifier, there
  its_lookup : (t : ℕ) (l : Pending) (rec : ReferralRecord) → takes.IsReplyTo s bytes t l rec → (l.x ≡ x) × (server s.me l ≡ source)
  its_lookup t l rec to = w.waits t l to.is_pending (told l.nonce rec to.tells).0

  -- so it is fair
  pub reply_is_fair : IsFairDatagram r s source bytes
  reply_is_fair t l rec taken =
      let to = taken.in_time.from_server.reply in
      (told l.nonce rec to.tells).1 ∙ ap (λ y. says r source (xeid_path y)) (sym (its_lookup t l rec to).0)

  -- and ignored only where nobody waits for its nonce, or late
  pub ignored_rightly : (why : Ignored) → Ignores s source bytes why → (why ≡ UnknownNonce) ⊎ (why ≡ Late)
  ignored_rightly why (takes.undecodable none e) = absurd (none (referral_of nonce (says r source (xeid_path x))) spells)
  ignored_rightly why (takes.unknown_nonce n rec tells none e) = inl e
  ignored_rightly why (takes.wrong_source t l rec to other e) = absurd (other (sym (its_lookup t l rec to).1))
  ignored_rightly why (takes.late t l rec from late e) = inr e
  ignored_rightly why (takes.not_covering t l rec in_time away e) =
      let to = in_time.from_server.reply in
      absurd (away (inl (rw ((told l.nonce rec to.tells).1, (its_lookup t l rec to).0) (laws.cover source (xeid_path x)))))
  ignored_rightly why (takes.no_servers t l rec in_time about none e) =
      let is : rec ≡ says r source (xeid_path x) = (told l.nonce rec in_time.from_server.reply.tells).1 in absurd (none (λ k. rw is (laws.servers source (xeid_path x) (inl (rw is at k))).0))

-- ---- the invariant

pub record IsSoundRun (r : Register) (past : List Line) (w : World) : Type 0 where
  pub ground : IsGround past w
  pub member : w.member ≡ 0
  pub sound : IsSound r w.state
  pub known : (k : ℕ) (d : Datagram) → slice_get w.sent k ≡ Some d → IsKnown r w.state d

-- what a schedule stands on
pub record Stands (r : Register) (servers : Members) : Type 0 where
  pub accepted : IsAccepted r
  pub honest : servers.honest 0 r
  pub keeps : StepsKeepSoundness
  pub time : TimeKeepsSoundness
  pub read : RepliesAreRead r
  pub written : WrittenSpells

module _ {r : Register} {servers : Members} (on : Stands r servers) {past : List Line} {w : World} (i : IsSoundRun r past w) where
  abbrev s : State
  s = moved w.moment w.state

  -- a request that was sent spells one, and its server is the register's
  pub known_request : (d : Datagram) → IsKnown r w.state d → d.is_reply ≡ false → (nonce : ℕ) × (x : Xeid) × WasAsked r w.state d.to nonce x × IsDdtRequest d.bytes (message_of nonce x (w.state.me ∷ []) true)
  known_request d (replied nonce x a is spells) kind = absurd (false≢true (sym kind ∙ is))
  known_request d (requested nonce x a is bytes) kind =
      let below = a.below in let last = i.ground.order.next in
      let few : nonce < 2 ^ 64 = omega (arith, below, last) in
      (nonce, x, a, rw bytes (spelled_request on.written nonce x w.state.me few a.fits, refl))

  -- and its server's reply is honest
  pub replied_honestly : (k : ℕ) (d : Datagram) (reply : Option (List ℕ)) → slice_get w.sent k ≡ Some d → d.is_reply ≡ false → MayReply (servers.honest w.member) (servers.silent w.member) d.to d.bytes reply
      → (nonce : ℕ) × (x : Xeid) × WasAsked r w.state d.to nonce x × IsDdtRequest d.bytes (message_of nonce x (w.state.me ∷ []) true) × IsHonestReply r d.to (message_of nonce x (w.state.me ∷ []) true) reply
  replied_honestly k d reply found is may =
      let q = known_request d (i.known k d found) is in
      (q.0, q.1, q.2, q.3, may.honestly r (message_of q.0 q.1 (w.state.me ∷ []) true) (rw i.member on.honest) q.2.is_server q.3)

  -- a reply that was sent is what the register says, to a request of the resolver
  pub known_reply : (k : ℕ) (d : Datagram) → slice_get w.sent k ≡ Some d → d.is_reply ≡ true → (nonce : ℕ) × (x : Xeid) × WasAsked r (moved w.moment w.state) d.source nonce x × Spells d.bytes (referral_of nonce (says r d.source (xeid_path x)))
  known_reply k d found kind = elim (i.known k d found) [
    | requested nonce x a is bytes ↦ absurd (false≢true (sym is ∙ kind))
    | replied nonce x a is spells ↦ (nonce, x, was_asked_at w.moment a, spells)
  ]

  fair : {step : Step} {call : ResolverCall} → CallsResolver w step call → IsFair r (moved w.moment w.state) call
  fair (asked x fits e f) = rw f tt
  fair (ticked e f) = rw f tt
  fair (heard k d e found kind f) = let q = known_reply k d found kind in rw f (reply_is_fair on.read d.bytes q.2 q.3)

  module _ {step : Step} {event : Event} {new : World} where
    pub right_now : (does : Resolves w step event new) → IsSound r does.state × IsRight r (moved w.moment w.state) does.call does.reply
    right_now does = on.keeps r s does.call does.state does.reply on.accepted (order_now i.ground) (on.time r w.state w.moment i.sound) (fair does.calls) does.does

    sound_on : Part servers w step event new → IsSound r new.state
    sound_on (inl does) = rw (state_is i.ground does) (right_now does).0
    sound_on (inr rest) = rw rest.state i.sound

    new_known : Part servers w step event new → (d : Datagram) → IsNew servers w new d → IsKnown r new.state d
    new_known part d (ground.request t l h is) =
        let f = follows i.ground part in
        rw (← is) (requested w.state.next l.x (asks_now f (sound_on part) t l h ((ground_on i.ground part).fits t (numbered s l) h.pending)) refl (rw f.me refl))
    new_known part d (ground.reply k c bytes found kind may is) =
        let q = replied_honestly k c (Some bytes) found kind may in rw (← is) (known_on (follows i.ground part) _ (replied q.0 q.1 q.2 refl q.4))

    pub steps_soundly : Part servers w step event new → ((k : ℕ) → step ≡ Replace k → ⊥) → IsSoundRun r (one_line w step event new ∷ past) new
    steps_soundly part keep = record {
      ground = ground_on i.ground part;
      member = elim (member_on part) [ inl same ↦ same ∙ i.member | inr named ↦ absurd (keep new.member named.0) ];
      sound = sound_on part;
      known = λ k d found. elim (sent_by i.ground part k d found) [
        | inl there ↦ known_on (follows i.ground part) d (i.known k d there)
        | inr is ↦ new_known part d is
      ];
    }
