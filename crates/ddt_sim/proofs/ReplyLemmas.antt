-- The reply of an honest server is taken up by the lookup that asked, and is fair.
use Rattle.std.proofs.Common.{◌≡◌, ℕ, ◌≤◌, List, length, Some, refl, sym, ap, ◌∙◌, arith, inl, inr, ◌⊎◌}
use Rattle.std.specs.Prelude.{IsTrue}
use Rattle.std.specs.FinMap.{get}
use Rattle.std.proofs.lemmas.Option.{same_Some}
use Rattle.ddt_path.specs.declared.locator.Locator.{Locator}
use Rattle.ddt_path.specs.declared.xeid.Xeid.{Xeid}
use Rattle.ddt_path.specs.declared.record.ReferralRecord.{ReferralRecord}
use Rattle.ddt_path.specs.Locators.{most_locators}
use Rattle.ddt_path.specs.Path.{xeid_path, is_path}
use Rattle.ddt_path.specs.Covers.{covers}
use Rattle.ddt_register.specs.declared.register.Register.{Register}
use Rattle.ddt_check.specs.Says.{says}
use Rattle.ddt_check.specs.laws.Statements.{AnswersCover, AnswersHaveServers, AnswersCanBeSent}
use Rattle.ddt_wire.specs.Referral.{Spells, message_of, message_record}
use Rattle.ddt_wire.specs.laws.Statements.{MessagesAreRead, RecordsComeBack}
use Rattle.ddt_resolver.specs.declared.pending.Pending.{Pending}
use Rattle.ddt_resolver.specs.declared.results.Outgoing.{Outgoing}
use Rattle.ddt_resolver.specs.declared.results.Ignored.{Ignored}
use Rattle.ddt_resolver.specs.declared.results.Heard.{Heard}
use Rattle.ddt_resolver.specs.declared.results.Heard.TheVariants as heard
use Rattle.ddt_resolver.specs.State.{State, server}
use Rattle.ddt_resolver.specs.Records.{NamesServer}
use Rattle.ddt_resolver.specs.MatchReply as takes
use Rattle.ddt_resolver.specs.MatchReply.{TellsReply, IsTaken, Ignores}
use Rattle.ddt_resolver.specs.Act as acts
use Rattle.ddt_resolver.specs.Act.{Act, HearStep}
use Rattle.ddt_resolver.specs.Order.{IsStateInOrder}
use Rattle.ddt_sim.specs.Sound.{IsFairDatagram}
use Rattle.ddt_sim.specs.Waiting.{Waits}

-- an answer to a datagram that is for a ticket
abbrev pub IsFor : ℕ → Heard → Type 0
IsFor t (heard.Ignored why) = ⊥
IsFor t (heard.Followed u d) = u ≡ t
IsFor t (heard.Answer u o) = u ≡ t
IsFor t (heard.GaveUp u why) = u ≡ t

-- what is done with a reply is for the ticket of its lookup
pub act_is_for : (s : State) (t : ℕ) (l : Pending) (rec : ReferralRecord) (new : State) (h : Heard) → Act s t l rec new h → IsFor t h
act_is_for s t l rec new h (acts.loops k loop f g) = rw g refl
act_is_for s t l rec new h (acts.refers k lower more f g) = rw g refl
act_is_for s t l rec new h (acts.acknowledges k f g) = rw g refl
act_is_for s t l rec new h (acts.closes k f g) = rw g refl
act_is_for s t l rec new h (acts.passes_on k more room f g) = rw g refl
act_is_for s t l rec new h (acts.concludes k last f g) = rw g refl
act_is_for s t l rec new h (acts.starts_over p k start room f g) = rw g refl
act_is_for s t l rec new h (acts.nobody k start f g) = rw g refl
act_is_for s t l rec new h (acts.used_up k over f g) = rw g refl

-- what the wire and the register promise of honest replies
pub record RepliesAreRead (r : Register) : Type 0 where
  pub messages : MessagesAreRead
  pub back : RecordsComeBack
  pub cover : AnswersCover r
  pub servers : AnswersHaveServers r
  pub sendable : AnswersCanBeSent r

-- A reply is usable for x: its record covers x, names a server where it refers to others, and has at most eight.
pub record IsUsable (rec : ReferralRecord) (x : List ℕ) : Type 0 where
  pub covers_x : IsTrue (covers rec.prefix x)
  pub names_server : NamesServer rec
  pub few : length rec.servers ≤ most_locators

-- so are those of a register
pub says_usable : (r : Register) → RepliesAreRead r → (source : Locator) (x : List ℕ) → IsTrue (is_path x) → IsUsable (says r source x) x
says_usable r laws source x id = record { covers_x = laws.cover source x; names_server = λ k. (laws.servers source x (inl k)).0; few = (laws.sendable source x id).few_servers }

-- ---- a usable reply from the server that was asked

module _ (messages : MessagesAreRead) (back : RecordsComeBack) (s : State) (o : IsStateInOrder s) (t : ℕ) (l : Pending) (here : get s.pending t ≡ Some l) (source : Locator) (to : source ≡ server s.me l)
    (reply : List ℕ) (said : ReferralRecord) (usable : IsUsable said (xeid_path l.x)) (spells : Spells reply (message_of l.nonce said)) where
  -- whatever the reply tells is this
  told : (nonce : ℕ) (rec : ReferralRecord) → TellsReply reply nonce rec → (l.nonce ≡ nonce) × (rec ≡ said)
  told nonce rec tells =
      let same : tells.message ≡ message_of l.nonce said = messages.one reply tells.message (message_of l.nonce said) tells.spells spells in
      (cc (same, tells.same_nonce), sym tells.same_record ∙ ap message_record same ∙ back l.nonce said usable.few)

  -- so a lookup that has its nonce is the one that asked
  own_ticket : {u : ℕ} {m : Pending} {rec : ReferralRecord} → takes.IsReplyTo s reply u m rec → (u ≡ t) × (m ≡ l) × (rec ≡ said)
  own_ticket {u = u} {m = m} {rec = rec} is =
      let tells = told m.nonce rec is.tells in
      let same : u ≡ t = o.nonces u t m l is.is_pending here (sym tells.0) in
      (same, same_Some m l (sym is.is_pending ∙ ap (get s.pending) same ∙ here), tells.1)

  -- and it is ignored only where it is late
  ignored_late : (why : Ignored) → Ignores s source reply why → l.deadline ≤ s.known.time
  ignored_late why (takes.undecodable none e) = absurd (none (message_of l.nonce said) spells)
  ignored_late why (takes.unknown_nonce nonce rec tells none e) = absurd (none t l here (told nonce rec tells).0)
  ignored_late why (takes.wrong_source u m rec is other e) = absurd (other (rw (own_ticket is).1 to))
  ignored_late why (takes.late u m rec from late e) = rw (← (own_ticket from.reply).1) late
  ignored_late why (takes.not_covering u m rec in_time away e) =
      let own = own_ticket in_time.from_server.reply in absurd (away (inl (rw (own.2, own.1) usable.covers_x)))
  ignored_late why (takes.no_servers u m rec in_time about none e) = absurd (none (rw (own_ticket in_time.from_server.reply).2 usable.names_server))

  -- it is late, or for the lookup that asked
  pub late_or_taken : (new : State) (h : Heard) → HearStep s source reply new h → (l.deadline ≤ s.known.time) ⊎ IsFor t h
  late_or_taken new h (acts.ignored why ignores e f) = inl (ignored_late why ignores)
  late_or_taken new h (acts.taken u m rec taken act) = inr (rw (← (own_ticket taken.in_time.from_server.reply).0) (act_is_for s u m rec new h act))

-- ---- to a lookup that has just asked

module _ (r : Register) (laws : RepliesAreRead r) {now : ℕ} {x : Xeid} {s : State} {t : ℕ} {d : Outgoing} (o : IsStateInOrder s) (w : Waits now x s t d)
    (reply : List ℕ) (spells : Spells reply (message_of w.lookup.nonce (says r d.to (xeid_path x)))) where
  usable_here : IsUsable (says r d.to (xeid_path x)) (xeid_path w.lookup.x)
  usable_here = rw (← w.its_x) (says_usable r laws d.to (xeid_path w.lookup.x) (o.lookups t w.lookup w.is_pending).lookup.identifier)

  pub honest_reply_is_fair : IsFairDatagram r s d.to reply
  honest_reply_is_fair u m rec taken =
      let own = own_ticket laws.messages laws.back s o t w.lookup w.is_pending d.to w.to reply _ usable_here spells taken.in_time.from_server.reply in rw (own.1, w.its_x) own.2

  pub honest_reply_is_taken : {new : State} {h : Heard} → HearStep s d.to reply new h → IsFor t h
  honest_reply_is_taken step =
      let whether = late_or_taken laws.messages laws.back s o t w.lookup w.is_pending d.to w.to reply _ usable_here spells _ _ step in
      elim whether [ inl late ↦ let e = w.deadline in absurd (omega (arith, e, late)) | inr is ↦ is ]
