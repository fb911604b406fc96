-- A usable reply to a pending lookup is late or taken; and tickets are new.
use Rattle.std.proofs.Common.{◌≡◌, ℕ, ◌<◌, ◌≤◌, List, Some, None, sym, ap, ◌∙◌, arith, inl, inr, ◌⊎◌}
use Rattle.std.specs.FinMap.{get}
use Rattle.std.proofs.lemmas.Option.{same_Some}
use Rattle.ddt_path.specs.declared.locator.Locator.{Locator}
use Rattle.ddt_path.specs.declared.record.ReferralRecord.{ReferralRecord}
use Rattle.ddt_path.specs.Path.{xeid_path}
use Rattle.ddt_wire.specs.laws.Message.{messages_are_read}
use Rattle.ddt_resolver.specs.declared.pending.Pending.{Pending}
use Rattle.ddt_resolver.specs.declared.results.Heard.{Heard}
use Rattle.ddt_resolver.specs.State.{State, server}
use Rattle.ddt_resolver.specs.Records.{IsAbout, NamesServer}
use Rattle.ddt_resolver.specs.MatchReply.{TellsReply, IsReplyTo, IsBeforeDeadline, Ignores, undecodable, unknown_nonce, wrong_source, late, not_covering, no_servers}
use Rattle.ddt_resolver.specs.Act.{Act, HearStep, ignored, taken}
use Rattle.ddt_resolver.specs.Order.{IsWaiting, IsStateInOrder}
use Rattle.ddt_resolver.proofs.StateLemmas.{next_absent}

pub in_time : {s : State} {source : Locator} {bytes : List ℕ} {t : ℕ} {l : Pending} {rec : ReferralRecord}
    → IsReplyTo s bytes t l rec → source ≡ server s.me l → s.known.time < l.deadline → IsBeforeDeadline s source bytes t l rec
in_time is from in_due = record { from_server = record { reply = is; same_source = from }; early = in_due }

-- bytes tell one nonce and one record
pub told_once : (bytes : List ℕ) (n m : ℕ) (rec told : ReferralRecord) → TellsReply bytes n rec → TellsReply bytes m told → (n ≡ m) × (rec ≡ told)
told_once bytes n m rec told a b =
    let e : a.message ≡ b.message = messages_are_read.one bytes a.message b.message a.spells b.spells in
    ((cc), cc)

module _ (s : State) (o : IsStateInOrder s) (source : Locator) (bytes : List ℕ) (t : ℕ) (l : Pending) (rec : ReferralRecord)
    (here : get s.pending t ≡ Some l) (tells : TellsReply bytes l.nonce rec) where
  -- what they reply to is this lookup
  pub this_one : (u : ℕ) (m : Pending) (told : ReferralRecord) → IsReplyTo s bytes u m told → (u ≡ t) × (m ≡ l) × (told ≡ rec)
  this_one u m told reply =
      let e = told_once bytes m.nonce l.nonce told rec reply.tells tells in
      let same : u ≡ t = o.nonces u t m l reply.is_pending here e.0 in
      (same, same_Some m l (sym reply.is_pending ∙ ap (get s.pending) same ∙ here), e.1)

  module _ (about : IsAbout rec (xeid_path l.x)) (names : NamesServer rec) (from : source ≡ server s.me l) (new : State) (h : Heard) where
    not_ignored : (why : _) → Ignores s source bytes why → l.deadline ≤ s.known.time
    not_ignored why (undecodable none g) = absurd (none tells.message tells.spells)
    not_ignored why (unknown_nonce n told tell none g) = absurd (none t l here (told_once bytes l.nonce n rec told tells tell).0)
    not_ignored why (wrong_source u m told reply apart g) = absurd (apart (rw (this_one u m told reply).1 from))
    not_ignored why (late u m told sent over g) = rw (this_one u m told sent.reply).1 at over
    not_ignored why (not_covering u m told early none g) = let e = this_one u m told early.from_server.reply in absurd (none (rw (e.1, e.2) about))
    not_ignored why (no_servers u m told early some none g) = absurd (none (rw (this_one u m told early.from_server.reply).2 names))

    pub usable_taken : HearStep s source bytes new h → (l.deadline ≤ s.known.time) ⊎ Act s t l rec new h
    usable_taken (ignored why is e f) = inl (not_ignored why is)
    usable_taken (taken u m told is does) =
        let e = this_one u m told is.in_time.from_server.reply in
        inr (rw (e.0, e.1, e.2) at does)

pub tickets_new : (s : State) → IsStateInOrder s → (get s.pending s.next ≡ None) × ((t : ℕ) (l : Pending) → get s.pending t ≡ Some l → t < s.next)
tickets_new s o = (next_absent s o, λ t l found. let w : IsWaiting s t l = o.lookups t l found in omega (arith, w.ticket, w.nonce))
