-- Each reply that is followed lowers the measure, and each referral goes down.
use Rattle.std.proofs.Common.{◌≡◌, ℕ, ◌+◌, ◌-◌, ◌*◌, ◌<◌, ◌≤◌, List, length, Option, Some, None, Result, Ok, Err, sym, ap, ◌∙◌, arith, inl, inr}
use Rattle.std.specs.Prelude.{IsTrue, IfOk}
use Rattle.std.specs.FinMap.{get, insert}
use Rattle.std.proofs.lemmas.Option.{same_Some}
use Rattle.ddt_path.specs.declared.locator.Locator.{Locator}
use Rattle.ddt_path.specs.declared.xeid.Xeid.{Xeid}
use Rattle.ddt_path.specs.declared.record.ReferralRecord.{ReferralRecord}
use Rattle.ddt_path.specs.Path.{xeid_path, is_path}
use Rattle.ddt_path.specs.laws.Cover.{length-covered}
use Rattle.ddt_wire.specs.Referral.{Message, Spells, message_record}
use Rattle.ddt_wire.specs.laws.Message.{messages_are_read}
use Rattle.ddt_resolver.specs.declared.pending.Pending.{Pending}
use Rattle.ddt_resolver.specs.declared.results.Outgoing.{Outgoing}
use Rattle.ddt_resolver.specs.declared.results.Asked.{Asked}
use Rattle.ddt_resolver.specs.declared.results.AskError.{AskError}
use Rattle.ddt_resolver.specs.declared.results.Heard.{Heard}
use Rattle.ddt_resolver.specs.declared.results.Heard.TheVariants as heard
use Rattle.ddt_resolver.specs.State.{State, numbered, opening, referred, passed_on, started_over}
use Rattle.ddt_path.specs.Actions.{IsReferral}
use Rattle.ddt_resolver.specs.Records.{IsBelow, start_at}
use Rattle.ddt_resolver.specs.AskStep as ask
use Rattle.ddt_resolver.specs.MatchReply.{IsTaken}
use Rattle.ddt_resolver.specs.Act as act
use Rattle.ddt_resolver.specs.Order.{IsLookup, IsStateInOrder}
use Rattle.ddt_resolver.specs.Bound.{room, again, measure, StartsWithin, ComesNearer, GoesDown}
use Rattle.ddt_resolver.specs.laws.NumberMap.{get-insert_same}
use Rattle.ddt_resolver.specs.laws.Shape.{opening_lookup, about_covers, referral_apart, few_servers}

-- ---- one lookup

room_falls : (n : ℕ) (saved : Option (List ℕ)) (q : List ℕ) → IsBelow saved q → length q ≤ n → 8 * (n - length q) + 8 ≤ 8 * room n saved
room_falls n None q below fits = omega arith
room_falls n (Some p) q below fits = omega arith

again_most : (n : ℕ) (start : Option (List ℕ)) → again n start ≤ 8 * (n + 2)
again_most n None = omega arith
again_most n (Some p) = omega arith

referred_lower : (l : Pending) (rec : ReferralRecord) → l.server_index < length l.servers → length rec.servers ≤ 8 → IsBelow l.last_referral rec.prefix → length rec.prefix ≤ length (xeid_path l.x) → measure (referred l rec) < measure l
referred_lower l rec place few below fits = omega (arith, room_falls (length (xeid_path l.x)) l.last_referral rec.prefix below fits)

passed_lower : (l : Pending) (rec : ReferralRecord) → l.server_index < length l.servers → measure (passed_on l rec) < measure l
passed_lower l rec place = omega arith

restarted_lower : (s : State) (l : Pending) (p : List ℕ) → l.server_index < length l.servers → length s.known.roots ≤ 8 → l.start_entry ≡ Some p → measure (started_over s l) < measure l
restarted_lower s l p place few at =
    let n = length (xeid_path l.x) in
    let e : again n l.start_entry ≡ 8 * (n + 2) = ap (again n) at in
    omega arith

-- ---- a reply

module _ {s : State} (o : IsStateInOrder s) {source : Locator} {bytes : List ℕ} {t : ℕ} {l : Pending} {rec : ReferralRecord} (is : IsTaken s source bytes t l rec) where
  here : get s.pending t ≡ Some l
  here = is.in_time.from_server.reply.is_pending

  lookup : IsLookup l
  lookup = (o.lookups t l here).lookup

  -- what the bytes spell is what was taken
  told_again : (v : Message) → Spells bytes v → message_record v ≡ rec
  told_again v spells = let told = is.in_time.from_server.reply.tells in ap message_record (messages_are_read.one bytes v told.message spells told.spells) ∙ told.same_record

  goes : (new : State) {h : Heard} (m : Pending) (d : Outgoing) → new.pending ≡ insert s.pending t (numbered s m) → measure m < measure l → (IsReferral rec.action → IsBelow l.last_referral rec.prefix) → h ≡ heard.Followed t d
      → ComesNearer s new h × GoesDown s bytes h
  goes new m d put less below followed = rw followed (
    (λ a b found after.
        let was : a ≡ l = same_Some a l (sym found ∙ here) in
        let is_now : b ≡ numbered s m = same_Some b (numbered s m) (sym after ∙ ap (λ z. get z t) put ∙ get-insert_same s.pending t (numbered s m)) in
        rw (was, is_now) less),
    (λ k v found spells r.
        let was : k ≡ l = same_Some k l (sym found ∙ here) in
        let told = told_again v spells in
        rw was ((rw (← told) at below) r)),
  )

  both : {new : State} {h : Heard} → act.Act s t l rec new h → ComesNearer s new h × GoesDown s bytes h
  both (act.loops r not_below e f) = rw f (tt, tt)
  both {new} (act.refers r below more e f) =
      let fits = length-covered rec.prefix (xeid_path l.x) (about_covers rec (xeid_path l.x) is.about (referral_apart rec.action r)) in
      goes new (referred l rec) _ (ap (λ (z : State). z.pending) e) (referred_lower l rec lookup.place (few_servers s source bytes t l rec is) below fits) (λ _. below) f
  both (act.acknowledges k e f) = rw f (tt, tt)
  both (act.closes k e f) = rw f (tt, tt)
  both {new} (act.passes_on k more room e f) = goes new (passed_on l rec) _ (ap (λ (z : State). z.pending) e) (passed_lower l rec lookup.place) (λ r. elim r [ inl a ↦ cc | inr a ↦ cc ]) f
  both (act.concludes k end e f) = rw f (tt, tt)
  both {new} (act.starts_over p k start room e f) =
      goes new (started_over s l) _ (ap (λ (z : State). z.pending) e) (restarted_lower s l p lookup.place o.known.few start.start) (λ r. elim r [ inl a ↦ cc | inr a ↦ cc ]) f
  both (act.nobody k start e f) = rw f (tt, tt)
  both (act.used_up on none e f) = rw f (tt, tt)

  pub comes_nearer : {new : State} {h : Heard} → act.Act s t l rec new h → ComesNearer s new h
  comes_nearer does = (both does).0

  pub goes_down : {new : State} {h : Heard} → act.Act s t l rec new h → GoesDown s bytes h
  goes_down does = (both does).1

-- ---- an ask

module _ {s : State} (o : IsStateInOrder s) (x : Xeid) (id : IsTrue (is_path (xeid_path x))) (new : State) where
  starts_within : (r : Result Asked AskError) → ask.AskStep s x new r → IfOk r (StartsWithin new x)
  starts_within r step = by step.start
    where
      by : ask.Start s x step.prefix step.entry new r → IfOk r (StartsWithin new x)
      by (ask.cached out some e f) = rw f tt
      by (ask.full none many e f) = rw f tt
      by (ask.used_up none few end e f) = rw f tt
      by (ask.opened free e f) = rw f (λ m found.
          let l = opening x step.entry.servers (start_at step.prefix) in
          let few : length step.entry.servers ≤ 8 = (opening_lookup s o x id step.prefix step.entry step.found free.unanswered).few in
          let is_now : m ≡ numbered s l = same_Some m (numbered s l) (sym found ∙ ap (λ (z : State). get z.pending s.next) e ∙ get-insert_same s.pending s.next (numbered s l)) in
          rw is_now (omega (arith, again_most (length (xeid_path x)) (start_at step.prefix))))

  pub ask_within : (r : Result Asked AskError) → ask.UnlessAskLacksMemory r (ask.AskStep s x new r) → IfOk r (StartsWithin new x)
  ask_within (Ok a) step = starts_within (Ok a) step
  ask_within (Err e) step = tt
