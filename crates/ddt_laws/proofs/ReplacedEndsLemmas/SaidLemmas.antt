-- A reply says what a register says that was in force since its request; if it is cut, it says so of the zone.
use Rattle.std.proofs.Common.{◌≡◌, ℕ, ◌+◌, ◌<◌, ◌≤◌, true, List, ◌∷◌, length, Option, Some, None, Ok, refl, sym, ap, subst, ◌∙◌, arith, inl, inr}
use Rattle.std.proofs.lemmas.Bool.{cases_lt, both_ways}
use Rattle.std.proofs.lemmas.List.{length-take}
use Rattle.ddt_path.specs.declared.action.Action.TheVariants.{MsAck}
use Rattle.ddt_path.specs.declared.locator.Locator.{Locator}
use Rattle.ddt_path.specs.declared.record.Outcome.{Outcome}
use Rattle.ddt_path.specs.declared.record.Outcome.TheVariants.{Registered, NotRegistered, Hole}
use Rattle.ddt_path.specs.declared.record.ReferralRecord.{ReferralRecord}
use Rattle.ddt_path.specs.Covers.{covers}
use Rattle.ddt_path.specs.Path.{xeid_path}
use Rattle.ddt_path.specs.Records.{record_of}
use Rattle.ddt_path.specs.laws.Front.{front_covers}
use Rattle.ddt_register.specs.declared.register.Register.{Register}
use Rattle.ddt_check.specs.Rules.{IsAccepted}
use Rattle.ddt_check.specs.Assignment.{assignment}
use Rattle.ddt_check.specs.Says.{says}
use Rattle.ddt_check.specs.laws.Statements.{IsFinal, FinalAnswersAreTheAssignment}
use Rattle.ddt_sockets.specs.declared.wire_calls.Call.{Call}
use Rattle.ddt_sockets.specs.declared.wire_calls.Packet.{Packet}
use Rattle.ddt_wire.specs.Referral.{Message, Spells, message_of, message_record, written}
use Rattle.ddt_wire.specs.laws.Message.{messages_are_read}
use Rattle.ddt_wire.specs.laws.Statements.{RecordsComeBack}
use Rattle.ddt_resolver.specs.declared.pending.Pending.{Pending}
use Rattle.ddt_resolver.specs.MatchReply.{TellsReply, IsBeforeDeadline, IsTaken}
use Rattle.ddt_resolver.specs.Order.{IsStateInOrder}
use Rattle.ddt_resolver.specs.Records.{outcome_of}
use Rattle.ddt_resolver.specs.State.{State, moved, reply_timeout_ms}
use Rattle.ddt_resolver.specs.Step.{ResolverCall, Ask, Hear, Tick}
use Rattle.ddt_resolver.specs.Within as within
use Rattle.ddt_resolver.specs.Within.{IsCut, IsWide, first_of, asked_within, cut_to}
use Rattle.ddt_resolver.specs.laws.Shape.{about_covers}
use Rattle.ddt_loop.specs.Polls.{polled}
use Rattle.ddt_loop.specs.Runs.{heard_of}
use Rattle.ddt_laws.specs.ReplacedEnds.{IsReplySince, IsRoundSince, said_of, IsTrueOf, assigned, cut}
use Rattle.ddt_laws.proofs.PositiveEndsLemmas.SayLemmas.{IsAssignedBy, acks_own}
use Rattle.ddt_laws.proofs.PositiveEndsLemmas.RoundLemmas.{HeardWell}

-- A register says this record at a server of x. `plainly`: as it is. `of_zone`: cut to a zone inside its prefix.
pub data IsSaid (r : Register) (source : Locator) (x : List ℕ) (rec : ReferralRecord) : Type 0 where
  plainly : rec ≡ says r source x → IsSaid r source x rec
  of_zone : (zone : List ℕ) → covers (says r source x).prefix zone ≡ true → covers zone x ≡ true → rec ≡ cut_to zone (says r source x) → IsSaid r source x rec

outcome_back : (o : Outcome) → outcome_of (record_of o) ≡ o
outcome_back (Registered p s) = refl
outcome_back (NotRegistered p s) = refl
outcome_back (Hole p) = refl

cut_back : (zone : List ℕ) (o : Outcome) → outcome_of (cut_to zone (record_of o)) ≡ said_of zone o
cut_back zone (Registered p s) = refl
cut_back zone (NotRegistered p s) = refl
cut_back zone (Hole p) = refl

-- what ends a lookup is true
pub said_true : (r : Register) → FinalAnswersAreTheAssignment r → (source : Locator) (x : List ℕ) (rec : ReferralRecord) → IsSaid r source x rec → IsFinal rec.action → IsTrueOf r x (outcome_of rec)
said_true r decided source x rec (plainly is) final =
    let own : says r source x ≡ record_of (assignment r x) = decided source x (rw is at final) in
    assigned (ap outcome_of (is ∙ own) ∙ outcome_back (assignment r x))
said_true r decided source x rec (of_zone zone inside around is) final =
    let own : says r source x ≡ record_of (assignment r x) = decided source x (rw is at final) in
    cut zone (rw own at inside) around (ap outcome_of (is ∙ ap (cut_to zone) own) ∙ cut_back zone (assignment r x))

-- an MS-ACK is of what is assigned as registered, to one of the servers
acked : (o : Outcome) (own : List Locator) → own ≡ (record_of o).servers → (record_of o).action ≡ MsAck → (q : List ℕ) × (o ≡ Registered q own)
acked (Registered q s) own is acts = (q, rw is refl)
acked (NotRegistered q s) own is acts = absurd (cc acts)
acked (Hole q) own is acts = absurd (cc acts)

registers_own : (r : Register) → IsAccepted r → FinalAnswersAreTheAssignment r → (source : Locator) (x : List ℕ) (servers : List Locator) → servers ≡ (says r source x).servers
    → (says r source x).action ≡ MsAck → (q : List ℕ) × IsAssignedBy r x q servers source
registers_own r accepted decided source x servers is acts =
    let final : IsFinal (says r source x).action = inl acts in
    let same : says r source x ≡ record_of (assignment r x) = decided source x final in
    let found = acked (assignment r x) servers (is ∙ ap (λ (v : ReferralRecord). v.servers) same) (ap (λ (v : ReferralRecord). v.action) (sym same) ∙ acts) in
    (found.0, record { registered = found.1; among_them = acks_own r x found.0 servers accepted source found.1 acts })

-- so it is with what is said, whether it is cut or not
pub said_registered : (r : Register) → IsAccepted r → FinalAnswersAreTheAssignment r → (source : Locator) (x : List ℕ) (rec : ReferralRecord) (servers : List Locator) → IsSaid r source x rec
    → servers ≡ rec.servers → rec.action ≡ MsAck → (q : List ℕ) × IsAssignedBy r x q servers source
said_registered r accepted decided source x rec servers (plainly is) own acts =
    registers_own r accepted decided source x servers (own ∙ ap (λ (v : ReferralRecord). v.servers) is) (ap (λ (v : ReferralRecord). v.action) (sym is) ∙ acts)
said_registered r accepted decided source x rec servers (of_zone zone inside around is) own acts =
    registers_own r accepted decided source x servers (own ∙ ap (λ (v : ReferralRecord). v.servers) is) (ap (λ (v : ReferralRecord). v.action) (sym is) ∙ acts)

-- ---- what a datagram tells

-- what is taken of a datagram is said since the last request
abbrev pub Told : (ℕ → Register) → State → ResolverCall → Type 0
Told in_force s (Ask x) = Unit {0}
Told in_force s Tick = Unit {0}
Told in_force s (Hear source heard) =
    (t : ℕ) (l : Pending) (rec : ReferralRecord) → IsTaken s source heard t l rec
    → (at : ℕ) × (l.deadline ≤ at + reply_timeout_ms) × (at ≤ s.known.time) × IsSaid (in_force at) source (xeid_path l.x) rec

by_parts : (saved start : Option (List ℕ)) (x zone : List ℕ) → first_of saved start ≡ Some zone → ((p : List ℕ) → saved ≡ Some p → covers p x ≡ true)
    → ((p : List ℕ) → start ≡ Some p → covers p x ≡ true) → covers zone x ≡ true
by_parts None start x zone is one two = two zone is
by_parts (Some p) start x zone is one two = one zone is

-- a prefix that reaches beyond a zone around x covers it
reaches : (p zone x : List ℕ) → covers p x ≡ true → covers zone x ≡ true → (covers zone p ≡ true → ⊥) → covers p zone ≡ true
reaches p zone x over around not = elim (cases_lt (length zone) (length p)) [
  | inl lt ↦ absurd (not (front_covers zone p x around over (omega arith)))
  | inr le ↦ front_covers p zone x over around le
]

-- what is written of a record tells it, and its nonce
told_alike : RecordsComeBack → (n m : ℕ) (v rec : ReferralRecord) → length v.servers ≤ 8 → Spells (written n v) (message_of n v) → TellsReply (written n v) m rec → (m ≡ n) × (rec ≡ v)
told_alike back n m v rec few spells tells =
    let one : tells.message ≡ message_of n v = messages_are_read.one (written n v) tells.message (message_of n v) tells.spells spells in
    (sym tells.same_nonce ∙ ap (λ (w : Message). w.nonce) one, sym tells.same_record ∙ ap message_record one ∙ back n v few)

module _ (back : RecordsComeBack) (in_force : ℕ → Register) (now : ℕ) (s : State) (o : IsStateInOrder s) (p : Packet) where
  whole_told : (heard : List ℕ) → IsReplySince in_force (moved now s) p.from heard → Told in_force (moved now s) (Hear p.from heard)
  whole_told heard since t l rec is = let h = since t l rec is.in_time in (h.0, h.1, h.2, plainly h.3)

  cut_told : (all heard : List ℕ) → IsReplySince in_force (moved now s) p.from all → IsCut s p.from all (Some heard) → Told in_force (moved now s) (Hear p.from heard)
  cut_told all heard since (within.whole none not) t l rec is = absurd (cc not)
  cut_told all heard since (within.cut lw recw zone wide same spells) t l rec is =
      let bytes_are : heard ≡ written lw.nonce (cut_to zone recw) = cc same in
      let tells : TellsReply (written lw.nonce (cut_to zone recw)) l.nonce rec = rw bytes_are at is.in_time.from_server.reply.tells in
      let few : length recw.servers ≤ 8 = rw (← wide.from_server.reply.tells.same_record, length-take) (omega arith) in
      let alike = told_alike back lw.nonce l.nonce (cut_to zone recw) rec few spells tells in
      let here = is.in_time.from_server.reply.is_pending in
      let there = wide.from_server.reply.is_pending in
      let ticket : t ≡ wide.ticket = o.nonces t wide.ticket l lw here there alike.0 in
      let lookup : lw ≡ l = cc (here, there, ticket) in
      let in_time : IsBeforeDeadline (moved now s) p.from all wide.ticket lw recw = record {
        from_server = record {
          reply = record { is_pending = there; tells = wide.from_server.reply.tells };
          same_source = wide.from_server.same_source;
        };
        early = subst (λ (m : Pending). (moved now s).known.time < m.deadline) (sym lookup) is.in_time.early;
      } in
      let h = since wide.ticket lw recw in_time in
      let k = (o.lookups wide.ticket lw there).lookup in
      let over = about_covers recw (xeid_path lw.x) wide.about wide.beyond.in_charge in
      let around = by_parts lw.last_referral lw.start_entry (xeid_path lw.x) zone wide.beyond.asked k.saved k.start in
      let inside : covers recw.prefix zone ≡ true = reaches recw.prefix zone (xeid_path lw.x) over around (λ e. both_ways (covers zone recw.prefix) wide.beyond.outside e) in
      let said : IsSaid (in_force h.0) p.from (xeid_path lw.x) rec = of_zone zone (rw h.3 at inside) around (alike.1 ∙ ap (cut_to zone) h.3) in
      subst (λ (m : Pending). (at : ℕ) × (m.deadline ≤ at + reply_timeout_ms) × (at ≤ (moved now s).known.time) × IsSaid (in_force at) p.from (xeid_path m.x) rec) lookup (h.0, h.1, h.2, said)

  pub heard_told : {me : Locator} {near : List Call} (bytes : List ℕ) (rest : List Call) → IsRoundSince in_force me now s near → near ≡ polled me (Ok (Some p)) bytes ∷ rest
      → HeardWell (Told in_force (moved now s)) s p bytes
  heard_told bytes rest since came = record {
    whole = λ plain port spelled. whole_told (heard_of bytes plain) (since p bytes rest plain came port spelled);
    cut = λ plain heard port spelled cuts. cut_told (heard_of bytes plain) heard (since p bytes rest plain came port spelled) cuts;
  }
