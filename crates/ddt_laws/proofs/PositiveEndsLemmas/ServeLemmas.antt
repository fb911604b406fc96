-- The lookups of a Map-Resolver end as assigned, and requests go on to the servers that are assigned.
use Rattle.std.proofs.Common.{◌≡◌, ℕ, ◌≤◌, List, [], ◌∷◌, ◌++◌, append_assoc, Option, Some, None, Ok, refl, sym, ap, ◌∙◌, inl, inr}
use Rattle.std.specs.Prelude.{All}
use Rattle.std.specs.FinMap.{get}
use Rattle.std.proofs.lemmas.List.Elements.{All-nil, All-append}
use Rattle.ddt_path.specs.declared.locator.Locator.{Locator}
use Rattle.ddt_path.specs.declared.record.ReferralRecord.{ReferralRecord}
use Rattle.ddt_path.specs.Path.{xeid_path}
use Rattle.ddt_register.specs.declared.register.Register.{Register}
use Rattle.ddt_check.specs.Says.{says}
use Rattle.ddt_cache.specs.Moment.{last_moment}
use Rattle.ddt_ecm.specs.UdpHeader.{control_port}
use Rattle.ddt_foreign.specs.Plain.{nonce_of}
use Rattle.ddt_wire.specs.Referral.{Message, message_of}
use Rattle.ddt_wire.specs.laws.Message.{messages_are_read}
use Rattle.ddt_sockets.specs.declared.wire_calls.Call.{Call}
use Rattle.ddt_sockets.specs.declared.wire_calls.Call.TheVariants.{Received}
use Rattle.ddt_sockets.specs.declared.wire_calls.Packet.{Packet}
use Rattle.ddt_resolver.specs.declared.pending.Pending.{Pending}
use Rattle.ddt_resolver.specs.MatchReply.{TellsReply}
use Rattle.ddt_resolver.specs.Order.{IsStateInOrder}
use Rattle.ddt_resolver.specs.State.{State, moved, server}
use Rattle.ddt_resolver.specs.Step.{ResolverCall, Ask, Hear, Tick}
use Rattle.ddt_resolver.specs.Within as within
use Rattle.ddt_resolver.specs.Within.{IsWide}
use Rattle.ddt_sim.specs.Sound.{IsFair, StepsKeepSoundness, HasteningKeepsSoundness, TimeKeepsSoundness, ForgettingKeepsSoundness}
use Rattle.ddt_sim.specs.Inside.{HonestRepliesAreInside, StepsKeepStarts, HasteningKeepsStarts, ForgettingKeepsStarts}
use Rattle.ddt_loop.specs.Requesters.{opening_desk}
use Rattle.ddt_loop.specs.Acts.{running}
use Rattle.ddt_loop.specs.Runs.{heard_of, BeginsSound}
use Rattle.ddt_daemon.specs.Resolving.{Resolving}
use Rattle.ddt_daemon.specs.Runs.{HasServed, begins, round, tick, hastening, resending, forgetting, waiting, renewal}
use Rattle.ddt_daemon.specs.Spelled.{IsSpelledAs, short, unasked, untaken, taken}
use Rattle.ddt_laws.specs.PositiveEnds.{SaysOf, AreRepliesFair, Finished, ended_in_round, ends_of, EndsAsAssigned, GoesToAssigned, BeginsAtRest, EndsAreAssigned, RequestsGoToTheAssigned}
use Rattle.ddt_laws.proofs.PositiveEndsLemmas.WaitLemmas.{waits_first}
use Rattle.ddt_laws.proofs.PositiveEndsLemmas.ChangeLemmas.{IsAsk, change_in, change_hears, change_hastens}
use Rattle.ddt_laws.proofs.PositiveEndsLemmas.StandLemmas.{Grounds, Stands, stands_first, stands_more, stands_moved, stands_forgot, stands_on}
use Rattle.ddt_laws.proofs.PositiveEndsLemmas.EndLemmas.{Assigned, ends_by, ends_by_haste, ends_registered}
use Rattle.ddt_laws.proofs.PositiveEndsLemmas.CloseLemmas.{IsKept, finished_well, followed, none_go, go_assigned}
use Rattle.ddt_laws.proofs.PositiveEndsLemmas.RoundLemmas.{Keeps, keeps_forgot, keeps_moved, keeps_ticked, keeps_hastened, Changes, once, twice, HeardWell, round_on}

-- ---- the premise

-- the first calls of fair ones are fair
fair_front : (r : Register) (me : Locator) (calls more : List Call) → AreRepliesFair r me (calls ++ more) → AreRepliesFair r me calls
fair_front r me calls more fair earlier later room p bytes plain nonce rec x is = fair earlier (later ++ more) room p bytes plain nonce rec x (rw (is, append_assoc))

-- what is heard in the place of a datagram is what it says of the identifier that is asked for
says_of : (s : State) (bytes : List ℕ) (plain : Option (List ℕ)) (t : ℕ) (l : Pending) (rec : ReferralRecord) → IsStateInOrder s → IsSpelledAs s bytes plain → get s.pending t ≡ Some l
    → TellsReply (heard_of bytes plain) l.nonce rec → SaysOf l.x bytes (heard_of bytes plain)
says_of s bytes plain t l rec o (short few is) here tells = inl (rw is refl)
says_of s bytes plain t l rec o (unasked nobody is) here tells = inl (rw is refl)
says_of s bytes plain t l rec o (untaken u m its err is) here tells = inl (rw is refl)
says_of s bytes plain t l rec o (taken u m given its gives is) here tells =
    let told : TellsReply given l.nonce rec = rw is at tells in
    let one : told.message ≡ message_of (nonce_of bytes) gives.plain = messages_are_read.one given told.message (message_of (nonce_of bytes) gives.plain) told.spells gives.spelled in
    let nonce : l.nonce ≡ m.nonce = sym told.same_nonce ∙ ap (λ (v : Message). v.nonce) one ∙ sym its.1 in
    let ticket : t ≡ u = o.nonces t u l m here its.0 nonce in
    let same : m ≡ l = cc (here, its.0, ticket) in
    inr (rw is (rw same at gives))

module _ {r : Register} (g : Grounds r) {me : Locator} {calls : List Call} {s : State} (o : IsStateInOrder s) (j : Stands r me calls s) (rest : List Call) (room : ℕ) (p : Packet) (bytes : List ℕ)
    (fair : AreRepliesFair r me (calls ++ Received me room (Ok (Some p)) bytes ∷ rest)) where
  module _ (plain : Option (List ℕ)) (port : p.port ≡ control_port) (spelled : IsSpelledAs s bytes plain) where
    is_true : (t : ℕ) (l : Pending) (rec : ReferralRecord) → get s.pending t ≡ Some l → p.from ≡ server s.me l → TellsReply (heard_of bytes plain) l.nonce rec
        → rec ≡ says r p.from (xeid_path l.x)
    is_true t l rec here source tells =
        let there : p.from ≡ server me l = rw j.own at source in
        fair calls rest room p bytes (heard_of bytes plain) l.nonce rec l.x refl port (says_of s bytes plain t l rec o spelled here tells) tells (rw there (j.tried t l here))

    fair_heard : (now : ℕ) → IsFair r (moved now s) (Hear p.from (heard_of bytes plain))
    fair_heard now t l rec is = let from = is.in_time.from_server in is_true t l rec from.reply.is_pending from.same_source from.reply.tells

    never_wide : (l : Pending) (rec : ReferralRecord) (zone : List ℕ) → IsWide s p.from (heard_of bytes plain) l rec zone → ⊥
    never_wide l rec zone wide =
        let from = wide.from_server in
        g.inside r s p.from (heard_of bytes plain) l rec zone g.accepted o j.sound j.starts wide (is_true wide.ticket l rec from.reply.is_pending from.same_source from.reply.tells)

    never_cut : (heard : List ℕ) → within.IsCut s p.from (heard_of bytes plain) (Some heard) → ⊥
    never_cut heard (within.whole none not) = absurd (cc not)
    never_cut heard (within.cut l rec zone wide is spells) = never_wide l rec zone wide

  heard_well : (now : ℕ) → HeardWell (IsFair r (moved now s)) s p bytes
  heard_well now = record {
    whole = λ plain port spelled. fair_heard plain port spelled now;
    cut = λ plain heard port spelled cuts. absurd (never_cut plain port spelled heard cuts);
  }

-- ---- a run

pub record Served (r : Register) (me : Locator) (calls far : List Call) (ended : List Finished) (w : Resolving) : Type 0 where
  pub keeps : Keeps w
  pub stands : Stands r me calls w.running.state
  pub ends : All (EndsAsAssigned r) ended
  pub onward : All (GoesToAssigned r me) far

-- an ask is always fair
fair_ask : (r : Register) (s : State) (call : ResolverCall) → IsAsk call → IsFair r s call
fair_ask r s (Ask x) is = tt
fair_ask r s (Hear source bytes) is = absurd is
fair_ask r s Tick is = absurd is

module _ {r : Register} (g : Grounds r) {me : Locator} where
  changed : {calls : List Call} {s new : State} {near : List Call} (now : ℕ) → now ≤ last_moment → IsStateInOrder s → IsStateInOrder (moved now s) → Stands r me calls s
      → Changes me now (IsFair r (moved now s)) s new near → Stands r me (calls ++ near) new
  changed now le o later j (once c) = stands_on g now le o j c
  changed {s = s} now le o later j (twice c) = stands_on g now le later (stands_moved g j now) (change_in (fair_ask r (moved now (moved now s))) (λ call k. k) c)

  joined : {calls both onward : List Call} {first : List Finished} {w new : Resolving} (far : List Call) (later : List Finished) → Served r me calls onward first w → Keeps new → Stands r me both new.running.state
      → All (EndsAsAssigned r) later → All (GoesToAssigned r me) far → Served r me both (onward ++ far) (first ++ later) new
  joined {onward = onward} {first = first} far later a keeps stands ends go = record {
    keeps = keeps;
    stands = stands;
    ends = All-append (EndsAsAssigned r) first later a.ends ends;
    onward = All-append (GoesToAssigned r me) onward far a.onward go;
  }

  run_on : {start : Resolving} {calls onward : List Call} {w : Resolving} → Served r me [] [] [] start → (run : HasServed (BeginsSound r me) me start calls onward w) → AreRepliesFair r me calls
      → Served r me calls onward (ends_of run) w
  run_on first begins fair = first
  run_on first (round {calls = before} {w = v} settings now near far new so_far le is) fair =
      let a = run_on first so_far (fair_front r me before near fair) in
      let o = a.keeps.waits.order in
      let d = round_on a.keeps now le me (IsFair r (moved now v.running.state)) (λ x. tt) (Assigned r) (GoesToAssigned r me)
      (λ p heard new e fair by_. ends_by g a.keeps.waits a.stands now le e fair by_.ends) (λ p heard new e fair by_. go_assigned p.from e (ends_registered g a.keeps.waits a.stands now le e fair by_.ends))
      settings near far new (λ p bytes rest came. heard_well g o a.stands rest _ p bytes (rw came at fair) now) is in
      joined far (ended_in_round is) a d.keeps (changed now le o (keeps_moved a.keeps now le {c = v.counts} {r = v.recent}).waits.order a.stands d.changes) d.ends d.onward
  run_on first (tick {calls = before} {w = v} now near far new so_far le is) fair =
      let a = run_on first so_far (fair_front r me before near fair) in
      let c = change_hears (IsFair r (moved now v.running.state)) tt is.resolves in
      joined far _ a (keeps_ticked a.keeps now le me near far new is)
      (rw is.calls_are (rw append_assoc at (stands_more is.tells (stands_on g now le a.keeps.waits.order a.stands c))))
      (finished_well (Assigned r) (λ e by_. by_.request) v.kept is.ended is.ends (λ e by_. ends_by g a.keeps.waits a.stands now le e tt by_) a.keeps.kept)
      (followed me v.running.state (GoesToAssigned r me) None is.ended v.kept is.tells far new.kept is.follows is.ends (λ e by_. none_go me v.running.state (GoesToAssigned r me) e) a.keeps.kept)
  run_on first (hastening {calls = before} {w = v} now nonce near far new so_far le is) fair =
      let a = run_on first so_far (fair_front r me before near fair) in
      let c = change_hastens (IsFair r (moved now v.running.state)) is.hastens in
      joined far _ a (keeps_hastened a.keeps now le me nonce near far new is)
      (rw is.calls_are (rw append_assoc at (stands_more is.tells (stands_on g now le a.keeps.waits.order a.stands c))))
      (finished_well (Assigned r) (λ e by_. by_.request) v.kept is.ended is.ends (λ e by_. ends_by_haste g a.keeps.waits a.stands now le e by_) a.keeps.kept)
      (followed me v.running.state (GoesToAssigned r me) None is.ended v.kept is.tells far new.kept is.follows is.ends (λ e by_. none_go me v.running.state (GoesToAssigned r me) e) a.keeps.kept)
  run_on first (resending {calls = before} nonce near so_far is) fair =
      let a = run_on first so_far (fair_front r me before near fair) in
      record { keeps = a.keeps; stands = stands_more near a.stands; ends = a.ends; onward = a.onward }
  run_on first (forgetting {w = v} p so_far) fair =
      let a = run_on first so_far fair in
      record { keeps = keeps_forgot p a.keeps; stands = stands_forgot g a.stands p; ends = a.ends; onward = a.onward }
  run_on first (waiting now so_far le) fair =
      let a = run_on first so_far fair in
      record { keeps = keeps_moved a.keeps now le; stands = stands_moved g a.stands now; ends = a.ends; onward = a.onward }
  run_on first (renewal {w = v} new so_far may later) fair =
      let a = run_on first so_far fair in
      record {
        keeps = record { waits = waits_first (running new (opening_desk [])) may.order refl; kept = All-nil (IsKept new) };
        stands = stands_first new may;
        ends = a.ends;
        onward = a.onward;
      }

-- ---- the laws

-- what they stand on: of steps, lookups that are hastened, time, and prefixes that are forgotten
pub record Laws : Type 0 where
  pub steps : StepsKeepSoundness
  pub hastening : HasteningKeepsSoundness
  pub time : TimeKeepsSoundness
  pub forgetting : ForgettingKeepsSoundness
  pub starts : StepsKeepStarts
  pub hastened_starts : HasteningKeepsStarts
  pub forgotten_starts : ForgettingKeepsStarts
  pub inside : HonestRepliesAreInside

pub laws_of : StepsKeepSoundness → HasteningKeepsSoundness → TimeKeepsSoundness → ForgettingKeepsSoundness → StepsKeepStarts → HasteningKeepsStarts → ForgettingKeepsStarts → HonestRepliesAreInside
    → Laws
laws_of steps_ hastening_ time_ forgetting_ starts_ hastened forgotten_ inside_ = record {
  steps = steps_;
  hastening = hastening_;
  time = time_;
  forgetting = forgetting_;
  starts = starts_;
  hastened_starts = hastened;
  forgotten_starts = forgotten_;
  inside = inside_;
}

module _ (laws : Laws) where
  all_served : (r : Register) (me : Locator) (start : Resolving) (calls onward : List Call) (w : Resolving) → BeginsAtRest r me start → (run : HasServed (BeginsSound r me) me start calls onward w)
      → AreRepliesFair r me calls → Served r me calls onward (ends_of run) w
  all_served r me start calls onward w b run fair =
      let g : Grounds r = record {
        accepted = b.sound.starts.accepted;
        steps = laws.steps;
        hastening = laws.hastening;
        time = laws.time;
        forgetting = laws.forgetting;
        starts = laws.starts;
        hastened_starts = laws.hastened_starts;
        forgotten_starts = laws.forgotten_starts;
        inside = laws.inside;
      } in
      let first : Served r me [] [] [] start = record {
        keeps = record { waits = waits_first start.running b.sound.order b.nobody; kept = rw b.no_request (All-nil (IsKept start.running.state)) };
        stands = stands_first start.running.state b.sound;
        ends = All-nil (EndsAsAssigned r);
        onward = All-nil (GoesToAssigned r me);
      } in
      run_on g first run fair

  pub ends_assigned : EndsAreAssigned
  ends_assigned r me start calls onward w b run fair = (all_served r me start calls onward w b run fair).ends

  pub requests_assigned : RequestsGoToTheAssigned
  requests_assigned r me start calls onward w b run fair = (all_served r me start calls onward w b run fair).onward
