-- Why a datagram is ignored: it isn't both ignored and taken.
use Rattle.std.proofs.Common.{◌≡◌, ℕ, List, Option, Some, None, refl, arith, inl, inr}
use Rattle.std.specs.Prelude.{IfSome, IfNone}
use Rattle.ddt_ecm.specs.UdpHeader.{control_port}
use Rattle.ddt_path.specs.declared.locator.Locator.{Locator}
use Rattle.ddt_path.specs.declared.record.ReferralRecord.{ReferralRecord}
use Rattle.ddt_resolver.specs.declared.pending.Pending.{Pending}
use Rattle.ddt_resolver.specs.declared.results.Heard.{Heard}
use Rattle.ddt_resolver.specs.declared.results.Heard.TheVariants as heard_as
use Rattle.ddt_resolver.specs.declared.results.Ignored.{Ignored}
use Rattle.ddt_resolver.specs.declared.step.Reply.TheVariants.{ToDatagram}
use Rattle.ddt_resolver.specs.State.{State}
use Rattle.ddt_resolver.specs.Step as steps
use Rattle.ddt_resolver.specs.Step.{Ask, Hear, Tick, Step}
use Rattle.ddt_resolver.specs.MatchReply.{IsTaken, Ignores}
use Rattle.ddt_resolver.specs.Act as acts
use Rattle.ddt_resolver.specs.Act.{Act, HearStep}
use Rattle.ddt_resolver.specs.Order.{IsStateInOrder}
use Rattle.ddt_resolver.specs.laws.Statements.{UsableIsTaken}
use Rattle.ddt_loop.specs.Ignoring.{ignored_of, SaysWhy, replies, fails}

-- to act on a reply isn't to ignore it
acts_on : {s : State} {t : ℕ} {l : Pending} {rec : ReferralRecord} {new : State} {heard : Heard} → Act s t l rec new heard
    → ignored_of (ToDatagram heard) ≡ None
acts_on (acts.loops k loop e f) = rw f refl
acts_on (acts.refers k lower more e f) = rw f refl
acts_on (acts.acknowledges k e f) = rw f refl
acts_on (acts.closes k e f) = rw f refl
acts_on (acts.passes_on k more room e f) = rw f refl
acts_on (acts.concludes k last e f) = rw f refl
acts_on (acts.starts_over p k start room e f) = rw f refl
acts_on (acts.nobody k start e f) = rw f refl
acts_on (acts.used_up k over e f) = rw f refl

module _ (law : UsableIsTaken) (s : State) (o : IsStateInOrder s) (source : Locator) (bytes : List ℕ) where
  never_both : (t : ℕ) (l : Pending) (rec : ReferralRecord) (why : Ignored) → IsTaken s source bytes t l rec → Ignores s source bytes why → ⊥
  never_both t l rec why k i =
      let f = k.in_time.from_server in
      let early = k.in_time.early in
      elim (law s s source bytes (heard_as.Ignored why) t l rec o f.reply.is_pending f.reply.tells k.about k.names_server f.same_source (acts.ignored why i refl refl)) [
        | inl late ↦ absurd (omega (arith, late, early))
        | inr act ↦ let none : Some why ≡ None = acts_on act in absurd (cc none)
      ]

  -- what was heard is ignored for this reason, or it was taken
  by_hearing : (new : State) (heard : Heard) (r : Option Ignored) → HearStep s source bytes new heard → r ≡ ignored_of (ToDatagram heard)
      → IfSome r (Ignores s source bytes) × IfNone r ((why : Ignored) → Ignores s source bytes why → ⊥)
  by_hearing new heard r (acts.ignored why i e f) is = let same : r ≡ Some why = rw f at is in rw same (i, tt)
  by_hearing new heard r (acts.taken t l rec taken act) is =
      let none : r ≡ None = rw (acts_on act) at is in rw none (tt, λ why i. never_both t l rec why taken i)

  pub why_is : (new : State) (r : Option Ignored) → SaysWhy s (Hear source bytes) new r
      → IfSome r (Ignores s source bytes) × IfNone r ((why : Ignored) → Ignores s source bytes why → ⊥)
  why_is new r (fails wants none) = rw none (tt, λ why i. never_both wants.ticket wants.lookup wants.told why wants.taken i)
  why_is new r (replies reply (steps.asks x a id step e f) is) = absurd (cc e)
  why_is new r (replies reply (steps.hears from told heard step e f) is) = heard_here from told step e (rw f at is)
    where
      heard_here : (from : Locator) (told : List ℕ) → HearStep s from told new heard → Hear source bytes ≡ Hear from told → r ≡ ignored_of (ToDatagram heard)
          → IfSome r (Ignores s source bytes) × IfNone r ((why : Ignored) → Ignores s source bytes why → ⊥)
      heard_here from told step e is =
          let at : from ≡ source = cc e in
          let same : told ≡ bytes = cc e in
          by_hearing new heard r (rw (← at, ← same) step) is
  why_is new r (replies reply (steps.ticks ticked step e f) is) = absurd (cc e)

-- with the port that it comes from
pub heard_why : (P : Ignored → Type 0) (port : ℕ) → port ≡ control_port → (r : Option Ignored) → IfSome r P → IfSome r (λ why. (port ≡ control_port) × P why)
heard_why P port at None is = tt
heard_why P port at (Some why) is = (at, is)

pub not_ignored : (P : Ignored → Type 0) (port : ℕ) (r : Option Ignored) → IfNone r ((why : Ignored) → P why → ⊥)
    → IfNone r ((why : Ignored) → (port ≡ control_port) × P why → ⊥)
not_ignored P port None none = λ why is. none why is.1
not_ignored P port (Some why) none = tt
