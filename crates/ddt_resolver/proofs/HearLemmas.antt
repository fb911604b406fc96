-- What the parts of a step on a datagram make together.
use Rattle.std.proofs.Common.{◌≡◌, ℕ, Bool, true, false, List, Some, refl, sym, ◌∙◌}
use Rattle.std.proofs.lemmas.Option.{none-some}
use Rattle.ddt_path.specs.declared.action.Action.TheVariants.{NotAuthoritative}
use Rattle.ddt_path.specs.declared.record.ReferralRecord.{ReferralRecord}
use Rattle.ddt_resolver.specs.declared.pending.Pending.{Pending}
use Rattle.ddt_resolver.specs.declared.requests.Change.TheVariants.{Forget}
use Rattle.ddt_resolver.specs.declared.results.Heard.{Heard}
use Rattle.ddt_resolver.specs.State.{State, started_over}
use Rattle.ddt_resolver.specs.Act.{Act, MayStartOver, starts_over, used_up, from_root}
use Rattle.ddt_resolver.specs.Acting.{SendsOn, followed, used_up as spent}
use Rattle.ddt_resolver.specs.Order.{IsLookup}

-- one that started at an entry hasn't started over
pub may_start_over : (l : Pending) (p : List ℕ) → IsLookup l → l.start_entry ≡ Some p → MayStartOver l p
may_start_over l p is at = record { start = at; first = by l.restarted refl }
  where
    by : (b : Bool) → l.restarted ≡ b → l.restarted ≡ false
    by true e = absurd (none-some p (sym (is.once e) ∙ at))
    by false e = e

pub forget_acts : {s : State} {t : ℕ} {l : Pending} {rec : ReferralRecord} {p : List ℕ} {m : Pending} {new : State} {h : Heard}
    → rec.action ≡ NotAuthoritative → MayStartOver l p → m ≡ started_over s l
    → SendsOn s t m (Forget p) new h → Act s t l rec new h
forget_acts {p = p} a at is (followed more e f) = starts_over p a at more (rw is at e) (rw is at f)
forget_acts {p = p} a at is (spent none e f) = used_up (from_root p a at) none e f
