-- A request goes on to one of the servers that a register assigned which was in force of late.
use Rattle.std.proofs.Common.{◌≡◌, ℕ, ◌+◌, ◌<◌, ◌≤◌, List, Some, Result, Ok, sym, ap, ◌∙◌, arith}
use Rattle.std.specs.FinMap.{get}
use Rattle.ddt_path.specs.declared.action.Action.TheVariants.{MsAck}
use Rattle.ddt_path.specs.declared.locator.Locator.{Locator}
use Rattle.ddt_path.specs.declared.record.Outcome.{Outcome}
use Rattle.ddt_path.specs.declared.record.Outcome.TheVariants.{Registered}
use Rattle.ddt_path.specs.declared.record.ReferralRecord.{ReferralRecord}
use Rattle.ddt_path.specs.Path.{xeid_path}
use Rattle.ddt_register.specs.declared.register.Register.{Register}
use Rattle.ddt_check.specs.Rules.{IsAccepted}
use Rattle.ddt_check.specs.laws.Statements.{FinalAnswersAreTheAssignment}
use Rattle.ddt_resolver.specs.declared.pending.Pending.{Pending}
use Rattle.ddt_resolver.specs.declared.results.Why.{Why}
use Rattle.ddt_resolver.specs.declared.step.Reply.{Reply}
use Rattle.ddt_resolver.specs.declared.step.Progress.TheVariants.{Ends}
use Rattle.ddt_resolver.specs.Order.{IsStateInOrder}
use Rattle.ddt_resolver.specs.Records.{outcome_at, outcome_of}
use Rattle.ddt_resolver.specs.State.{State, reply_timeout_ms}
use Rattle.ddt_resolver.specs.Step.{Hear, Step, progress_of}
use Rattle.ddt_resolver.specs.laws.Shape as moves
use Rattle.ddt_resolver.specs.laws.Shape.{Move, Leaves, goes_sends, moved_by_step}
use Rattle.ddt_laws.proofs.PositiveEndsLemmas.SayLemmas.{IsAssignedBy}
use Rattle.ddt_laws.proofs.PositiveEndsLemmas.EndLemmas.{acked}
use Rattle.ddt_laws.proofs.ReplacedEndsLemmas.SaidLemmas.{Told, said_registered}

-- these servers were assigned to an identifier, as registered, at a moment of late, and this is one of them
pub record WasAssignedBy (in_force : ℕ → Register) (time : ℕ) (x : List ℕ) (servers : List Locator) (by_ : Locator) : Type 0 where
  pub moment : ℕ
  pub before : moment ≤ time
  pub of_late : time < moment + reply_timeout_ms
  pub prefix : List ℕ
  pub is : IsAssignedBy (in_force moment) x prefix servers by_

acked_servers : (rec : ReferralRecord) (p : List ℕ) (servers : List Locator) → outcome_of rec ≡ Registered p servers → rec.action ≡ MsAck → servers ≡ rec.servers
acked_servers rec p servers is acts =
    let own : Registered rec.prefix rec.servers ≡ Registered p servers = ap (λ a. outcome_at a rec.prefix rec.servers) (sym acts) ∙ is in
    cc own

module _ (in_force : ℕ → Register) (accepted : (at : ℕ) → IsAccepted (in_force at)) (decided : (at : ℕ) → FinalAnswersAreTheAssignment (in_force at)) (s : State) (o : IsStateInOrder s)
    (from : Locator) (heard : List ℕ) (told : Told in_force s (Hear from heard)) (t : ℕ) (p : List ℕ) (servers : List Locator) (l : Pending) (here : get s.pending t ≡ Some l) where
  abbrev Was : Type 0
  Was = WasAssignedBy in_force s.known.time (xeid_path l.x) servers from

  by_leaves : (end : Result Outcome Why) → end ≡ Ok (Registered p servers) → Leaves s (Hear from heard) t l end → Was
  by_leaves end is (moves.by_record rec takes final e) =
      let source : takes.source ≡ from = cc takes.called in
      let bytes : takes.bytes ≡ heard = cc takes.called in
      let say = told t l rec (rw (source, bytes) at takes.taken) in
      let early = takes.taken.in_time.early in
      let one = say.1 in
      let outcome : outcome_of rec ≡ Registered p servers = cc (is, e) in
      let acts = acked rec.action rec.prefix p rec.servers servers outcome in
      let found = said_registered (in_force say.0) (accepted say.0) (decided say.0) from (xeid_path l.x) rec servers say.3 (acked_servers rec p servers outcome acts) acts in
      record {
        moment = say.0;
        before = say.2;
        of_late = omega (arith, early, one);
        prefix = found.0;
        is = found.1;
      }
  by_leaves end is (moves.by_kept rec due kept e) = absurd (cc (is, e))
  by_leaves end is (moves.by_loop rec takes refers not e) = absurd (cc (is, e))
  by_leaves end is (moves.by_nobody rec takes not none e) = absurd (cc (is, e))
  by_leaves end is (moves.by_silence due none e) = absurd (cc (is, e))
  by_leaves end is (moves.by_nonce none e) = absurd (cc (is, e))

  by_move : (new : State) (a : Reply) → progress_of a ≡ Ends t (Ok (Registered p servers)) → Move s (Hear from heard) new a → Was
  by_move new a ends (moves.stays pending next q) = absurd (cc (q, ends))
  by_move new a ends (moves.opens k asked place first empty fresh is more few pending next f) = absurd (cc asked)
  by_move new a ends (moves.sends u old k found x goes is more pending next) = absurd (cc (goes_sends s (Hear from heard) a u old k goes, ends))
  by_move new a ends (moves.drops u m end there pending next f leaves) =
      let one : u ≡ t = cc (f, ends) in
      let is : end ≡ Ok (Registered p servers) = cc (f, ends) in
      let lookup : m ≡ l = cc (here, there, one) in
      by_leaves end is (rw (one, lookup) at leaves)

  pub was_assigned : (new : State) (a : Reply) → Step s (Hear from heard) new a → progress_of a ≡ Ends t (Ok (Registered p servers)) → Was
  was_assigned new a step ends = by_move new a ends (moved_by_step s o (Hear from heard) new a step).move
