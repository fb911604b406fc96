-- A negative record that is cut to a prefix inside its own holds still.
use Rattle.std.proofs.Common.{◌≡◌, List, ℕ, Some, true, refl, sym, ap, ◌∙◌, inl, inr}
use Rattle.std.specs.Prelude.{IsTrue}
use Rattle.std.proofs.lemmas.Bool.{false≢true}
use Rattle.ddt_path.specs.declared.action.Action.{Action}
use Rattle.ddt_path.specs.declared.action.Action.TheVariants.{MsNotRegistered, DelegationHole}
use Rattle.ddt_path.specs.Path.{is_path}
use Rattle.ddt_path.specs.Records.{record_of}
use Rattle.ddt_path.specs.laws.Cover.{covers_trans}
use Rattle.ddt_register.specs.declared.register.Register.{Register}
use Rattle.ddt_check.specs.Rules.{IsAccepted}
use Rattle.ddt_check.specs.Assignment.{assignment}
use Rattle.ddt_check.specs.Says.{says}
use Rattle.ddt_check.specs.laws.Statements.{IsFinal, FinalAnswersAreTheAssignment, NegativesHoldOfAll}
use Rattle.ddt_cache.specs.Entry.{is_negative}
use Rattle.ddt_resolver.specs.Records.{outcome_of}
use Rattle.ddt_sim.specs.Inside.{CutNegativesHold}
use Rattle.ddt_sim.proofs.SoundLemmas.{outcome_back, negative_of}

negative_final : (a : Action) → IsTrue (is_negative a) → IsFinal a
negative_final MsNotRegistered neg = inr (inl refl)
negative_final DelegationHole neg = inr (inr refl)
negative_final _ neg = absurd (false≢true neg)

pub cut_negatives : ((r : Register) → IsAccepted r → FinalAnswersAreTheAssignment r) → ((r : Register) → IsAccepted r → NegativesHoldOfAll r) → CutNegativesHold
cut_negatives decided holds r source x rec p accepted id says_it neg wider y path inside =
    let final : IsFinal rec.action = negative_final rec.action neg in
    let is : rec ≡ record_of (assignment r x) = says_it ∙ decided r accepted source x (rw says_it at final) in
    let own = negative_of (assignment r x) (rw is at neg) in
    let all = holds r accepted x (record_of (assignment r x)).prefix id own in
    let over = covers_trans (record_of (assignment r x)).prefix p y (rw is at wider) inside in
    rw is (all.1 y path over ∙ sym (outcome_back (assignment r x)))
