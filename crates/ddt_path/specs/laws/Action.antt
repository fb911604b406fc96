-- An action and its number name each other; which outcome a record is of.
use Rattle.std.proofs.Common.{◌≡◌, ℕ, zero, suc, ◌≤◌, false, eqb, Some, None, refl, sym, ap, ◌∙◌, arith}
use Rattle.std.proofs.lemmas.Bool.{ne_eqb}
use Rattle.std.proofs.lemmas.Option.{none-some}
use Rattle.ddt_path.specs.declared.action.Action.{Action}
use Rattle.ddt_path.specs.declared.action.Action.TheVariants.{NodeReferral, MsReferral, MsAck, MsNotRegistered, DelegationHole, NotAuthoritative}
use Rattle.ddt_path.specs.declared.record.Outcome.{Outcome}
use Rattle.ddt_path.specs.declared.record.Outcome.TheVariants.{Registered, NotRegistered, Hole}
use Rattle.ddt_path.specs.Actions.{number, action_of}
use Rattle.ddt_path.specs.Records.{record_of}

named : (a b : Action) → Some a ≡ Some b → number a ≡ number b
named a b e = let same : a ≡ b = cc in ap number same

none_above : (n : ℕ) → 6 ≤ n → action_of n ≡ None
none_above n h =
    let e0 : eqb 0 n ≡ false = ne_eqb 0 n (λ e. omega arith) in
    let e1 : eqb 1 n ≡ false = ne_eqb 1 n (λ e. omega arith) in
    let e2 : eqb 2 n ≡ false = ne_eqb 2 n (λ e. omega arith) in
    let e3 : eqb 3 n ≡ false = ne_eqb 3 n (λ e. omega arith) in
    let e4 : eqb 4 n ≡ false = ne_eqb 4 n (λ e. omega arith) in
    let e5 : eqb 5 n ≡ false = ne_eqb 5 n (λ e. omega arith) in
    rw (e0, e1, e2, e3, e4, e5) refl

-- the number that an action is found by
pub number_of : (n : ℕ) (action : Action) → action_of n ≡ Some action → n ≡ number action
number_of zero action e = named NodeReferral action e
number_of (suc zero) action e = named MsReferral action e
number_of (suc (suc zero)) action e = named MsAck action e
number_of (suc (suc (suc zero))) action e = named MsNotRegistered action e
number_of (suc (suc (suc (suc zero)))) action e = named DelegationHole action e
number_of (suc (suc (suc (suc (suc zero))))) action e = named NotAuthoritative action e
number_of (suc (suc (suc (suc (suc (suc n)))))) action e = absurd (none-some action (sym (none_above (suc (suc (suc (suc (suc (suc n)))))) (omega arith)) ∙ e))

pub action_again : (action : Action) → action_of (number action) ≡ Some action
action_again NodeReferral = refl
action_again MsReferral = refl
action_again MsAck = refl
action_again MsNotRegistered = refl
action_again DelegationHole = refl
action_again NotAuthoritative = refl

pub number-le : (action : Action) → number action ≤ 5
number-le NodeReferral = omega arith
number-le MsReferral = omega arith
number-le MsAck = omega arith
number-le MsNotRegistered = omega arith
number-le DelegationHole = omega arith
number-le NotAuthoritative = omega arith

-- a record of an outcome that is acknowledged is that of a registered site
pub ack_is : (o : Outcome) → (record_of o).action ≡ MsAck → o ≡ Registered (record_of o).prefix (record_of o).servers
ack_is (Registered p s) e = refl
ack_is (NotRegistered p s) e = absurd (cc e)
ack_is (Hole p) e = absurd (cc e)
