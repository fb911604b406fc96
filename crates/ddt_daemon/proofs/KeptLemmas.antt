-- The request that waits for a lookup is taken off the list.
use Rattle.std.proofs.Common.{◌≡◌, ℕ, suc, ◌+◌, ◌<◌, ◌≤◌, Bool, true, false, List, [], ◌∷◌, ◌++◌, length, take, drop, get_or, Option, Some, None, refl, sym, ap, ◌∙◌, subst, arith, add-one}
use Rattle.std.specs.Prelude.{◌≢◌, ◌==◌, not, nat_lt, ◌↔◌, All, IfSome, OnSome, IsSome, position}
use Rattle.std.specs.List.{position_or_len, remove}
use Rattle.std.proofs.lemmas.Option.{none-some}
use Rattle.std.proofs.lemmas.Bool.{cond-true, cond-false, eqb-true, eq-eqb, lt-ltb, false≢true}
use Rattle.std.proofs.lemmas.List.{take-append-drop, drop_more, length-take, get_or-take}
use Rattle.std.proofs.lemmas.List.Elements.{All-nil, All-cons}
use Rattle.std.proofs.lemmas.List.Quantifiers.{position-Some}
use Rattle.ddt_daemon.specs.declared.itr_requests.WaitingRequest.{WaitingRequest}
use Rattle.ddt_daemon.specs.WaitingRequest.{TakesKept, nobody, somebody}

abbrev pub has_ticket : ℕ → WaitingRequest → Bool
has_ticket t o = o.ticket == t

-- if the place of the first would be past the end, there is none
none_more : (t : ℕ) (o : WaitingRequest) (kept : List WaitingRequest)
    → (position_or_len (has_ticket t) (o ∷ kept) < length (o ∷ kept) → ⊥)
    → ((position_or_len (has_ticket t) kept < length kept → ⊥) → All (λ p. p.ticket ≢ t) kept)
    → (b : Bool) → has_ticket t o ≡ b → All (λ p. p.ticket ≢ t) (o ∷ kept)
none_more t o kept none ih true e =
    let first : position_or_len (has_ticket t) (o ∷ kept) ≡ 0 = cond-false (not (has_ticket t o)) (1 + position_or_len (has_ticket t) kept) 0 (ap not e) in
    absurd (none (omega (arith, first)))
none_more t o kept none ih false e =
    let later : position_or_len (has_ticket t) (o ∷ kept) ≡ 1 + position_or_len (has_ticket t) kept = cond-true (not (has_ticket t o)) (1 + position_or_len (has_ticket t) kept) 0 (ap not e) in
    All-cons (λ p. p.ticket ≢ t) o kept (λ same. false≢true (sym e ∙ eq-eqb o.ticket t same))
    (ih (λ lt. none (omega (arith, later, lt))))

none_before : (t : ℕ) (kept : List WaitingRequest) → (position_or_len (has_ticket t) kept < length kept → ⊥) → All (λ p. p.ticket ≢ t) kept
none_before t [] none = All-nil (λ p. p.ticket ≢ t)
none_before t (o ∷ kept) none = none_more t o kept none (none_before t kept) (has_ticket t o) refl

pub nobody_at : (t : ℕ) (kept : List WaitingRequest) → position (has_ticket t) kept ≡ None → TakesKept t kept kept None
nobody_at t kept none = nobody (none_before t kept (λ lt. none-some _ (sym none ∙ cond-true (nat_lt (position_or_len (has_ticket t) kept) (length kept)) (Some (position_or_len (has_ticket t) kept)) None (lt-ltb _ _ lt)))) refl refl

before_first : (t : ℕ) (kept : List WaitingRequest) (i : ℕ) → position (has_ticket t) kept ≡ Some i → All (λ p. p.ticket ≢ t) (take i kept)
before_first t kept i found k d lt same =
    let at = position-Some (has_ticket t) kept i d found in
    let short : length (take i kept) ≤ i = subst (λ n. n ≤ i) (sym (length-take i kept)) (omega arith) in
    let below : k < i = omega (arith, lt, short) in
    false≢true (sym (at.2 k below) ∙ eq-eqb _ t (ap (λ (o : WaitingRequest). o.ticket) (sym (get_or-take i kept k d below)) ∙ same))

pub somebody_at : (t : ℕ) (kept : List WaitingRequest) (i : ℕ) (o : WaitingRequest)
    → position (has_ticket t) kept ≡ Some i
    → o ≡ get_or kept i o → TakesKept t kept (remove kept i) (Some o)
somebody_at t kept i o found read =
    let at = position-Some (has_ticket t) kept i o found in
    let within : i < length kept = at.0 in
    let its : o.ticket ≡ t = eqb-true o.ticket t (ap (has_ticket t) read ∙ at.1) in
    let tail : drop i kept ≡ o ∷ drop (suc i) kept =
    drop_more kept i o within ∙ ap (λ p. p ∷ drop (i + 1) kept) (sym read)
    ∙ ap (λ n. o ∷ drop n kept) (add-one i) in
    somebody (take i kept) (drop (suc i) kept) o (before_first t kept i found) its
    (sym (take-append-drop i kept) ∙ ap (λ rest. take i kept ++ rest) tail) refl refl

place_within : (t : ℕ) (kept : List WaitingRequest) (i : ℕ) → position (has_ticket t) kept ≡ Some i → i < length kept
place_within t [] i found = absurd (none-some _ found)
place_within t (o ∷ kept) i found = (position-Some (has_ticket t) (o ∷ kept) i o found).0

-- what is removed at the place of the first that waits for the lookup
pub taken_at : (t : ℕ) (kept new : List WaitingRequest) (i : ℕ) (taken : Option WaitingRequest) → position (has_ticket t) kept ≡ Some i → (n : ℕ) → n ≡ length kept
    → IsSome taken ↔ (i < n) → IfSome taken (λ o. o ≡ get_or kept i o) → OnSome taken (new ≡ remove kept i) → TakesKept t kept new taken
taken_at t kept new i None found n len there value items = absurd (false≢true (there.1 (rw len (place_within t kept i found))))
taken_at t kept new i (Some o) found n len there value items =
    subst (λ (left : List WaitingRequest). TakesKept t kept left (Some o)) (sym items) (somebody_at t kept i o found value)
