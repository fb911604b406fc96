-- A reply takes its request off the list.
use Rattle.std.proofs.Common.{◌≡◌, ℕ, suc, ◌+◌, ◌<◌, Bool, true, false, List, [], ◌∷◌, ◌++◌, length, take, drop, get_or, Option, Some, None, refl, sym, ap, ◌∙◌, subst, arith, add-one}
use Rattle.std.specs.Prelude.{not, nat_lt, ◌↔◌, All, IfSome, OnSome, IsSome, position}
use Rattle.std.specs.List.{position_or_len, remove}
use Rattle.std.proofs.lemmas.Option.{none-some}
use Rattle.std.proofs.lemmas.Bool.{cond-true, cond-false, lt-ltb, false≢true}
use Rattle.std.proofs.lemmas.List.{take-append-drop, drop_more}
use Rattle.std.proofs.lemmas.List.Elements.{All-nil, All-cons}
use Rattle.std.proofs.lemmas.List.Quantifiers.{position-Some}
use Rattle.ddt_path.specs.declared.locator.Locator.{Locator}
use Rattle.ddt_sockets.specs.Nonces.Outstanding.{Request, is_reply_to, Takes, unknown, known}

abbrev fails : (Request → Bool) → Request → Type 0
fails test s = test s ≡ false

module _ (test : Request → Bool) where
  none_more : (s : Request) (xs : List Request) → (position_or_len test (s ∷ xs) < length (s ∷ xs) → ⊥)
      → ((position_or_len test xs < length xs → ⊥) → All (fails test) xs)
      → (b : Bool) → test s ≡ b → All (fails test) (s ∷ xs)
  none_more s xs none ih true e =
      let first : position_or_len test (s ∷ xs) ≡ 0 = cond-false (not (test s)) (1 + position_or_len test xs) 0 (ap not e) in
      absurd (none (omega (arith, first)))
  none_more s xs none ih false e =
      let later : position_or_len test (s ∷ xs) ≡ 1 + position_or_len test xs = cond-true (not (test s)) (1 + position_or_len test xs) 0 (ap not e) in
      All-cons (fails test) s xs e (ih (λ lt. none (omega (arith, later, lt))))

  none_before : (xs : List Request) → (position_or_len test xs < length xs → ⊥) → All (fails test) xs
  none_before [] none = All-nil (fails test)
  none_before (s ∷ xs) none = none_more s xs none (none_before xs) (test s) refl

  place_within : (xs : List Request) (i : ℕ) → position test xs ≡ Some i → i < length xs
  place_within [] i found = absurd (none-some _ found)
  place_within (s ∷ xs) i found = (position-Some test (s ∷ xs) i s found).0

pub unknown_at : (at from : Locator) (wire : ℕ) (xs : List Request) → position (is_reply_to at from wire) xs ≡ None → Takes at from wire xs xs None
unknown_at at from wire xs none =
    let test = is_reply_to at from wire in
    unknown (none_before test xs (λ lt. none-some _ (sym none ∙ cond-true (nat_lt (position_or_len test xs) (length xs)) (Some (position_or_len test xs)) None (lt-ltb _ _ lt)))) refl refl

pub known_at : (at from : Locator) (wire : ℕ) (xs : List Request) (i : ℕ) (s : Request) → position (is_reply_to at from wire) xs ≡ Some i
    → s ≡ get_or xs i s → Takes at from wire xs (remove xs i) (Some s)
known_at at from wire xs i s found read =
    let test = is_reply_to at from wire in
    let here = position-Some test xs i s found in
    let within : i < length xs = here.0 in
    let tail : drop i xs ≡ s ∷ drop (suc i) xs =
    drop_more xs i s within ∙ ap (λ p. p ∷ drop (i + 1) xs) (sym read)
    ∙ ap (λ n. s ∷ drop n xs) (add-one i) in
    known (take i xs) (drop (suc i) xs) s (ap test read ∙ here.1)
    (sym (take-append-drop i xs) ∙ ap (λ rest. take i xs ++ rest) tail) refl refl

-- what is removed at the place of a reply's request
pub taken_at : (at from : Locator) (wire : ℕ) (xs new : List Request) (i : ℕ) (taken : Option Request) → position (is_reply_to at from wire) xs ≡ Some i
    → (n : ℕ) → n ≡ length xs → IsSome taken ↔ (i < n) → IfSome taken (λ s. s ≡ get_or xs i s) → OnSome taken (new ≡ remove xs i) → Takes at from wire xs new taken
taken_at at from wire xs new i None found n len there value items =
    absurd (false≢true (there.1 (rw len (place_within (is_reply_to at from wire) xs i found))))
taken_at at from wire xs new i (Some s) found n len there value items =
    subst (λ (left : List Request). Takes at from wire xs left (Some s)) (sym items) (known_at at from wire xs i s found value)
