-- The ITR-RLOCs whose address is known.
use Rattle.std.proofs.Common.{◌≡◌, ℕ, zero, suc, ◌+◌, ◌-◌, ◌≤◌, true, List, [], ◌∷◌, length, Option, Some, None, Ok, refl, sym, ap, subst, ◌∙◌, arith}
use Rattle.std.specs.Prelude.{is_ok}
use Rattle.ddt_path.specs.declared.locator.Locator.{Locator}
use Rattle.ddt_path.specs.laws.Step.{bind_parts, ok_is}
use Rattle.ddt_foreign.specs.declared.fault.ForeignRequestFault.{ForeignRequestFault}
use Rattle.ddt_foreign.specs.Several.{several_at, several_in, things_of, ComesAfter}
use Rattle.ddt_foreign.specs.Request.{rloc_at, known, known_in}
use Rattle.ddt_foreign.proofs.SeveralLemmas.{none_left, next_of}

pub several_length : (n : ℕ) (bytes : List ℕ) (x : List (Option Locator) × List ℕ) → several_at rloc_at n bytes ≡ Ok x → length x.0 ≡ n
unfolding several_at
several_length zero bytes x e = subst (λ (y : List (Option Locator) × List ℕ). length y.0 ≡ 0) (ok_is {E = ForeignRequestFault} ([], bytes) x e) refl
several_length (suc n) bytes x e =
    bind_parts (rloc_at bytes) _ x e λ first read₁ e₁.
    bind_parts (several_at rloc_at n first.1) _ x e₁ λ others read₂ e₂.
    subst (λ (y : List (Option Locator) × List ℕ). length y.0 ≡ suc n) (ok_is {E = ForeignRequestFault} (first.0 ∷ others.0, others.1) x e₂) (ap suc (several_length n first.1 others read₂))

pub known_few : (os : List (Option Locator)) → length (known os) ≤ length os
known_few [] = omega arith
known_few (Some a ∷ others) = omega (arith, known_few others)
known_few (None ∷ others) = omega (arith, known_few others)

pub few_known : (n : ℕ) (bytes rest : List ℕ) → ComesAfter rloc_at n bytes rest → length (known_in n bytes) ≤ n
few_known n bytes rest (os, e) =
    let same : known_in n bytes ≡ known os = ap (λ (r : _). known (things_of r)) e in
    omega (arith, ap length same, known_few os, several_length n bytes (os, rest) e)

-- ---- those that are left

known_next : (left : ℕ) (bytes after : List ℕ) (o : Option Locator) → (left ≡ 0 → ⊥) → rloc_at bytes ≡ Ok (o, after) → is_ok (several_at rloc_at left bytes) ≡ true
    → (known_in left bytes ≡ known (o ∷ several_in rloc_at (left - 1) after)) × (is_ok (several_at rloc_at (left - 1) after) ≡ true)
known_next left bytes after o some e ok =
    let p = next_of rloc_at left bytes after (several_in rloc_at left bytes) o some e ok refl in
    (ap known p.0, p.1)

-- an ITR-RLOC whose address is known comes next
pub next_some : (left : ℕ) (bytes after : List ℕ) (o : Option Locator) (a : Locator) (all : List Locator) → (left ≡ 0 → ⊥) → rloc_at bytes ≡ Ok (o, after) → is_ok (several_at rloc_at left bytes) ≡ true
    → o ≡ Some a → known_in left bytes ≡ all → (all ≡ a ∷ known_in (left - 1) after) × (is_ok (several_at rloc_at (left - 1) after) ≡ true)
next_some left bytes after o a all some e ok is same =
    let p = known_next left bytes after (Some a) some (rw is at e) ok in
    (sym same ∙ p.0, p.1)

-- one whose address is unknown comes next
pub next_none : (left : ℕ) (bytes after : List ℕ) (o : Option Locator) (all : List Locator) → (left ≡ 0 → ⊥) → rloc_at bytes ≡ Ok (o, after) → is_ok (several_at rloc_at left bytes) ≡ true
    → o ≡ None → known_in left bytes ≡ all → (is_ok (several_at rloc_at (left - 1) after) ≡ true) × (known_in (left - 1) after ≡ all)
next_none left bytes after o all some e ok is same =
    let p = known_next left bytes after None some (rw is at e) ok in
    (p.1, sym p.0 ∙ same)

-- none is left
pub next_ends : (left : ℕ) (bytes : List ℕ) (all : List Locator) → left ≡ 0 → known_in left bytes ≡ all → all ≡ []
next_ends left bytes all e same = sym same ∙ ap known (none_left rloc_at left bytes (several_in rloc_at left bytes) e refl)
