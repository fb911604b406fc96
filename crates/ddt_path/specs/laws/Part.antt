-- Trial of lengths, one after the other: the first part of a path that passes a test.
use Rattle.std.proofs.Common.{◌≡◌, ℕ, ◌+◌, ◌<◌, ◌≤◌, Bool, true, false, cond, List, length, take, find, Option, Some, None, refl, ap, ◌∙◌, arith, inl, inr}
use Rattle.std.specs.Prelude.{unwrap_or}
use Rattle.std.proofs.lemmas.Bool.{cond-true, cond-false, cases_lt}
use Rattle.ddt_path.specs.Free.{parts_from}
use Rattle.ddt_path.specs.laws.Hole.{parts_from_next, parts_from_last, parts_from_past}

-- the first part that passes, from a length on; all of the path where none does
abbrev pub first_part : (List ℕ → Bool) → List ℕ → ℕ → List ℕ
first_part test x n = unwrap_or (find test (parts_from n x)) x

pub first_part-found : (test : List ℕ → Bool) (x : List ℕ) (n : ℕ) → n < length x → test (take n x) ≡ true → first_part test x n ≡ take n x
first_part-found test x n lt e = ap (λ (ps : List (List ℕ)). unwrap_or (find test ps) x) (parts_from_next n x lt) ∙ ap (λ (o : Option (List ℕ)). unwrap_or o x) (cond-true (test (take n x)) _ _ e)

pub first_part-next : (test : List ℕ → Bool) (x : List ℕ) (n : ℕ) → n < length x → test (take n x) ≡ false → first_part test x n ≡ first_part test x (n + 1)
first_part-next test x n lt e = ap (λ (ps : List (List ℕ)). unwrap_or (find test ps) x) (parts_from_next n x lt) ∙ ap (λ (o : Option (List ℕ)). unwrap_or o x) (cond-false (test (take n x)) _ _ e)

pub first_part-end : (test : List ℕ → Bool) (x : List ℕ) (n : ℕ) → length x ≤ n → first_part test x n ≡ x
first_part-end test x n le =
    elim (cases_lt (length x) n) [
      | inl lt ↦ ap (λ (ps : List (List ℕ)). unwrap_or (find test ps) x) (parts_from_past n x lt)
      | inr ge ↦ let e : n ≡ length x = omega arith in
          ap (λ (k : ℕ). unwrap_or (find test (parts_from k x)) x) e ∙ ap (λ (ps : List (List ℕ)). unwrap_or (find test ps) x) (parts_from_last x)
          ∙ elim (test x) as (λ b. unwrap_or (cond b (Some x) None) x ≡ x) [ true ↦ refl | false ↦ refl ]
    ]
