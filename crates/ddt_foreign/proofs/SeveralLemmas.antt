-- Reading things one after the other, as a loop does; and those that are left of a datagram, one by one.
use Rattle.std.proofs.Common.{◌≡◌, ℕ, suc, ◌-◌, ◌+◌, ◌<◌, ◌≤◌, true, List, [], ◌∷◌, ◌++◌, Result, Ok, Err, refl, sym, ap, ◌∙◌, arith, append_assoc}
use Rattle.std.proofs.lemmas.List.{append-nil}
use Rattle.std.specs.Prelude.{is_ok}
use Rattle.ddt_path.specs.Steps.{◌>>=◌}
use Rattle.ddt_foreign.specs.Several.{several_at, several_in, things_of, ComesAfter}

-- ---- a loop

-- what was read before, and what is still read
abbrev pub with_front : {A E : Type 0} → List A → Result (List A × List ℕ) E → Result (List A × List ℕ) E
with_front front read = read >>= λ x. Ok (front ++ x.0, x.1)

regroup : {A E : Type 0} (front : List A) (a : A) (read : Result (List A × List ℕ) E)
    → with_front front (read >>= λ x. Ok (a ∷ x.0, x.1)) ≡ with_front (front ++ a ∷ []) read
regroup {A = A} front a (Ok x) = ap (λ (ls : List A). Ok (ls, x.1)) (simp append_assoc)
regroup front a (Err f) = refl

-- with some things read, so many are still to be read of the rest, and together they are those of all the bytes
abbrev pub IsReadSoFar : {A E : Type 0} → (List ℕ → Result (A × List ℕ) E) → ℕ → List ℕ → ℕ → List ℕ → Type 0
IsReadSoFar {A = A} step count bytes left rest = (front : List A)
    × (with_front front (several_at step left rest) ≡ several_at step count bytes)

pub begins : {A E : Type 0} (step : List ℕ → Result (A × List ℕ) E) (count : ℕ) (bytes : List ℕ)
    → IsReadSoFar step count bytes (count - 0) bytes
begins step count bytes = let e : count - 0 ≡ count = omega arith in ([], rw e (none (several_at step count bytes))) where
  none : {A E : Type 0} (read : Result (List A × List ℕ) E) → with_front [] read ≡ read
  none (Ok x) = refl
  none (Err f) = refl

pub goes_on : {A E : Type 0} (step : List ℕ → Result (A × List ℕ) E) (count i : ℕ) (bytes rest after : List ℕ) (a : A)
    → i < count → step rest ≡ Ok (a, after) → IsReadSoFar step count bytes (count - i) rest
    → IsReadSoFar step count bytes (count - (i + 1)) after
unfolding several_at
goes_on step count i bytes rest after a lt e (front, so_far) =
    let k : count - i ≡ suc (count - (i + 1)) = omega arith in
    let one : with_front front (several_at step (count - i) rest) ≡ with_front (front ++ a ∷ []) (several_at step (count - (i + 1)) after) = rw (k, e) (regroup front a (several_at step (count - (i + 1)) after)) in
    (front ++ a ∷ [], sym one ∙ so_far)

pub ends : {A E : Type 0} (step : List ℕ → Result (A × List ℕ) E) (count i : ℕ) (bytes rest : List ℕ) (f : E)
    → i < count → step rest ≡ Err f → IsReadSoFar step count bytes (count - i) rest → several_at step count bytes ≡ Err f
unfolding several_at
ends step count i bytes rest f lt e (front, so_far) =
    let k : count - i ≡ suc (count - (i + 1)) = omega arith in
    let one : with_front front (several_at step (count - i) rest) ≡ Err f = rw (k, e) refl in
    sym so_far ∙ one

pub is_done : {A E : Type 0} (step : List ℕ → Result (A × List ℕ) E) (count i : ℕ) (bytes rest : List ℕ)
    → count ≤ i → IsReadSoFar step count bytes (count - i) rest → ComesAfter step count bytes rest
unfolding several_at
is_done {A = A} step count i bytes rest le (front, so_far) =
    let k : count - i ≡ 0 = omega arith in
    let one : with_front front (several_at step (count - i) rest) ≡ Ok (front, rest) = rw k (ap (λ (ls : List A). Ok (ls, rest)) (append-nil front)) in
    (front, sym so_far ∙ one)

-- ---- those that are left

pub none_left : {A E : Type 0} (step : List ℕ → Result (A × List ℕ) E) (left : ℕ) (bytes : List ℕ) (ls : List A)
    → left ≡ 0 → several_in step left bytes ≡ ls → ls ≡ []
unfolding several_at
none_left step left bytes ls e v = sym v ∙ ap (λ (k : ℕ). several_in step k bytes) e

with_one : {A E : Type 0} (a : A) (read : Result (List A × List ℕ) E) → is_ok (with_front (a ∷ []) read) ≡ true
    → (things_of (with_front (a ∷ []) read) ≡ a ∷ things_of read) × (is_ok read ≡ true)
with_one a (Ok x) e = (refl, refl)
with_one a (Err f) e = absurd cc

one_of : {A E : Type 0} (step : List ℕ → Result (A × List ℕ) E) (m : ℕ) (bytes after : List ℕ) (a : A)
    → step bytes ≡ Ok (a, after) → is_ok (several_at step (suc m) bytes) ≡ true
    → (several_in step (suc m) bytes ≡ a ∷ several_in step m after) × (is_ok (several_at step m after) ≡ true)
unfolding several_at
one_of step m bytes after a e ok = rw e (with_one a (several_at step m after) (rw e at ok))

-- the first thing, and those after it
pub next_of : {A E : Type 0} (step : List ℕ → Result (A × List ℕ) E) (left : ℕ) (bytes after : List ℕ) (ls : List A) (a : A)
    → (left ≡ 0 → ⊥) → step bytes ≡ Ok (a, after) → is_ok (several_at step left bytes) ≡ true
    → several_in step left bytes ≡ ls
    → (ls ≡ a ∷ several_in step (left - 1) after) × (is_ok (several_at step (left - 1) after) ≡ true)
next_of step left bytes after ls a some e ok v =
    let k : left ≡ suc (left - 1) = omega arith in
    let p = one_of step (left - 1) bytes after a e (sym (ap (λ (m : ℕ). is_ok (several_at step m bytes)) k) ∙ ok) in
    (sym v ∙ ap (λ (m : ℕ). several_in step m bytes) k ∙ p.0, p.1)

-- where all were read before, none is refused
pub never_refused : {A E : Type 0} (step : List ℕ → Result (A × List ℕ) E) (left : ℕ) (bytes : List ℕ) (f : E)
    → (left ≡ 0 → ⊥) → step bytes ≡ Err f → is_ok (several_at step left bytes) ≡ true → ⊥
unfolding several_at
never_refused step left bytes f some e ok =
    let k : left ≡ suc (left - 1) = omega arith in
    let h : is_ok (several_at step (suc (left - 1)) bytes) ≡ true = sym (ap (λ (m : ℕ). is_ok (several_at step m bytes)) k) ∙ ok in
    let g = rw e at h in
    absurd cc
