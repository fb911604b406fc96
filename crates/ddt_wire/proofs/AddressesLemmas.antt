-- Reading addresses one after the other, as a loop does; those that are left of a datagram, one by one; and those that
-- are written.
use Rattle.std.proofs.Common.{◌≡◌, ℕ, suc, ◌-◌, ◌+◌, ◌<◌, ◌≤◌, true, List, [], ◌∷◌, ◌++◌, length, take, drop, get_or, All, Result, Ok, Err, refl, sym, ap, ◌∙◌, arith, append_assoc}
use Rattle.std.proofs.lemmas.List.{take_more, append-nil}
use Rattle.std.proofs.lemmas.List.Elements.{All-push}
use Rattle.std.proofs.lemmas.List.Concat.{flat_map-append, flat_map-cons}
use Rattle.std.specs.Prelude.{is_ok}
use Rattle.std.specs.List.{flat_map}
use Rattle.ddt_path.specs.declared.locator.Locator.{Locator}
use Rattle.ddt_path.specs.Steps.{◌>>=◌}
use Rattle.ddt_wire.specs.declared.address.AddressFault.{AddressFault}
use Rattle.ddt_wire.specs.Address.{IsAddress}
use Rattle.ddt_wire.specs.Addresses.{behind_at, addresses_at, addresses_in, read_addresses, StandsAfter}

-- ---- a loop

-- what was read before, and what is still read
abbrev pub with_front : List Locator → Result (List Locator × List ℕ) AddressFault → Result (List Locator × List ℕ) AddressFault
with_front front read = read >>= λ x. Ok (front ++ x.0, x.1)

regroup : (front : List Locator) (l : Locator) (read : Result (List Locator × List ℕ) AddressFault) → with_front front (read >>= λ x. Ok (l ∷ x.0, x.1)) ≡ with_front (front ++ l ∷ []) read
regroup front l (Ok x) = ap (λ (ls : List Locator). Ok (ls, x.1)) (simp append_assoc)
regroup front l (Err f) = refl

-- with some locators read, so many are still to be read of the rest, and together they are those of all the bytes
abbrev pub IsReadSoFar : ℕ → ℕ → List ℕ → ℕ → List ℕ → Type 0
IsReadSoFar before count bytes left rest = (front : List Locator) × (with_front front (addresses_at before left rest) ≡ addresses_at before count bytes)

pub goes_on : (before count i : ℕ) (bytes rest : List ℕ) (l : Locator) (taken : ℕ) → i < count → Ok (l, taken) ≡ behind_at before rest → IsReadSoFar before count bytes (count - i) rest → IsReadSoFar before count bytes (count - (i + 1)) (drop taken rest)
unfolding addresses_at
goes_on before count i bytes rest l taken lt e (front, so_far) =
    let k : count - i ≡ suc (count - (i + 1)) = omega arith in
    let one : with_front front (addresses_at before (count - i) rest) ≡ with_front (front ++ l ∷ []) (addresses_at before (count - (i + 1)) (drop taken rest)) = rw (k, ← e) (regroup front l (addresses_at before (count - (i + 1)) (drop taken rest))) in
    (front ++ l ∷ [], sym one ∙ so_far)

pub ends : (before count i : ℕ) (bytes rest : List ℕ) (f : AddressFault) → i < count → Err f ≡ behind_at before rest → IsReadSoFar before count bytes (count - i) rest → addresses_at before count bytes ≡ Err f
unfolding addresses_at
ends before count i bytes rest f lt e (front, so_far) =
    let k : count - i ≡ suc (count - (i + 1)) = omega arith in
    let one : with_front front (addresses_at before (count - i) rest) ≡ Err f = rw (k, ← e) refl in
    sym so_far ∙ one

pub is_done : (before count i : ℕ) (bytes rest : List ℕ) → count ≤ i → IsReadSoFar before count bytes (count - i) rest → StandsAfter before count bytes rest
unfolding addresses_at
is_done before count i bytes rest le (front, so_far) =
    let k : count - i ≡ 0 = omega arith in
    let one : with_front front (addresses_at before (count - i) rest) ≡ Ok (front, rest) = rw k (ap (λ (ls : List Locator). Ok (ls, rest)) (append-nil front)) in
    (front, sym so_far ∙ one)

-- ---- those that are left

pub none_left : (before left : ℕ) (bytes : List ℕ) (ls : List Locator) → left ≡ 0 → addresses_in before left bytes ≡ ls → ls ≡ []
unfolding addresses_at
none_left before left bytes ls e v = sym v ∙ ap (λ (k : ℕ). addresses_in before k bytes) e

with_one : (l : Locator) (read : Result (List Locator × List ℕ) AddressFault) → is_ok (with_front (l ∷ []) read) ≡ true → (read_addresses (with_front (l ∷ []) read) ≡ l ∷ read_addresses read) × (is_ok read ≡ true)
with_one l (Ok x) e = (refl, refl)
with_one l (Err f) e = absurd cc

one_of : (before m : ℕ) (bytes : List ℕ) (l : Locator) (n : ℕ) → Ok (l, n) ≡ behind_at before bytes → is_ok (addresses_at before (suc m) bytes) ≡ true
    → (addresses_in before (suc m) bytes ≡ l ∷ addresses_in before m (drop n bytes)) × (is_ok (addresses_at before m (drop n bytes)) ≡ true)
unfolding addresses_at
one_of before m bytes l n e ok = rw (← e) (with_one l (addresses_at before m (drop n bytes)) (rw (← e) at ok))

-- the first address, and those after it
pub next_of : (before left : ℕ) (bytes : List ℕ) (ls : List Locator) (l : Locator) (n : ℕ) (after : List ℕ) → (left ≡ 0 → ⊥) → Ok (l, n) ≡ behind_at before bytes → after ≡ drop n bytes
    → is_ok (addresses_at before left bytes) ≡ true → addresses_in before left bytes ≡ ls → (ls ≡ l ∷ addresses_in before (left - 1) after) × (is_ok (addresses_at before (left - 1) after) ≡ true)
next_of before left bytes ls l n after some e rest ok v =
    let k : left ≡ suc (left - 1) = omega arith in
    let p = one_of before (left - 1) bytes l n e (sym (ap (λ (m : ℕ). is_ok (addresses_at before m bytes)) k) ∙ ok) in
    rw rest (sym v ∙ ap (λ (m : ℕ). addresses_in before m bytes) k ∙ p.0, p.1)

-- where all were read before, none is refused
pub never_refused : (before left : ℕ) (bytes : List ℕ) (f : AddressFault) → (left ≡ 0 → ⊥) → Err f ≡ behind_at before bytes → is_ok (addresses_at before left bytes) ≡ true → ⊥
unfolding addresses_at
never_refused before left bytes f some e ok =
    let k : left ≡ suc (left - 1) = omega arith in
    let h : is_ok (addresses_at before (suc (left - 1)) bytes) ≡ true = sym (ap (λ (m : ℕ). is_ok (addresses_at before m bytes)) k) ∙ ok in
    let g = rw (← e) at h in
    absurd cc

-- one more address fits, and one more is written
pub fit_more : (ls : List Locator) (i : ℕ) (d : Locator) → i < length ls → All IsAddress (take i ls) → IsAddress (get_or ls i d) → All IsAddress (take (i + 1) ls)
fit_more ls i d h a p = rw (take_more ls i d h) (All-push IsAddress (take i ls) (get_or ls i d) a p)

pub written_more : (text : Locator → List ℕ) (old new fresh : List ℕ) (ls : List Locator) (i : ℕ) (d : Locator) → i < length ls → new ≡ old ++ flat_map text (take i ls) → fresh ≡ new ++ text (get_or ls i d)
    → fresh ≡ old ++ flat_map text (take (i + 1) ls)
written_more text old new fresh ls i d h e f =
    f ∙ ap (λ (bytes : List ℕ). bytes ++ text (get_or ls i d)) e ∙ append_assoc old (flat_map text (take i ls)) (text (get_or ls i d))
    ∙ ap (λ (bytes : List ℕ). old ++ bytes) (sym (ap (flat_map text) (take_more ls i d h) ∙ flat_map-append text (take i ls) (get_or ls i d ∷ []) ∙ ap (λ (bytes : List ℕ). flat_map text (take i ls) ++ bytes) (flat_map-cons text (get_or ls i d) [] ∙ append-nil (text (get_or ls i d)))))
