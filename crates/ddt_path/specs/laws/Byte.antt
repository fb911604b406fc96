-- Numbers as bytes: what is read of them is what was written, and what is written is what was read.
use Rattle.std.proofs.Common.{◌≡◌, ℕ, zero, suc, ◌+◌, ◌*◌, ◌^◌, ◌<◌, ◌≤◌, List, [], ◌∷◌, ◌++◌, length, take, drop, refl, sym, ap, subst, ◌∙◌, arith, inl, inr, length-append, length-take, length-drop, append_assoc, add-one}
use Rattle.std.proofs.Math.Seq.{drop-cons}
use Rattle.std.specs.Prelude.{slice_index}
use Rattle.std.specs.Int.{w128, byte_at, bytes_high_first, to_be_bytes, from_be_bytes}
use Rattle.std.proofs.lemmas.Bool.{cases_lt}
use Rattle.std.proofs.lemmas.Nat.{same_from_place, mod_below}
use Rattle.std.proofs.lemmas.List.{get_or-drop, get_or-take, get_or_past, append-nil, drop-drop, take-append-drop, take_at}
use Rattle.byteorder.specs.Endian.{big_from, big_number}
use Rattle.byteorder.specs.Numbers.{big_from-cons, big_from-take, big_from-lt, big_number-reads_back, length-bytes_high_first}
use Rattle.ddt_path.specs.Steps.{IsBytes}

pub IsBytes-drop : (n : ℕ) (bytes : List ℕ) → IsBytes bytes → IsBytes (drop n bytes)
IsBytes-drop n bytes h = record { at = λ i. rw get_or-drop (h.at (n + i)) }

pub IsBytes-take : (n : ℕ) (bytes : List ℕ) → IsBytes bytes → IsBytes (take n bytes)
IsBytes-take n bytes h = record {
  at = λ i.
      elim (cases_lt i n) [
        | inl lt ↦ rw (get_or-take n bytes i 0 lt) (h.at i)
        | inr le ↦ rw (get_or_past (take n bytes) i 0 (omega (arith, length-take n bytes))) (omega arith)
      ];
}

IsBytes-rest : (b : ℕ) (bytes : List ℕ) → IsBytes (b ∷ bytes) → IsBytes bytes
IsBytes-rest b bytes h = record { at = λ i. h.at (suc i) }

byte_or_rest : (b : ℕ) (bytes : List ℕ) → b < 256 → IsBytes bytes → (i : ℕ) → slice_index (b ∷ bytes) i < 256
byte_or_rest b bytes lt h zero = lt
byte_or_rest b bytes lt h (suc i) = h.at i

pub IsBytes-cons : (b : ℕ) (bytes : List ℕ) → b < 256 → IsBytes bytes → IsBytes (b ∷ bytes)
IsBytes-cons b bytes lt h = record { at = byte_or_rest b bytes lt h }

pub IsBytes-nil : IsBytes []
IsBytes-nil = record { at = λ i. omega arith }

pub one_byte : (b : ℕ) → b < 256 → IsBytes (b ∷ [])
one_byte b lt = IsBytes-cons b [] lt IsBytes-nil

pub two_bytes : (a b : ℕ) → a < 256 → b < 256 → IsBytes (a ∷ b ∷ [])
two_bytes a b h k = IsBytes-cons a (b ∷ []) h (one_byte b k)

pub IsBytes-append : (xs ys : List ℕ) → IsBytes xs → IsBytes ys → IsBytes (xs ++ ys)
IsBytes-append [] ys hx hy = hy
IsBytes-append (x ∷ xs) ys hx hy = IsBytes-cons x (xs ++ ys) (hx.at 0) (IsBytes-append xs ys (IsBytes-rest x xs hx) hy)

-- bytes, one part behind the other
infixl 20 ◌beside◌
pub ◌beside◌ : {xs ys : List ℕ} → IsBytes xs → IsBytes ys → IsBytes (xs ++ ys)
◌beside◌ {xs} {ys} h k = IsBytes-append xs ys h k

byte_at-lt : (i n : ℕ) → byte_at i n < 256
byte_at-lt zero n = mod_below n 256 (omega arith)
byte_at-lt (suc i) n = mod_below _ 256 (omega arith)

pub IsBytes-number : (n x : ℕ) → IsBytes (bytes_high_first n x)
IsBytes-number zero x = IsBytes-nil
IsBytes-number (suc n) x = IsBytes-cons (byte_at n x) (bytes_high_first n x) (byte_at-lt n x) (IsBytes-number n x)

-- bytes that read as one number are the same
same_bytes : (n : ℕ) (xs ys : List ℕ) → IsBytes xs → IsBytes ys → length xs ≡ n → length ys ≡ n → big_from 0 n xs ≡ big_from 0 n ys → xs ≡ ys
same_bytes zero [] [] hx hy ex ey e = refl
same_bytes zero (x ∷ xs) ys hx hy ex ey e = absurd (omega arith)
same_bytes zero [] (y ∷ ys) hx hy ex ey e = absurd (omega arith)
same_bytes (suc n) [] ys hx hy ex ey e = absurd (omega arith)
same_bytes (suc n) (x ∷ xs) [] hx hy ex ey e = absurd (omega arith)
same_bytes (suc n) (x ∷ xs) (y ∷ ys) hx hy ex ey e =
    let fx = IsBytes-rest x xs hx in
    let fy = IsBytes-rest y ys hy in
    let moved : x * 256 ^ n + big_from 0 n xs ≡ y * 256 ^ n + big_from 0 n ys = rw (← big_from-cons 0 n x xs, ← big_from-cons 0 n y ys) e in
    let p = same_from_place x (big_from 0 n xs) y (big_from 0 n ys) (256 ^ n) (big_from-lt 0 n xs fx.at) (big_from-lt 0 n ys fy.at) moved in
    let lx : length xs ≡ n = omega arith in
    let ly : length ys ≡ n = omega arith in
    rw (p.0, same_bytes n xs ys fx fy lx ly p.1) refl

-- the bytes of the number that bytes read as
pub bytes_back : (n : ℕ) (xs : List ℕ) → IsBytes xs → length xs ≡ n → bytes_high_first n (big_number n xs) ≡ xs
bytes_back n xs h e =
    let x = big_number n xs in
    let again : big_from 0 n (bytes_high_first n x) ≡ x = ap (big_from 0 n) (sym (append-nil (bytes_high_first n x))) ∙ big_number-reads_back n x [] (big_from-lt 0 n xs h.at) in
    same_bytes n (bytes_high_first n x) xs (IsBytes-number n x) h (length-bytes_high_first n x) e again

-- a number of 16 bytes, from its bytes
pub from_16_bytes : (n : ℕ) → n < 2 ^ 128 → from_be_bytes w128 (to_be_bytes w128 n) ≡ n
from_16_bytes n fits =
    let bytes = to_be_bytes w128 n in
    let place : from_be_bytes w128 bytes ≡ big_from 0 16 bytes = omega arith in
    place ∙ ap (big_from 0 16) (sym (append-nil bytes)) ∙ big_number-reads_back 16 n [] fits

-- ---- what stands at the front

-- this text, and after it the bytes from place n on
pub record HasFront (bytes text : List ℕ) (n : ℕ) : Type 0 where
  pub parts : bytes ≡ text ++ drop n bytes
  pub len : length text ≡ n

pub HasFront-then : (bytes x y : List ℕ) (m n : ℕ) → HasFront bytes x m → HasFront (drop m bytes) y n → HasFront bytes (x ++ y) (m + n)
HasFront-then bytes x y m n p q = record {
  parts = p.parts ∙ ap (λ (t : List ℕ). x ++ t) (q.parts ∙ ap (λ (t : List ℕ). y ++ t) (drop-drop n m bytes)) ∙ sym (append_assoc x y (drop (m + n) bytes));
  len = length-append x y ∙ omega (arith, p.len, q.len);
}

pub HasFront-take : (bytes text : List ℕ) (n : ℕ) → HasFront bytes text n → take n bytes ≡ text
HasFront-take bytes text n p = ap (take n) p.parts ∙ take_at text (drop n bytes) n p.len

pub HasFront-fits : (bytes text : List ℕ) (n : ℕ) → HasFront bytes text n → n ≤ length bytes
HasFront-fits bytes text n p = omega (arith, ap length p.parts, length-append text (drop n bytes), p.len)

pub front_taken : (n : ℕ) (bytes : List ℕ) → n ≤ length bytes → HasFront bytes (take n bytes) n
front_taken n bytes h = record { parts = sym (take-append-drop n bytes); len = length-take n bytes ∙ omega arith }

-- the n bytes of the number at the front
pub number_taken : (n : ℕ) (bytes : List ℕ) → IsBytes bytes → n ≤ length bytes → HasFront bytes (bytes_high_first n (big_number n bytes)) n
number_taken n bytes fits h =
    let len : length (take n bytes) ≡ n = length-take n bytes ∙ omega arith in
    let number : big_number n (take n bytes) ≡ big_number n bytes = big_from-take 0 n n bytes (omega arith) in
    let e : bytes_high_first n (big_number n bytes) ≡ take n bytes = ap (bytes_high_first n) (sym number) ∙ bytes_back n (take n bytes) (IsBytes-take n bytes fits) len in
    rw e (front_taken n bytes h)

-- the same from a place on
pub number_taken_at : (k n : ℕ) (bytes : List ℕ) → IsBytes bytes → k + n ≤ length bytes → HasFront (drop k bytes) (bytes_high_first n (big_number n (drop k bytes))) n
number_taken_at k n bytes fits h = number_taken n (drop k bytes) (IsBytes-drop k bytes fits) (omega (arith, length-drop k bytes))

pub byte_taken : (k : ℕ) (bytes : List ℕ) → k < length bytes → HasFront (drop k bytes) (slice_index bytes k ∷ []) 1
byte_taken k bytes h =
    let e : drop k bytes ≡ slice_index bytes k ∷ drop (suc k) bytes = drop-cons bytes k 0 h in
    let d : drop 1 (drop k bytes) ≡ drop (suc k) bytes = drop-drop 1 k bytes ∙ ap (λ (n : ℕ). drop n bytes) (add-one k) in
    record { parts = e ∙ ap (λ (t : List ℕ). slice_index bytes k ∷ t) (sym d); len = refl }

pub number_fits : (n : ℕ) (bytes : List ℕ) → IsBytes bytes → big_number n bytes < 256 ^ n
number_fits n bytes fits = big_from-lt 0 n bytes fits.at

-- ---- what stands from one place to another

pub record IsBetween (bytes : List ℕ) (k : ℕ) (text : List ℕ) (m : ℕ) : Type 0 where
  pub is : drop k bytes ≡ text ++ drop m bytes

-- one text, and behind it another
infixl 20 ◌followed_by◌
pub ◌followed_by◌ : {bytes x y : List ℕ} {k m n : ℕ} → IsBetween bytes k x m → IsBetween bytes m y n → IsBetween bytes k (x ++ y) n
◌followed_by◌ {bytes} {x} {y} {k} {m} {n} p q = record { is = p.is ∙ ap (λ (t : List ℕ). x ++ t) q.is ∙ sym (append_assoc x y (drop n bytes)) }

pub stands : (bytes text : List ℕ) (k n : ℕ) → HasFront (drop k bytes) text n → IsBetween bytes k text (k + n)
stands bytes text k n p = record { is = p.parts ∙ ap (λ (t : List ℕ). text ++ t) (drop-drop n k bytes) }

pub number_stands : (k n : ℕ) (bytes : List ℕ) → IsBytes bytes → k + n ≤ length bytes → IsBetween bytes k (bytes_high_first n (big_number n (drop k bytes))) (k + n)
number_stands k n bytes fits h = stands bytes (bytes_high_first n (big_number n (drop k bytes))) k n (number_taken_at k n bytes fits h)

-- the same for a number that is known
pub known_stands : (k n x : ℕ) (bytes : List ℕ) → IsBytes bytes → k + n ≤ length bytes → big_number n (drop k bytes) ≡ x → IsBetween bytes k (bytes_high_first n x) (k + n)
known_stands k n x bytes fits h e = subst (λ (y : ℕ). IsBetween bytes k (bytes_high_first n y) (k + n)) e (number_stands k n bytes fits h)

pub byte_stands : (k : ℕ) (bytes : List ℕ) → k < length bytes → IsBetween bytes k (slice_index bytes k ∷ []) (k + 1)
byte_stands k bytes h = stands bytes (slice_index bytes k ∷ []) k 1 (byte_taken k bytes h)

pub known_byte : (k b : ℕ) (bytes : List ℕ) → k < length bytes → slice_index bytes k ≡ b → IsBetween bytes k (b ∷ []) (k + 1)
known_byte k b bytes h e = subst (λ (y : ℕ). IsBetween bytes k (y ∷ []) (k + 1)) e (byte_stands k bytes h)
