-- The paths of identifiers and of prefixes pass their tests, and a list that passes is the path of one.
use Rattle.std.proofs.Common.{◌≡◌, ℕ, zero, suc, ◌+◌, ◌-◌, ◌*◌, ◌/◌, ◌%◌, ◌^◌, ◌<◌, ◌≤◌, true, List, [], ◌∷◌, ◌++◌, length, take, drop, refl, sym, ap, subst, ◌∙◌, arith, inl, inr}
use Rattle.std.specs.Prelude.{nat_lt, nat_le, replicate, ◌==◌, ◌&&◌, ◌||◌}
use Rattle.std.specs.Int.Digits.{number_from_digits_after}
use Rattle.std.proofs.lemmas.Bool.{lt-ltb, ltb-true, and_parts, and_from, or_cases, or_left, or_right, false≢true, le-leb, leb-true, eqb-true}
use Rattle.std.proofs.lemmas.List.{take_at, drop_at, take_all, drop_all, take-append-drop, length-take, length-drop, length-append, length-replicate, append-nil}
use Rattle.std.proofs.lemmas.List.Folds.{list_all-append}
use Rattle.std.proofs.lemmas.Nat.{pow-add, pow_pos, le-div, div_below, mul-le}
use Rattle.ddt_path.specs.declared.locator.Locator.{Locator}
use Rattle.ddt_path.specs.declared.locator.Locator.TheVariants.{V4, V6}
use Rattle.ddt_path.specs.declared.xeid.Xeid.{Xeid}
use Rattle.ddt_path.specs.declared.form.Form.{Form}
use Rattle.ddt_path.specs.declared.form.Form.TheVariants.{Range, Block}
use Rattle.ddt_path.specs.Path.{digits, path, xeid_path, address_path, address_digits, address_number, address_width, family, are_binary, is_address_part, is_address_front, is_path, is_prefix_path, are_zero, IsForm, IsInRange}
use Rattle.ddt_path.specs.DigitLemmas.{length-digits}
use Rattle.ddt_path.specs.Covers.{covers}
use Rattle.ddt_path.specs.laws.Prefix.{replicate-are_zero}
use Rattle.ddt_path.specs.laws.Cover.{length-covered}

are_binary-digits : (w x : ℕ) → are_binary (digits w x) ≡ true
unfolding digits
are_binary-digits zero x = refl
are_binary-digits (suc w) x = and_from (nat_lt (x / 2 ^ w % 2) 2) (are_binary (digits w x)) (lt-ltb (x / 2 ^ w % 2) 2 (omega arith)) (are_binary-digits w x)

are_binary-take : (n : ℕ) (ds : List ℕ) → are_binary ds ≡ true → are_binary (take n ds) ≡ true
are_binary-take zero ds e = refl
are_binary-take (suc n) [] e = refl
are_binary-take (suc n) (d ∷ ds) e =
    let p = and_parts (nat_lt d 2) (are_binary ds) e in
    and_from (nat_lt d 2) (are_binary (take n ds)) p.0 (are_binary-take n ds p.1)

address_part : (a : Locator) → is_address_part (address_path a) ≡ true
address_part (V4 n) = rw (are_binary-digits 32 n, length-digits 32 n) refl
address_part (V6 n) = rw (are_binary-digits 128 n, length-digits 128 n) refl

pub is_path-xeid_path : (x : Xeid) → is_path (xeid_path x) ≡ true
is_path-xeid_path x =
    let front = take_at (digits 32 x.iid) (address_path x.address) 32 (length-digits 32 x.iid) in
    let back = drop_at (digits 32 x.iid) (address_path x.address) 32 (length-digits 32 x.iid) in
    and_from (are_binary (take 32 (xeid_path x))) (is_address_part (drop 32 (xeid_path x)))
    (ap are_binary front ∙ are_binary-digits 32 x.iid) (ap is_address_part back ∙ address_part x.address)

address_front : (a : Locator) (len : ℕ) → len ≤ address_width a → is_address_front (family a ∷ take len (address_digits a)) ≡ true
address_front (V4 n) len le =
    let m : length (take len (digits 32 n)) ≤ 32 = omega (arith, length-take len (digits 32 n), length-digits 32 n) in
    rw (are_binary-take len (digits 32 n) (are_binary-digits 32 n), le-leb (length (take len (digits 32 n))) 32 m) refl
address_front (V6 n) len le =
    let m : length (take len (digits 128 n)) ≤ 128 = omega (arith, length-take len (digits 128 n), length-digits 128 n) in
    rw (are_binary-take len (digits 128 n) (are_binary-digits 128 n), le-leb (length (take len (digits 128 n))) 128 m) refl

pub is_prefix_path-path : (form : Form) → IsForm form → is_prefix_path (path form) ≡ true
is_prefix_path-path (Range iid len) h =
    let ds = take len (digits 32 iid) in
    let short : length ds ≤ 32 = omega (arith, length-take len (digits 32 iid), length-digits 32 iid) in
    and_from (are_binary (take 32 ds)) (is_address_front (drop 32 ds))
    (ap are_binary (take_all 32 ds short) ∙ are_binary-take len (digits 32 iid) (are_binary-digits 32 iid)) (ap is_address_front (drop_all 32 ds short))
is_prefix_path-path (Block iid a len) h =
    let es = family a ∷ take len (address_digits a) in
    and_from (are_binary (take 32 (digits 32 iid ++ es))) (is_address_front (drop 32 (digits 32 iid ++ es)))
    (ap are_binary (take_at (digits 32 iid) es 32 (length-digits 32 iid)) ∙ are_binary-digits 32 iid)
    (ap is_address_front (drop_at (digits 32 iid) es 32 (length-digits 32 iid)) ∙ address_front a len h.2)

-- ---- digits of the number that digits spell

number_low : (n : ℕ) (ds : List ℕ) → n * 2 ^ length ds ≤ number_from_digits_after 2 n ds
number_low n [] = omega arith
number_low n (d ∷ ds) =
    let double : 2 ^ (1 + length ds) ≡ 2 * 2 ^ length ds = pow-add 2 1 (length ds) in
    let e : suc (length ds) ≡ 1 + length ds = omega arith in
    let rest = number_low (n * 2 + d) ds in
    rw (e, double) (let p : n * (2 * 2 ^ length ds) ≤ (n * 2 + d) * 2 ^ length ds = grind arith in omega (arith, p, rest))

number_high : (n : ℕ) (ds : List ℕ) → are_binary ds ≡ true → number_from_digits_after 2 n ds < (n + 1) * 2 ^ length ds
number_high n [] e = omega arith
number_high n (d ∷ ds) h =
    let p = and_parts (nat_lt d 2) (are_binary ds) h in
    let small : d < 2 = ltb-true d 2 p.0 in
    let double : 2 ^ (1 + length ds) ≡ 2 * 2 ^ length ds = pow-add 2 1 (length ds) in
    let e : suc (length ds) ≡ 1 + length ds = omega arith in
    let rest = number_high (n * 2 + d) ds p.1 in
    let le : (n * 2 + d + 1) * 2 ^ length ds ≤ ((n + 1) * 2) * 2 ^ length ds = mul-le (n * 2 + d + 1) (2 ^ length ds) ((n + 1) * 2) (2 ^ length ds) (omega arith) (omega arith) in
    rw (e, double) (let same : ((n + 1) * 2) * 2 ^ length ds ≡ (n + 1) * (2 * 2 ^ length ds) = grind arith in omega (arith, rest, le, same))

first_digit : (m w v d n : ℕ) → m ≡ n * 2 + d → d < 2 → m * 2 ^ w ≤ v → v < (m + 1) * 2 ^ w → v / 2 ^ w % 2 ≡ d
first_digit m w v d n e small low high =
    let ge : m ≤ v / 2 ^ w = le-div m v (2 ^ w) (pow_pos w) low in
    let lt : v / 2 ^ w < m + 1 = div_below v (2 ^ w) (m + 1) (pow_pos w) high in
    let same : v / 2 ^ w ≡ n * 2 + d = omega arith in
    rw same (omega arith)

digits-number : (n : ℕ) (ds : List ℕ) → are_binary ds ≡ true → digits (length ds) (number_from_digits_after 2 n ds) ≡ ds
unfolding digits
digits-number n [] e = refl
digits-number n (d ∷ ds) h =
    let p = and_parts (nat_lt d 2) (are_binary ds) h in
    let m = n * 2 + d in
    let v = number_from_digits_after 2 m ds in
    rw (first_digit m (length ds) v d n refl (ltb-true d 2 p.0) (number_low m ds) (number_high m ds p.1)) (ap (λ (es : List ℕ). d ∷ es) (digits-number m ds p.1))

number_fits : (w : ℕ) (ds : List ℕ) → length ds ≡ w → are_binary ds ≡ true → number_from_digits_after 2 0 ds < 2 ^ w
number_fits w ds n e = subst (λ (k : ℕ). number_from_digits_after 2 0 ds < 2 ^ k) n (omega (arith, number_high 0 ds e))

spelled : (w : ℕ) (ds : List ℕ) → length ds ≡ w → are_binary ds ≡ true → digits w (number_from_digits_after 2 0 ds) ≡ ds
spelled w ds n e = subst (λ (k : ℕ). digits k (number_from_digits_after 2 0 ds) ≡ ds) n (digits-number 0 ds e)

-- an address that the digits behind the symbol spell
address_of : (ds : List ℕ) → is_address_part ds ≡ true → (a : Locator) × (address_number a < 2 ^ address_width a) × (address_path a ≡ ds)
address_of [] e = absurd cc
address_of (symbol ∷ ds) e =
    let p = and_parts (are_binary ds) ((symbol == 4 && length ds == 32) || (symbol == 6 && length ds == 128)) e in
    elim (or_cases (symbol == 4 && length ds == 32) (symbol == 6 && length ds == 128) p.1) [
      | inl four ↦
          let q = and_parts (symbol == 4) (length ds == 32) four in
          let n = eqb-true (length ds) 32 q.1 in
          (V4 (number_from_digits_after 2 0 ds), number_fits 32 ds n p.0, rw (eqb-true symbol 4 q.0) (ap (λ (es : List ℕ). 4 ∷ es) (spelled 32 ds n p.0)))
      | inr six ↦
          let q = and_parts (symbol == 6) (length ds == 128) six in
          let n = eqb-true (length ds) 128 q.1 in
          (V6 (number_from_digits_after 2 0 ds), number_fits 128 ds n p.0, rw (eqb-true symbol 6 q.0) (ap (λ (es : List ℕ). 6 ∷ es) (spelled 128 ds n p.0)))
    ]

some_left : (ds : List ℕ) → is_address_part ds ≡ true → 0 < length ds
some_left [] e = absurd cc
some_left (d ∷ ds) e = omega arith

pub identifier_of : (ds : List ℕ) → is_path ds ≡ true → (x : Xeid) × IsInRange x × (xeid_path x ≡ ds)
identifier_of ds e =
    let p = and_parts (are_binary (take 32 ds)) (is_address_part (drop 32 ds)) e in
    let a = address_of (drop 32 ds) p.1 in
    let n : length (take 32 ds) ≡ 32 = omega (arith, length-take 32 ds, length-drop 32 ds, some_left (drop 32 ds) p.1) in
    let iid = number_from_digits_after 2 0 (take 32 ds) in
    (record { iid = iid; address = a.0 }, (number_fits 32 (take 32 ds) n p.0, a.1), rw (spelled 32 (take 32 ds) n p.0, a.2) (take-append-drop 32 ds))

-- ---- the form whose path a list is

zeros_are_binary : (n : ℕ) → are_binary (replicate n 0) ≡ true
zeros_are_binary zero = refl
zeros_are_binary (suc n) = zeros_are_binary n

-- a number has these first digits, and only 0 behind them
record HasFront (w : ℕ) (ds : List ℕ) : Type 0 where
  number : ℕ
  fits : number < 2 ^ w
  front : take (length ds) (digits w number) ≡ ds
  tail : are_zero (drop (length ds) (digits w number)) ≡ true

number_of_front : (w : ℕ) (ds : List ℕ) → length ds ≤ w → are_binary ds ≡ true → HasFront w ds
number_of_front w ds le e =
    let zeros = replicate (w - length ds) 0 in
    let n : length (ds ++ zeros) ≡ w = length-append ds zeros ∙ rw (length-replicate {A = ℕ} (w - length ds) 0) (omega arith) in
    let b : are_binary (ds ++ zeros) ≡ true = list_all-append (λ d. nat_lt d 2) ds zeros ∙ and_from (are_binary ds) (are_binary zeros) e (zeros_are_binary (w - length ds)) in
    let same = spelled w (ds ++ zeros) n b in
    record {
      number = number_from_digits_after 2 0 (ds ++ zeros);
      fits = number_fits w (ds ++ zeros) n b;
      front = ap (take (length ds)) same ∙ take_at ds zeros (length ds) refl;
      tail = ap (λ (l : List ℕ). are_zero (drop (length ds) l)) same ∙ ap are_zero (drop_at ds zeros (length ds) refl) ∙ replicate-are_zero (w - length ds);
    }

abbrev HasForm : List ℕ → Type 0
HasForm ds = (f : Form) × IsForm f × (path f ≡ ds)

-- instance digits, and behind all 32 of them a family symbol with address digits
form_of_parts : (front rest : List ℕ) → length front ≤ 32 → (0 < length rest → length front ≡ 32) → are_binary front ≡ true → is_address_front rest ≡ true → HasForm (front ++ rest)
form_of_parts front [] le whole b e =
    let n = number_of_front 32 front le b in
    (Range n.number (length front), (n.fits, le, n.tail), n.front ∙ sym (append-nil front))
form_of_parts front (symbol ∷ ds) le whole b e =
    let p = and_parts (are_binary ds) ((symbol == 4 && nat_le (length ds) 32) || (symbol == 6 && nat_le (length ds) 128)) e in
    let full = whole (omega arith) in
    let iid = number_from_digits_after 2 0 front in
    let fits = number_fits 32 front full b in
    let instance_digits = spelled 32 front full b in
    elim (or_cases (symbol == 4 && nat_le (length ds) 32) (symbol == 6 && nat_le (length ds) 128) p.1) [
      | inl four ↦
          let q = and_parts (symbol == 4) (nat_le (length ds) 32) four in
          let short = leb-true (length ds) 32 q.1 in
          let a = number_of_front 32 ds short p.0 in
          (Block iid (V4 a.number) (length ds), (fits, a.fits, short, a.tail), rw (instance_digits, a.front, eqb-true symbol 4 q.0) refl)
      | inr six ↦
          let q = and_parts (symbol == 6) (nat_le (length ds) 128) six in
          let short = leb-true (length ds) 128 q.1 in
          let a = number_of_front 128 ds short p.0 in
          (Block iid (V6 a.number) (length ds), (fits, a.fits, short, a.tail), rw (instance_digits, a.front, eqb-true symbol 6 q.0) refl)
    ]

pub form_of_prefix : (ds : List ℕ) → is_prefix_path ds ≡ true → (f : Form) × IsForm f × (path f ≡ ds)
form_of_prefix ds e =
    let p = and_parts (are_binary (take 32 ds)) (is_address_front (drop 32 ds)) e in
    let n = length-take 32 ds in
    let m = length-drop 32 ds in
    let found = form_of_parts (take 32 ds) (drop 32 ds) (omega arith) (λ some. omega arith) p.0 p.1 in
    (found.0, found.1, found.2 ∙ take-append-drop 32 ds)

-- ---- what covers an identifier is a prefix

binary_front : (q x : List ℕ) → covers q x ≡ true → are_binary x ≡ true → are_binary q ≡ true
binary_front [] x c e = refl
binary_front (d ∷ q) [] c e = absurd (false≢true c)
binary_front (d ∷ q) (h ∷ x) c e =
    let s = and_parts (d == h) (covers q x) c in
    let b = and_parts (nat_lt h 2) (are_binary x) e in
    and_from (nat_lt d 2) (are_binary q) (ap (λ (n : ℕ). nat_lt n 2) (eqb-true d h s.0) ∙ b.0) (binary_front q x s.1 b.1)

fits_too : (symbol m n : ℕ) → m ≤ n → ((symbol == 4 && n == 32) || (symbol == 6 && n == 128)) ≡ true → ((symbol == 4 && nat_le m 32) || (symbol == 6 && nat_le m 128)) ≡ true
fits_too symbol m n le e = elim (or_cases (symbol == 4 && n == 32) (symbol == 6 && n == 128) e) [
  | inl four ↦
      let p = and_parts (symbol == 4) (n == 32) four in
      let is : n ≡ 32 = eqb-true n 32 p.1 in
      let small : m ≤ 32 = omega arith in
      or_left (symbol == 4 && nat_le m 32) (symbol == 6 && nat_le m 128) (and_from (symbol == 4) (nat_le m 32) p.0 (le-leb m 32 small))
  | inr six ↦
      let p = and_parts (symbol == 6) (n == 128) six in
      let is : n ≡ 128 = eqb-true n 128 p.1 in
      let small : m ≤ 128 = omega arith in
      or_right (symbol == 4 && nat_le m 32) (symbol == 6 && nat_le m 128) (and_from (symbol == 6) (nat_le m 128) p.0 (le-leb m 128 small))
]

address_too : (q x : List ℕ) → covers q x ≡ true → is_address_part x ≡ true → is_address_front q ≡ true
address_too [] x c e = refl
address_too (d ∷ q) [] c e = absurd (false≢true c)
address_too (d ∷ q) (h ∷ x) c e =
    let s = and_parts (d == h) (covers q x) c in
    let p = and_parts (are_binary x) ((h == 4 && length x == 32) || (h == 6 && length x == 128)) e in
    and_from (are_binary q) ((d == 4 && nat_le (length q) 32) || (d == 6 && nat_le (length q) 128))
    (binary_front q x s.1 p.0)
    (ap (λ (symbol : ℕ). (symbol == 4 && nat_le (length q) 32) || (symbol == 6 && nat_le (length q) 128)) (eqb-true d h s.0) ∙ fits_too h (length q) (length x) (length-covered q x s.1) p.1)

front_too : (n : ℕ) (q x : List ℕ) → covers q x ≡ true → are_binary (take n x) ≡ true → is_address_part (drop n x) ≡ true → (are_binary (take n q) ≡ true) × (is_address_front (drop n q) ≡ true)
front_too zero q x c e f = (refl, address_too q x c f)
front_too (suc n) [] x c e f = (refl, refl)
front_too (suc n) (d ∷ q) [] c e f = absurd (false≢true c)
front_too (suc n) (d ∷ q) (h ∷ x) c e f =
    let s = and_parts (d == h) (covers q x) c in
    let b = and_parts (nat_lt h 2) (are_binary (take n x)) e in
    let rest = front_too n q x s.1 b.1 f in
    (and_from (nat_lt d 2) (are_binary (take n q)) (ap (λ (m : ℕ). nat_lt m 2) (eqb-true d h s.0) ∙ b.0) rest.0, rest.1)

pub prefix_that_covers : (q x : List ℕ) → is_path x ≡ true → covers q x ≡ true → is_prefix_path q ≡ true
prefix_that_covers q x e c =
    let p = and_parts (are_binary (take 32 x)) (is_address_part (drop 32 x)) e in
    let both = front_too 32 q x c p.0 p.1 in
    and_from (are_binary (take 32 q)) (is_address_front (drop 32 q)) both.0 both.1
