-- The halves of a prefix: their digits, and where each longer path goes.
use Rattle.std.proofs.Common.{◌≡◌, ◌⊎◌, ℕ, zero, suc, ◌+◌, ◌-◌, ◌*◌, ◌/◌, ◌%◌, ◌^◌, ◌<◌, ◌≤◌, Bool, true, false, cond, List, [], ◌∷◌, ◌++◌, length, take, drop, refl, sym, ap, subst, ◌∙◌, arith, inl, inr}
use Rattle.std.specs.Prelude.{◌==◌, ◌&&◌, ◌||◌, nat_lt, nat_le, ◌≢◌}
use Rattle.std.proofs.lemmas.Bool.{and_parts, and_from, or_cases, or_left, or_right, false≢true, eqb-true, eq-eqb, ne_eqb, ltb-true, leb-true, le-leb, cases_lt}
use Rattle.std.proofs.lemmas.List.{length-append, append_assoc, length-drop}
use Rattle.std.proofs.lemmas.Nat.{shl-shr, pow-add, pow_pos, div_below, mul-le}
use Rattle.std.proofs.Math.Nat.{div-mul-le_self, mod-eq_of_lt}
use Rattle.std.proofs.Math.Pow.{pow-lt}
use Rattle.ddt_path.specs.declared.locator.Locator.{Locator}
use Rattle.ddt_path.specs.declared.xeid.Xeid.{Xeid}
use Rattle.ddt_path.specs.declared.form.Form.{Form}
use Rattle.ddt_path.specs.declared.form.Form.TheVariants.{Range, Block}
use Rattle.ddt_path.specs.Path.{digits, are_zero, are_binary, is_address_front, is_prefix_path, path, xeid_path, IsForm, family, address_width, address_digits, address_number}
use Rattle.ddt_path.specs.DigitLemmas.{length-digits, digits-add, take-digits, digits-cleared}
use Rattle.ddt_path.specs.FormLemmas.{whole}
use Rattle.ddt_path.specs.Covers.{covers}
use Rattle.ddt_path.specs.laws.Cover.{covers-append, length-covered}
use Rattle.ddt_path.specs.laws.End.{overlaps_whole}
use Rattle.ddt_path.specs.laws.Member.{iff_same}
use Rattle.ddt_path.specs.laws.PathTest.{is_path-xeid_path}
use Rattle.ddt_path.specs.laws.Prefix.{front_of-self, digits-injective, take-xeid_path-short, take-xeid_path-long, length-range, length-block}
use Rattle.ddt_plan.specs.Blocks.{bit, family_bit, next_digit, half}

-- ---- the digits of a number with one more digit

module _ (w at x : ℕ) (lt : at < w) (small : x < 2 ^ w) (zeros : are_zero (drop at (digits w x)) ≡ true) where
  k : ℕ
  k = w - (at + 1)

  m : ℕ
  m = x / 2 ^ (w - at)

  is_high : x ≡ m * 2 ^ (w - at)
  unfolding m
  is_high =
      let le : at ≤ w = omega arith in
      let below : x / 2 ^ (w - at) * 2 ^ (w - at) ≤ x = div-mul-le_self x (2 ^ (w - at)) in
      digits-injective w x (x / 2 ^ (w - at) * 2 ^ (w - at)) small (omega arith) (front_of-self w at (digits w x) (length-digits w x) zeros ∙ sym (digits-cleared w at x le))

  doubled : 2 ^ (w - at) ≡ 2 ^ k * 2
  unfolding k
  doubled = let e : w - at ≡ (w - (at + 1)) + 1 = omega arith in ap (λ (n : ℕ). 2 ^ n) e ∙ pow-add 2 (w - (at + 1)) 1

  sum_is : (d : ℕ) → x + d * 2 ^ k ≡ (m * 2 + d) * 2 ^ k
  sum_is d =
      let e : x ≡ m * (2 ^ k * 2) = is_high ∙ ap (λ (n : ℕ). m * n) doubled in
      ap (λ (n : ℕ). n + d * 2 ^ k) e ∙ grind arith

  pub next_digits : (d : ℕ) → d < 2 → take (at + 1) (digits w (x + d * 2 ^ (w - (at + 1)))) ≡ take at (digits w x) ++ d ∷ []
  unfolding k m digits
  next_digits d bit =
      let le : at ≤ w = omega arith in
      let more : at + 1 ≤ w = omega arith in
      let high : (x + d * 2 ^ (w - (at + 1))) / 2 ^ (w - (at + 1)) ≡ m * 2 + d = ap (λ (n : ℕ). n / 2 ^ k) (sum_is d) ∙ shl-shr (m * 2 + d) k in
      let front : (m * 2 + d) / 2 ^ 1 ≡ m = omega arith in
      let last : (m * 2 + d) / 2 ^ 0 % 2 ≡ d = omega arith in
      take-digits w (at + 1) (x + d * 2 ^ (w - (at + 1))) more
      ∙ ap (digits (at + 1)) high
      ∙ digits-add at 1 (m * 2 + d)
      ∙ ap (λ (n : ℕ). digits at n ++ digits 1 (m * 2 + d)) front
      ∙ ap (λ (n : ℕ). digits at m ++ n ∷ []) last
      ∙ ap (λ (ds : List ℕ). ds ++ d ∷ []) (sym (take-digits w at x le))

  pub next_fits : (d : ℕ) → d < 2 → x + d * 2 ^ (w - (at + 1)) < 2 ^ w
  unfolding k m
  next_fits d bit =
      let split : 2 ^ w ≡ 2 ^ at * 2 ^ (w - at) = let e : w ≡ at + (w - at) = omega arith in ap (λ (n : ℕ). 2 ^ n) e ∙ pow-add 2 at (w - at) in
      let low : m < 2 ^ at = div_below x (2 ^ (w - at)) (2 ^ at) (pow_pos (w - at)) (subst (λ (n : ℕ). x < n) split small) in
      let wide : (m * 2 + d + 1) * 2 ^ k ≤ (2 ^ at * 2) * 2 ^ k = mul-le (m * 2 + d + 1) (2 ^ k) (2 ^ at * 2) (2 ^ k) (omega arith) (omega arith) in
      let one_more : (m * 2 + d + 1) * 2 ^ k ≡ (m * 2 + d) * 2 ^ k + 2 ^ k = grind arith in
      let all : (2 ^ at * 2) * 2 ^ k ≡ 2 ^ w = sym (split ∙ ap (λ (n : ℕ). 2 ^ at * n) doubled ∙ grind arith) in
      let pos : 0 < 2 ^ k = pow_pos k in
      let is = sum_is d in
      omega (arith, is, wide, one_more, all, pos)

  -- as the code computes it
  shifted : 1 * 2 ^ (w - (at + 1)) % 2 ^ w ≡ 1 * 2 ^ (w - (at + 1))
  shifted = let below : 1 * 2 ^ (w - (at + 1)) < 2 ^ w = let p : 2 ^ (w - (at + 1)) < 2 ^ w = pow-lt (let n : w - (at + 1) < w = omega arith in n) in omega arith in mod-eq_of_lt below

  pub upper_digits : (j : ℕ) → j ≡ w - (at + 1) → take (at + 1) (digits w (x + 1 * 2 ^ j % 2 ^ w)) ≡ take at (digits w x) ++ 1 ∷ []
  upper_digits j e =
      ap (λ (n : ℕ). take (at + 1) (digits w (x + 1 * 2 ^ n % 2 ^ w))) e
      ∙ ap (λ (n : ℕ). take (at + 1) (digits w (x + n))) shifted ∙ next_digits 1 (omega arith)

  pub upper_fits : (j : ℕ) → j ≡ w - (at + 1) → x + 1 * 2 ^ j % 2 ^ w < 2 ^ w
  upper_fits j e = subst (λ (n : ℕ). x + 1 * 2 ^ n % 2 ^ w < 2 ^ w) (sym e) (let f = next_fits 1 (omega arith) in omega (arith, shifted, f))

  pub lower_digits : take (at + 1) (digits w x) ≡ take at (digits w x) ++ 0 ∷ []
  lower_digits = ap (λ (n : ℕ). take (at + 1) (digits w n)) (let e : x ≡ x + 0 * 2 ^ (w - (at + 1)) = omega arith in e) ∙ next_digits 0 (omega arith)

-- ---- the half of a form's path

next_inside : (q : List ℕ) (n : ℕ) (upper : Bool) → length q ≢ n → next_digit n upper q ≡ bit upper
next_inside q n upper apart = ap (λ (b : Bool). cond b (family_bit upper) (bit upper)) (ne_eqb (length q) n apart)

next_family : (q : List ℕ) (n : ℕ) (upper : Bool) → length q ≡ n → next_digit n upper q ≡ family_bit upper
next_family q n upper same = ap (λ (b : Bool). cond b (family_bit upper) (bit upper)) (eq-eqb (length q) n same)

abbrev IsInHalf : Bool → List ℕ → Xeid → Type 0
IsInHalf upper q x = take (length q + 1) (xeid_path x) ≡ half upper q

range_half : (iid len n : ℕ) (a : Locator) (upper : Bool) → len < 32 → take (len + 1) (digits 32 n) ≡ take len (digits 32 iid) ++ bit upper ∷ []
    → IsInHalf upper (path (Range iid len)) (record { iid = n; address = a })
range_half iid len n a upper lt e =
    let q = path (Range iid len) in
    let x : Xeid = record { iid = n; address = a } in
    let long : length q ≡ len = length-range iid len (omega arith) in
    let apart : length q ≢ 32 = λ f. omega arith in
    ap (λ (m : ℕ). take (m + 1) (xeid_path x)) long
    ∙ take-xeid_path-short x (len + 1) (omega arith)
    ∙ e
    ∙ ap (λ (d : ℕ). q ++ d ∷ []) (sym (next_inside q 32 upper apart))

family_half : (iid len : ℕ) (a : Locator) (upper : Bool) → len ≡ 32 → family a ≡ family_bit upper
    → IsInHalf upper (path (Range iid len)) (record { iid = iid; address = a })
family_half iid len a upper full f =
    let q = path (Range iid len) in
    let x : Xeid = record { iid = iid; address = a } in
    let long : length q ≡ 32 = length-range iid len (omega arith) ∙ full in
    let all : q ≡ digits 32 iid = ap (λ (n : ℕ). take n (digits 32 iid)) full ∙ whole 32 iid in
    ap (λ (m : ℕ). take (m + 1) (xeid_path x)) long
    ∙ take-xeid_path-long x 33 (omega arith)
    ∙ ap (λ (d : ℕ). digits 32 iid ++ d ∷ []) (f ∙ sym (next_family q 32 upper long))
    ∙ ap (λ (ds : List ℕ). ds ++ next_digit 32 upper q ∷ []) (sym all)

block_half : (iid : ℕ) (a b : Locator) (len : ℕ) (upper : Bool) → len ≤ address_width a → family b ≡ family a
    → take (len + 1) (address_digits b) ≡ take len (address_digits a) ++ bit upper ∷ []
    → IsInHalf upper (path (Block iid a len)) (record { iid = iid; address = b })
block_half iid a b len upper le f e =
    let q = path (Block iid a len) in
    let x : Xeid = record { iid = iid; address = b } in
    let long : length q ≡ 33 + len = length-block iid a len le in
    let apart : length q ≢ 32 = λ g. omega arith in
    let past : length q + 1 ≡ 34 + len = omega arith in
    let left : 34 + len - 33 ≡ len + 1 = omega arith in
    ap (λ (m : ℕ). take m (xeid_path x)) past
    ∙ take-xeid_path-long x (34 + len) (omega arith)
    ∙ ap (λ (m : ℕ). digits 32 iid ++ (family b ∷ take m (address_digits b))) left
    ∙ ap (λ (ds : List ℕ). digits 32 iid ++ (family b ∷ ds)) e
    ∙ ap (λ (s : ℕ). digits 32 iid ++ (s ∷ (take len (address_digits a) ++ bit upper ∷ []))) f
    ∙ sym (append_assoc (digits 32 iid) (family a ∷ take len (address_digits a)) (bit upper ∷ []))
    ∙ ap (λ (d : ℕ). q ++ d ∷ []) (sym (next_inside q 32 upper apart))

module _ (form : Form) (q : List ℕ) (view : path form ≡ q) (kept : IsForm form) (upper : Bool) where
  pub in_range_half : (iid len n : ℕ) (a : Locator) → form ≡ Range iid len → len < 32 → take (len + 1) (digits 32 n) ≡ take len (digits 32 iid) ++ bit upper ∷ [] → IsInHalf upper q (record { iid = n; address = a })
  in_range_half iid len n a is lt e = subst (λ (p : List ℕ). IsInHalf upper p (record { iid = n; address = a })) (ap path (sym is) ∙ view) (range_half iid len n a upper lt e)

  pub in_family_half : (iid len : ℕ) (a : Locator) → form ≡ Range iid len → 32 ≤ len → family a ≡ family_bit upper → IsInHalf upper q (record { iid = iid; address = a })
  in_family_half iid len a is ge f =
      let h : IsForm (Range iid len) = subst IsForm is kept in
      let full : len ≡ 32 = omega (arith, h.1) in
      subst (λ (p : List ℕ). IsInHalf upper p (record { iid = iid; address = a })) (ap path (sym is) ∙ view) (family_half iid len a upper full f)

  pub in_block_half : (iid : ℕ) (a b : Locator) (len : ℕ) → form ≡ Block iid a len → family b ≡ family a → take (len + 1) (address_digits b) ≡ take len (address_digits a) ++ bit upper ∷ []
      → IsInHalf upper q (record { iid = iid; address = b })
  in_block_half iid a b len is f e =
      let h : IsForm (Block iid a len) = subst IsForm is kept in
      subst (λ (p : List ℕ). IsInHalf upper p (record { iid = iid; address = b })) (ap path (sym is) ∙ view) (block_half iid a b len upper h.2 f e)

  -- a block that goes on isn't a whole identifier
  pub block_goes_on : (iid : ℕ) (a : Locator) (len : ℕ) → form ≡ Block iid a len → is_prefix_path (half upper q) ≡ true → len < address_width a
  block_goes_on iid a len is goes =
      let h : IsForm (Block iid a len) = subst IsForm is kept in
      elim (cases_lt len (address_width a)) [
        | inl lt ↦ lt
        | inr ge ↦
            let x : Xeid = record { iid = iid; address = a } in
            let full : len ≡ address_width a = omega (arith, h.2) in
            let same : q ≡ xeid_path x = sym (ap path (sym is) ∙ view) ∙ ap (λ (n : ℕ). digits 32 iid ++ (family a ∷ take n (address_digits a))) full
            ∙ ap (λ (ds : List ℕ). digits 32 iid ++ (family a ∷ ds)) (whole (address_width a) (address_number a)) in
            let over : covers (xeid_path x) (half upper q) ≡ true = ap (λ (p : List ℕ). covers p (half upper q)) (sym same) ∙ covers-append q (next_digit 32 upper q ∷ []) in
            let back : covers (half upper q) (xeid_path x) ≡ true = sym (overlaps_whole (xeid_path x) (half upper q) (is_path-xeid_path x) goes)
            ∙ or_right (covers (half upper q) (xeid_path x)) (covers (xeid_path x) (half upper q)) over in
            let short : length (half upper q) ≤ length (xeid_path x) = length-covered (half upper q) (xeid_path x) back in
            let long : length (half upper q) ≡ length q + 1 = length-append q (next_digit 32 upper q ∷ []) in
            absurd (omega (arith, ap (λ (p : List ℕ). length p) same))
      ]

-- the digit behind nothing
next_first : (n : ℕ) (upper : Bool) → next_digit (suc n) upper [] ≡ bit upper
next_first n upper = ap (λ (b : Bool). cond b (family_bit upper) (bit upper)) (ne_eqb 0 (suc n) (λ (g : 0 ≡ suc n). omega arith))

-- ---- where a longer path goes

binary_next : (q k : List ℕ) → are_binary k ≡ true → covers q k ≡ true → length q < length k
    → ((upper : Bool) → are_binary (q ++ bit upper ∷ []) ≡ true) × ((covers (q ++ 0 ∷ []) k ≡ true) ⊎ (covers (q ++ 1 ∷ []) k ≡ true))
binary_next [] [] b c lt = absurd (omega arith)
binary_next [] (e ∷ k) b c lt =
    let low : e < 2 = ltb-true e 2 (and_parts (nat_lt e 2) (are_binary k) b).0 in (
      λ upper. elim upper as (λ u. are_binary (bit u ∷ []) ≡ true) [ true ↦ refl | false ↦ refl ],
      elim (cases_lt 0 e) [
        | inl pos ↦ let one : 1 ≡ e = omega arith in inr (and_from (1 == e) true (eq-eqb 1 e one) refl)
        | inr none ↦ let none : 0 ≡ e = omega arith in inl (and_from (0 == e) true (eq-eqb 0 e none) refl)
      ],
    )
binary_next (d ∷ q) [] b c lt = absurd (false≢true c)
binary_next (d ∷ q) (e ∷ k) b c lt =
    let s = and_parts (nat_lt e 2) (are_binary k) b in
    let t = and_parts (d == e) (covers q k) c in
    let rest = binary_next q k s.1 t.1 (omega arith) in (
      λ upper. and_from (nat_lt d 2) (are_binary (q ++ bit upper ∷ [])) (ap (λ (n : ℕ). nat_lt n 2) (eqb-true d e t.0) ∙ s.0) (rest.0 upper),
      elim rest.1 [
        | inl low ↦ inl (and_from (d == e) (covers (q ++ 0 ∷ []) k) t.0 low)
        | inr high ↦ inr (and_from (d == e) (covers (q ++ 1 ∷ []) k) t.0 high)
      ],
    )

abbrev is_front : ℕ → List ℕ → Bool
is_front n ds = are_binary (take n ds) && is_address_front (drop n ds)

abbrev half_at : ℕ → Bool → List ℕ → List ℕ
half_at n upper q = q ++ next_digit n upper q ∷ []

abbrev GoesOn : ℕ → List ℕ → List ℕ → Type 0
GoesOn n q k = ((upper : Bool) → is_front n (half_at n upper q) ≡ true) × ((covers (half_at n false q) k ≡ true) ⊎ (covers (half_at n true q) k ≡ true))

same_next : (m n : ℕ) → (suc m == suc n) ≡ (m == n)
same_next m n = iff_same (suc m == suc n) (m == n)
    (λ e. let s : suc m ≡ suc n = eqb-true (suc m) (suc n) e in eq-eqb m n (omega arith))
    (λ e. let s : m ≡ n = eqb-true m n e in eq-eqb (suc m) (suc n) (omega arith))

next_behind : (n : ℕ) (upper : Bool) (d : ℕ) (q : List ℕ) → next_digit (suc n) upper (d ∷ q) ≡ next_digit n upper q
next_behind n upper d q = ap (λ (b : Bool). cond b (family_bit upper) (bit upper)) (same_next (length q) n)

empty_front : (n : ℕ) → is_front n [] ≡ true
empty_front zero = refl
empty_front (suc n) = refl

length_room : (ds es : List ℕ) (most : ℕ) → length ds < length es → nat_le (length es) most ≡ true → (e : ℕ) → nat_le (length (ds ++ e ∷ [])) most ≡ true
length_room ds es most lt le e = let n : length es ≤ most = leb-true (length es) most le in le-leb (length (ds ++ e ∷ [])) most (omega (arith, length-append ds (e ∷ [])))

address_next : (d : ℕ) (q k : List ℕ) → is_address_front (d ∷ k) ≡ true → covers q k ≡ true → length q < length k
    → ((upper : Bool) → is_address_front (d ∷ (q ++ bit upper ∷ [])) ≡ true) × ((covers (q ++ 0 ∷ []) k ≡ true) ⊎ (covers (q ++ 1 ∷ []) k ≡ true))
address_next d q k f c lt =
    let s = and_parts (are_binary k) ((d == 4 && nat_le (length k) 32) || (d == 6 && nat_le (length k) 128)) f in
    let next = binary_next q k s.0 c lt in (
      λ upper. and_from (are_binary (q ++ bit upper ∷ [])) ((d == 4 && nat_le (length (q ++ bit upper ∷ [])) 32) || (d == 6 && nat_le (length (q ++ bit upper ∷ [])) 128)) (next.0 upper)
          (elim (or_cases (d == 4 && nat_le (length k) 32) (d == 6 && nat_le (length k) 128) s.1) [
            | inl four ↦ let p = and_parts (d == 4) (nat_le (length k) 32) four in
                or_left _ (d == 6 && nat_le (length (q ++ bit upper ∷ [])) 128) (and_from (d == 4) (nat_le (length (q ++ bit upper ∷ [])) 32) p.0 (length_room q k 32 lt p.1 (bit upper)))
            | inr six ↦ let p = and_parts (d == 6) (nat_le (length k) 128) six in
                or_right (d == 4 && nat_le (length (q ++ bit upper ∷ [])) 32) _ (and_from (d == 6) (nat_le (length (q ++ bit upper ∷ [])) 128) p.0 (length_room q k 128 lt p.1 (bit upper)))
          ]),
      next.1,
    )

family_of : (e : ℕ) (k : List ℕ) → is_address_front (e ∷ k) ≡ true → (e ≡ 4) ⊎ (e ≡ 6)
family_of e k f = elim (or_cases (e == 4 && nat_le (length k) 32) (e == 6 && nat_le (length k) 128) (and_parts (are_binary k) _ f).1) [
  | inl four ↦ inl (eqb-true e 4 (and_parts (e == 4) _ four).0)
  | inr six ↦ inr (eqb-true e 6 (and_parts (e == 6) _ six).0)
]

goes_on_at : (n : ℕ) (q k : List ℕ) → is_front n k ≡ true → covers q k ≡ true → length q < length k → GoesOn n q k
goes_on_at zero [] [] f c lt = absurd (omega arith)
goes_on_at zero [] (e ∷ k) f c lt = (
  λ upper. elim upper as (λ u. is_front 0 (half_at 0 u []) ≡ true) [ true ↦ refl | false ↦ refl ],
  elim (family_of e k f) [
    | inl four ↦ inl (and_from (4 == e) true (eq-eqb 4 e (sym four)) refl)
    | inr six ↦ inr (and_from (6 == e) true (eq-eqb 6 e (sym six)) refl)
  ],
)
goes_on_at zero (d ∷ q) [] f c lt = absurd (false≢true c)
goes_on_at zero (d ∷ q) (e ∷ k) f c lt =
    let t = and_parts (d == e) (covers q k) c in
    let same = eqb-true d e t.0 in
    let apart : length (d ∷ q) ≢ 0 = λ g. omega arith in
    let next = address_next d q k (ap (λ (s : ℕ). is_address_front (s ∷ k)) same ∙ f) t.1 (omega arith) in (
      λ upper. ap (λ (s : ℕ). is_address_front (d ∷ (q ++ s ∷ []))) (next_inside (d ∷ q) 0 upper apart) ∙ next.0 upper,
      elim next.1 [
        | inl low ↦ inl (and_from (d == e) (covers (q ++ next_digit 0 false (d ∷ q) ∷ []) k) t.0 (ap (λ (s : ℕ). covers (q ++ s ∷ []) k) (next_inside (d ∷ q) 0 false apart) ∙ low))
        | inr high ↦ inr (and_from (d == e) (covers (q ++ next_digit 0 true (d ∷ q) ∷ []) k) t.0 (ap (λ (s : ℕ). covers (q ++ s ∷ []) k) (next_inside (d ∷ q) 0 true apart) ∙ high))
      ],
    )
goes_on_at (suc n) [] [] f c lt = absurd (omega arith)
goes_on_at (suc n) [] (e ∷ k) f c lt =
    let s = and_parts (nat_lt e 2 && are_binary (take n k)) (is_address_front (drop n k)) f in
    let low : e < 2 = ltb-true e 2 (and_parts (nat_lt e 2) (are_binary (take n k)) s.0).0 in (
      λ upper. ap (λ (b : ℕ). is_front (suc n) (b ∷ [])) (next_first n upper)
          ∙ elim upper as (λ u. is_front (suc n) (bit u ∷ []) ≡ true) [ true ↦ empty_front n | false ↦ empty_front n ],
      elim (cases_lt 0 e) [
        | inl pos ↦ let one : 1 ≡ e = omega arith in inr (ap (λ (b : ℕ). covers (b ∷ []) (e ∷ k)) (next_first n true) ∙ and_from (1 == e) true (eq-eqb 1 e one) refl)
        | inr none ↦ let none : 0 ≡ e = omega arith in inl (ap (λ (b : ℕ). covers (b ∷ []) (e ∷ k)) (next_first n false) ∙ and_from (0 == e) true (eq-eqb 0 e none) refl)
      ],
    )
goes_on_at (suc n) (d ∷ q) [] f c lt = absurd (false≢true c)
goes_on_at (suc n) (d ∷ q) (e ∷ k) f c lt =
    let t = and_parts (d == e) (covers q k) c in
    let s = and_parts (nat_lt e 2 && are_binary (take n k)) (is_address_front (drop n k)) f in
    let b = and_parts (nat_lt e 2) (are_binary (take n k)) s.0 in
    let next = goes_on_at n q k (and_from (are_binary (take n k)) (is_address_front (drop n k)) b.1 s.1) t.1 (omega arith) in
    let digit : nat_lt d 2 ≡ true = ap (λ (m : ℕ). nat_lt m 2) (eqb-true d e t.0) ∙ b.0 in (
      λ upper.
          let h = and_parts (are_binary (take n (half_at n upper q))) (is_address_front (drop n (half_at n upper q))) (next.0 upper) in
          ap (λ (m : ℕ). is_front (suc n) (d ∷ (q ++ m ∷ []))) (next_behind n upper d q)
          ∙ and_from (nat_lt d 2 && are_binary (take n (half_at n upper q))) (is_address_front (drop n (half_at n upper q))) (and_from (nat_lt d 2) (are_binary (take n (half_at n upper q))) digit h.0) h.1,
      elim next.1 [
        | inl low ↦ inl (ap (λ (m : ℕ). covers (d ∷ (q ++ m ∷ [])) (e ∷ k)) (next_behind n false d q) ∙ and_from (d == e) (covers (half_at n false q) k) t.0 low)
        | inr high ↦ inr (ap (λ (m : ℕ). covers (d ∷ (q ++ m ∷ [])) (e ∷ k)) (next_behind n true d q) ∙ and_from (d == e) (covers (half_at n true q) k) t.0 high)
      ],
    )

-- a path that goes on behind q goes on in one of its halves, and both halves are prefixes
pub goes_on : (q k : List ℕ) → is_prefix_path k ≡ true → covers q k ≡ true → length q < length k
    → ((upper : Bool) → is_prefix_path (half upper q) ≡ true) × ((covers (half false q) k ≡ true) ⊎ (covers (half true q) k ≡ true))
goes_on q k f c lt = goes_on_at 32 q k f c lt

-- no prefix has more than 161 digits
address_most : (ds : List ℕ) → is_address_front ds ≡ true → length ds ≤ 129
address_most [] f = omega arith
address_most (d ∷ ds) f = elim (or_cases (d == 4 && nat_le (length ds) 32) (d == 6 && nat_le (length ds) 128) (and_parts (are_binary ds) _ f).1) [
  | inl four ↦ let n : length ds ≤ 32 = leb-true (length ds) 32 (and_parts (d == 4) _ four).1 in omega arith
  | inr six ↦ let n : length ds ≤ 128 = leb-true (length ds) 128 (and_parts (d == 6) _ six).1 in omega arith
]

pub length_most : (k : List ℕ) → is_prefix_path k ≡ true → length k ≤ 161
length_most k f =
    let m = address_most (drop 32 k) (and_parts (are_binary (take 32 k)) _ f).1 in
    omega (arith, length-drop 32 k, m)

pub length-half : (upper : Bool) (q : List ℕ) → length (half upper q) ≡ length q + 1
length-half upper q = length-append q (next_digit 32 upper q ∷ [])
