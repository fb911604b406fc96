-- A number is read where `decimal` writes it, and nowhere else.
use Rattle.std.proofs.Common.{◌≡◌, ◌≢◌, ℕ, ◌^◌, ◌<◌, ◌≤◌, true, List, [], ◌∷◌, length, get_or, decimal, Some, None, Result, Ok, Err, Bor, MatchResult, refl, sym, ap, ◌∙◌, subst, arith, inl, inr, eq-eqb, ne_eqb, eqb-true, le-leb}
use Rattle.std.specs.Prelude.{◌==◌, ◌||◌, not, nat_le}
use Rattle.std.specs.Char.{is_ascii_digit}
use Rattle.std.specs.List.{list_all}
use Rattle.std.specs.Str.{IsUtf8}
use Rattle.std.specs.Result.{result_ok, OkIff}
use Rattle.std.proofs.lemmas.Option.{none-some, same_Some}
use Rattle.std.specs.Str.Parse.{IsNumeral, digits_value, without_leading_plus}
use Rattle.std.proofs.lemmas.Str.{IsUtf8-from_ascii}
use Rattle.std.proofs.lemmas.Bool.{cases_eq, cases_lt, and_parts, leb-true, lt-leb}
use Rattle.std.proofs.lemmas.Fmt.{decimal_is_IsNumeral, decimal_digit, first_decimal, decimal-digits_value, IsAscii-from_digits}
use Rattle.std.proofs.lemmas.Str.Parse.{IsDigitsTest, IsNumeralModel, numerals_by_value, without_leading_plus_none, digit_from_value}
use Rattle.std.proofs.NetLemmas.Options.{cond_some}
use Rattle.ddt_text.specs.FirstFault.{is_number, number_in}

tells_by_test : IsDigitsTest (λ ds. list_all is_ascii_digit ds ≡ true)
tells_by_test = record {
  empty = refl;
  parts = λ c cs e. let p = and_parts (is_ascii_digit c) (list_all is_ascii_digit cs) e in let q = and_parts (nat_le 48 c) (nat_le c 57) p.0 in ((leb-true 48 c q.0, leb-true c 57 q.1), p.1);
  more = λ c cs k e. rw (le-leb 48 c k.0, le-leb c 57 k.1) e;
}

own : IsNumeralModel (λ ds. list_all is_ascii_digit ds ≡ true) (digits_value 10)
own = numerals_by_value (λ ds. list_all is_ascii_digit ds ≡ true) tells_by_test

-- what the test says
pub is_number-sound : (text : List ℕ) → is_number text ≡ true → (list_all is_ascii_digit text ≡ true) × (0 < length text) × (get_or text 0 0 ≡ 48 → length text ≡ 1)
is_number-sound [] e = cc
is_number-sound (d ∷ ds) e =
    let p = and_parts (list_all is_ascii_digit (d ∷ ds)) (not (d == 48) || length ds == 0) e in
    (p.0, omega arith, λ zero_first. let k = rw (eq-eqb d 48 zero_first) at p.1 in omega (arith, eqb-true (length ds) 0 k))

pub is_number-made : (text : List ℕ) → list_all is_ascii_digit text ≡ true → 0 < length text → (get_or text 0 0 ≡ 48 → length text ≡ 1) → is_number text ≡ true
is_number-made [] digits some alone = absurd (omega arith)
is_number-made (d ∷ ds) digits some alone =
    elim (cases_eq d 48) [
      | inl same ↦ rw (digits, eq-eqb d 48 same, eq-eqb (length ds) 0 (omega (arith, alone same)))
      | inr other ↦ rw (digits, ne_eqb d 48 other)
    ]

pub number_in-sound : (most : ℕ) (text : List ℕ) (n : ℕ) → most < 2 ^ 64 → number_in most text ≡ Some n → (n ≤ most) × (text ≡ decimal n)
number_in-sound most text n small e =
    let (test, value) = cond_some _ _ _ e in
    let p = and_parts (is_number text) (nat_le (digits_value 10 text) most) test in
    let (digits, some, alone) = is_number-sound text p.0 in
    let fits = leb-true (digits_value 10 text) most p.1 in
    (omega arith, sym (decimal-digits_value own text digits some alone (omega arith)) ∙ ap decimal value)

alone_zero : (n : ℕ) → n < 2 ^ 64 → get_or (decimal n) 0 0 ≡ 48 → length (decimal n) ≡ 1
alone_zero n small e =
    elim (cases_eq n 0) [
      | inl same ↦ ap (λ m. length (decimal m)) same ∙ ap length (decimal_digit 0 (omega arith))
      | inr other ↦ absurd (omega (arith, first_decimal n (omega arith) small))
    ]

pub number_in-complete : (most n : ℕ) → most < 2 ^ 64 → n ≤ most → number_in most (decimal n) ≡ Some n
number_in-complete most n small le =
    let fits : n < 2 ^ 64 = omega arith in
    let (numeral, value) = decimal_is_IsNumeral n fits in
    let test = is_number-made (decimal n) (own.from (decimal n) numeral.1) numeral.0 (alone_zero n fits) in
    rw (test, value, le-leb n most le)
