-- Digits read from the left, each time with the number so far.
use Rattle.std.proofs.Common.{◌≡◌, ℕ, ◌+◌, ◌*◌, ◌<◌, ◌≤◌, Bool, true, false, List, length, take, get_or, Option, Some, None, refl, sym, ap, ◌∙◌, arith, le-leb}
use Rattle.std.specs.Prelude.{◌&&◌, nat_le, if◌then◌else◌}
use Rattle.std.specs.Char.{is_ascii_digit, digit_value}
use Rattle.std.specs.List.{list_all}
use Rattle.std.specs.Str.Parse.{digits_value}
use Rattle.std.proofs.lemmas.Bool.{both_ways, and_parts, and_from, false_from_ne_true, true_from_ne_false, leb-true}
use Rattle.std.proofs.lemmas.Int.Digits.{digits_value_more}
use Rattle.std.proofs.lemmas.List.{take_all}
use Rattle.std.proofs.lemmas.List.Folds.{list_all_more, list_all_at}
use Rattle.std.proofs.lemmas.Option.{none-some}
use Rattle.std.proofs.lemmas.Str.Parse.{digits_value-take-le}
use Rattle.std.proofs.NetLemmas.Options.{cond_some}

-- the digits up to a place, and their number, which isn't above the most
pub record AreDigitsTo (text : List ℕ) (most i number : ℕ) : Type 0 where
  pub digits : list_all is_ascii_digit (take i text) ≡ true
  pub value : number ≡ digits_value 10 (take i text)
  pub fits : number ≤ most

no_some : {A : Type 0} (b : Bool) (x : A) → None ≡ (if b then Some x else None) → b ≡ false
no_some true x e = absurd (none-some x e)
no_some false x e = refl

module _ (text : List ℕ) (most i number : ℕ) where
  abbrev digit : ℕ
  digit = get_or text i 0

  abbrev larger : ℕ
  larger = number * 10 + digit_value digit

  larger_is : i < length text → number ≡ digits_value 10 (take i text) → larger ≡ digits_value 10 (take (i + 1) text)
  larger_is lt value =
      ap (λ (n : ℕ). n * 10 + digit_value digit) value ∙ sym (digits_value_more 10 text i lt)

  pub one_digit_more : (next : ℕ) → i < length text → AreDigitsTo text most i number
      → Some next ≡ (if is_ascii_digit digit && nat_le larger most then Some larger else None)
      → AreDigitsTo text most (i + 1) next
  one_digit_more next lt so_far e =
      let p = cond_some (is_ascii_digit digit && nat_le larger most) larger next (sym e) in
      let q = and_parts (is_ascii_digit digit) (nat_le larger most) p.0 in
      let same : larger ≡ next = p.1 in
      let low : larger ≤ most = leb-true larger most q.1 in
      record {
        digits = list_all_more is_ascii_digit text i 0 lt
            ∙ and_from (list_all is_ascii_digit (take i text)) (is_ascii_digit digit) so_far.digits q.0;
        value = sym same ∙ larger_is lt so_far.value;
        fits = omega arith;
      }

  pub no_digit_more : i < length text → AreDigitsTo text most i number
      → None ≡ (if is_ascii_digit digit && nat_le larger most then Some larger else None)
      → (list_all is_ascii_digit text && nat_le (digits_value 10 text) most) ≡ false
  no_digit_more lt so_far e =
      false_from_ne_true (list_all is_ascii_digit text && nat_le (digits_value 10 text) most) (λ f.
      let p = and_parts (list_all is_ascii_digit text) (nat_le (digits_value 10 text) most) f in
      let own : is_ascii_digit digit ≡ true = true_from_ne_false (is_ascii_digit digit) (λ other.
      both_ways (list_all is_ascii_digit text) (list_all_at is_ascii_digit text i 0 lt other) p.0) in
      let whole : digits_value 10 text ≤ most = leb-true (digits_value 10 text) most p.1 in
      let front : digits_value 10 (take (i + 1) text) ≤ digits_value 10 text =
      digits_value-take-le 10 text (i + 1) (omega arith) in
      let same = larger_is lt so_far.value in
      let low : larger ≤ most = omega arith in
      both_ways (is_ascii_digit digit && nat_le larger most)
      (no_some (is_ascii_digit digit && nat_le larger most) larger e)
      (and_from (is_ascii_digit digit) (nat_le larger most) own (le-leb larger most low)))

  pub all_digits : length text ≤ i → AreDigitsTo text most i number
      → Some number ≡ (if list_all is_ascii_digit text && nat_le (digits_value 10 text) most
      then Some (digits_value 10 text) else None)
  all_digits past so_far =
      let whole : take i text ≡ text = take_all i text past in
      let digits : list_all is_ascii_digit text ≡ true =
      ap (list_all is_ascii_digit) (sym whole) ∙ so_far.digits in
      let value : number ≡ digits_value 10 text = so_far.value ∙ ap (digits_value 10) whole in
      let fits : number ≤ most = so_far.fits in
      let low : nat_le (digits_value 10 text) most ≡ true = le-leb (digits_value 10 text) most (omega arith) in
      rw (digits, low) (ap (λ (n : ℕ). Some n) value)
