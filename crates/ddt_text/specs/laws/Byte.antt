-- The bytes that texts are made of, and a text cut at a byte.
use Rattle.std.proofs.Common.{◌≡◌, ◌≢◌, ℕ, ◌^◌, ◌<◌, ◌≤◌, true, false, List, [], ◌∷◌, ◌++◌, length, decimal, refl, sym, ap, ◌∙◌, arith, inl, inr, eq-eqb, ne_eqb, one-add, append-nil, take-append-drop}
use Rattle.std.specs.Prelude.{◌==◌}
use Rattle.std.specs.List.{position_or_len, list_any}
use Rattle.std.specs.Char.{digit_value}
use Rattle.std.specs.Str.Parse.{AllDigits}
use Rattle.std.proofs.lemmas.Bool.{cases_eq, or_parts}
use Rattle.std.proofs.lemmas.List.{take_at, drop_at, take_all, drop_all}
use Rattle.std.proofs.lemmas.List.Folds.{list_any-append}
use Rattle.std.proofs.lemmas.Bool.Decides.{nat_tests}
use Rattle.std.proofs.lemmas.Fmt.{decimal_is_IsNumeral}
use Rattle.std.proofs.lemmas.Str.Parse.{digit_from_value}
use Rattle.ddt_path.specs.Steps.{IsBytes}
use Rattle.ddt_path.specs.laws.Byte.{IsBytes-cons, IsBytes-nil}
use Rattle.ddt_text.specs.FirstFault.{before, onward}

-- ASCII from `low` on, without `/` and `]`
abbrev pub IsPlain : ℕ → ℕ → Type 0
IsPlain low b = (low ≤ b) × (b < 128) × (b ≢ 47) × (b ≢ 93)

abbrev pub ArePlain : ℕ → List ℕ → Type 0
ArePlain low [] = Unit {0}
ArePlain low (b ∷ bs) = IsPlain low b × ArePlain low bs

pub plain-append : (low : ℕ) (xs ys : List ℕ) → ArePlain low xs → ArePlain low ys → ArePlain low (xs ++ ys)
plain-append low [] ys h k = k
plain-append low (x ∷ xs) ys h k = (h.0, plain-append low xs ys h.1 k)

pub plain-lower : (low high : ℕ) (xs : List ℕ) → low ≤ high → ArePlain high xs → ArePlain low xs
plain-lower low high [] le h = tt
plain-lower low high (x ∷ xs) le h = ((omega (arith, h.0.0), h.0.1, h.0.2, h.0.3), plain-lower low high xs le h.1)

hex_digit : (c : ℕ) → digit_value c < 16 → IsPlain 48 c
hex_digit c h = (grind (arith, nat_tests), grind (arith, nat_tests), grind (arith, nat_tests), grind (arith, nat_tests))

pub plain-hex : (ds : List ℕ) → AllDigits 16 ds → ArePlain 48 ds
plain-hex [] h = tt
plain-hex (d ∷ ds) h = (hex_digit d h.0, plain-hex ds h.1)

plain-digits : (ds : List ℕ) → AllDigits 10 ds → ArePlain 48 ds
plain-digits [] h = tt
plain-digits (d ∷ ds) h =
    let k = digit_from_value d h.0 in
    ((omega arith, omega arith, omega arith, omega arith), plain-digits ds h.1)

pub plain-decimal : (n : ℕ) → n < 2 ^ 64 → ArePlain 48 (decimal n)
plain-decimal n h = plain-digits (decimal n) (decimal_is_IsNumeral n h).0.1

pub plain_bytes : (low : ℕ) (xs : List ℕ) → ArePlain low xs → IsBytes xs
plain_bytes low [] h = IsBytes-nil
plain_bytes low (x ∷ xs) h = IsBytes-cons x xs (omega (arith, h.0.1)) (plain_bytes low xs h.1)

pub decimal_bytes : (n : ℕ) → n < 2 ^ 64 → IsBytes (decimal n)
decimal_bytes n h = plain_bytes 48 (decimal n) (plain-decimal n h)

-- a byte that stands nowhere
abbrev pub Lacks : ℕ → List ℕ → Type 0
Lacks byte xs = list_any (λ b. b == byte) xs ≡ false

pub lacks_low : (byte low : ℕ) (xs : List ℕ) → byte < low → ArePlain low xs → Lacks byte xs
lacks_low byte low [] lt h = refl
lacks_low byte low (x ∷ xs) lt h = rw (ne_eqb x byte (omega (arith, h.0.0))) (lacks_low byte low xs lt h.1)

pub lacks_slash : (low : ℕ) (xs : List ℕ) → ArePlain low xs → Lacks 47 xs
lacks_slash low [] h = refl
lacks_slash low (x ∷ xs) h = rw (ne_eqb x 47 h.0.2) (lacks_slash low xs h.1)

pub lacks_bracket : (low : ℕ) (xs : List ℕ) → ArePlain low xs → Lacks 93 xs
lacks_bracket low [] h = refl
lacks_bracket low (x ∷ xs) h = rw (ne_eqb x 93 h.0.3) (lacks_bracket low xs h.1)

pub has_byte : (byte : ℕ) (xs ys : List ℕ) → list_any (λ b. b == byte) (xs ++ byte ∷ ys) ≡ true
has_byte byte [] ys = rw (eq-eqb byte byte refl)
has_byte byte (x ∷ xs) ys = grind (arith, has_byte byte xs ys)

-- a text cut at a byte
pub cut_parts : (byte : ℕ) (text : List ℕ) → before byte text ++ onward byte text ≡ text
cut_parts byte text = take-append-drop (position_or_len (λ b. b == byte) text) text

place_at : (byte : ℕ) (xs ys : List ℕ) → Lacks byte xs → position_or_len (λ b. b == byte) (xs ++ byte ∷ ys) ≡ length xs
place_at byte [] ys h = rw (eq-eqb byte byte refl)
place_at byte (x ∷ xs) ys h = let p = or_parts (x == byte) (list_any (λ b. b == byte) xs) h in rw (p.0, place_at byte xs ys p.1) (one-add (length xs))

pub before_at : (byte : ℕ) (xs ys : List ℕ) → Lacks byte xs → before byte (xs ++ byte ∷ ys) ≡ xs
before_at byte xs ys h = take_at xs (byte ∷ ys) _ (sym (place_at byte xs ys h))

pub onward_at : (byte : ℕ) (xs ys : List ℕ) → Lacks byte xs → onward byte (xs ++ byte ∷ ys) ≡ byte ∷ ys
onward_at byte xs ys h = drop_at xs (byte ∷ ys) _ (sym (place_at byte xs ys h))

place_none : (byte : ℕ) (xs : List ℕ) → Lacks byte xs → length xs ≤ position_or_len (λ b. b == byte) xs
place_none byte [] h = omega arith
place_none byte (x ∷ xs) h = let p = or_parts (x == byte) (list_any (λ b. b == byte) xs) h in let rest = place_none byte xs p.1 in rw p.0 (omega arith)

pub before_none : (byte : ℕ) (xs : List ℕ) → Lacks byte xs → before byte xs ≡ xs
before_none byte xs h = take_all _ xs (place_none byte xs h)

pub onward_none : (byte : ℕ) (xs : List ℕ) → Lacks byte xs → onward byte xs ≡ []
onward_none byte xs h = drop_all _ xs (place_none byte xs h)

pub onward_first : (byte : ℕ) (text : List ℕ) (b : ℕ) (rest : List ℕ) → onward byte text ≡ b ∷ rest → b ≡ byte
onward_first byte [] b rest e = cc
onward_first byte (x ∷ xs) b rest e =
    elim (cases_eq x byte) [
      | inl same ↦ let k = rw (eq-eqb x byte same) at e in cc
      | inr other ↦ onward_first byte xs b rest (rw (ne_eqb x byte other, one-add) at e)
    ]

-- a text with that byte, at its first place
pub cut_at : (byte : ℕ) (text : List ℕ) (b : ℕ) (rest : List ℕ) → onward byte text ≡ b ∷ rest → text ≡ before byte text ++ byte ∷ rest
cut_at byte text b rest e =
    sym (cut_parts byte text) ∙ ap (λ t. before byte text ++ t) (e ∙ ap (λ c. c ∷ rest) (onward_first byte text b rest e))

-- a text without it
pub cut_none : (byte : ℕ) (text : List ℕ) → onward byte text ≡ [] → text ≡ before byte text
cut_none byte text e = sym (cut_parts byte text) ∙ ap (λ t. before byte text ++ t) e ∙ append-nil (before byte text)

pub lacks_right : (byte : ℕ) (xs ys : List ℕ) → Lacks byte (xs ++ ys) → Lacks byte ys
lacks_right byte xs ys h = (or_parts (list_any (λ b. b == byte) xs) (list_any (λ b. b == byte) ys) (sym (list_any-append (λ b. b == byte) xs ys) ∙ h)).1

pub lacks-append : (byte : ℕ) (xs ys : List ℕ) → Lacks byte xs → Lacks byte ys → Lacks byte (xs ++ ys)
lacks-append byte xs ys h k = rw (list_any-append (λ b. b == byte) xs ys, h) k
