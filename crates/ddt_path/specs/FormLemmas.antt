-- A form can be read off the path that it names.
use Rattle.std.proofs.Common.{◌≡◌, ℕ, ◌+◌, ◌-◌, ◌*◌, ◌%◌, ◌^◌, ◌<◌, ◌≤◌, true, List, [], ◌∷◌, ◌++◌, length, take, drop, refl, sym, ap, ◌∙◌, arith}
use Rattle.std.specs.Prelude.{replicate, ◌==◌, nat_le}
use Rattle.std.proofs.lemmas.Bool.{and_parts, eqb-true, le-leb, lt-leb, cond-true, cond-false}
use Rattle.std.proofs.Math.Nat.{mod-eq_of_lt}
use Rattle.std.proofs.lemmas.List.{take-append-drop, length-append, length-take, length-drop, take_all, drop_all, take_at, drop_at}
use Rattle.ddt_path.specs.declared.locator.Locator.TheVariants.{V4, V6}
use Rattle.ddt_path.specs.declared.form.Form.{Form}
use Rattle.ddt_path.specs.declared.form.Form.TheVariants.{Range, Block}
use Rattle.ddt_path.specs.Path.{digits, are_zero, path, IsForm}
use Rattle.ddt_path.specs.FormOf.{padded_number, block_of, form_of}
use Rattle.ddt_path.specs.DigitLemmas.{length-digits, number_after-digits}

pub are_zero-replicate : (ds : List ℕ) → are_zero ds ≡ true → ds ≡ replicate (length ds) 0
are_zero-replicate [] e = refl
are_zero-replicate (d ∷ ds) e =
    let p = and_parts (d == 0) (are_zero ds) e in
    rw (eqb-true d 0 p.0) (ap (λ (es : List ℕ). 0 ∷ es) (are_zero-replicate ds p.1))

pub mod_small : (x w : ℕ) → x < 2 ^ w → 0 * 2 ^ w + x % 2 ^ w ≡ x
mod_small x w h = let e : x % 2 ^ w ≡ x = mod-eq_of_lt h in omega arith

pub take_len : (w len x : ℕ) → len ≤ w → length (take len (digits w x)) ≡ len
take_len w len x le = length-take len (digits w x) ∙ rw (length-digits w x) (omega arith)

-- a number whose digits past the first len are 0 is read off these
pub padded_number-digits : (w len x : ℕ) → x < 2 ^ w → len ≤ w → are_zero (drop len (digits w x)) ≡ true
    → padded_number w (take len (digits w x)) ≡ x
padded_number-digits w len x small le zeros =
    let m : length (drop len (digits w x)) ≡ w - len = length-drop len (digits w x) ∙ rw (length-digits w x) refl in
    let tail : replicate (w - len) 0 ≡ drop len (digits w x) =
    ap (λ (k : ℕ). replicate k 0) (sym m) ∙ sym (are_zero-replicate (drop len (digits w x)) zeros) in
    rw (take_len w len x le, tail, take-append-drop len (digits w x)) (number_after-digits w 0 x ∙ mod_small x w small)

pub whole : (w x : ℕ) → take w (digits w x) ≡ digits w x
whole w x = take_all w (digits w x) (omega (arith, length-digits w x))

pub none_left : (w x : ℕ) → drop w (digits w x) ≡ []
none_left w x = drop_all w (digits w x) (omega (arith, length-digits w x))

padded_number-whole : (w x : ℕ) → x < 2 ^ w → padded_number w (digits w x) ≡ x
padded_number-whole w x small = ap (padded_number w) (sym (whole w x)) ∙ padded_number-digits w w x small (omega arith)
    (ap are_zero (none_left w x))

form_of-front : (ds : List ℕ) → length ds ≤ 32 → form_of ds ≡ Range (padded_number 32 ds) (length ds)
form_of-front ds le = cond-true (nat_le (length ds) 32) _ _ (le-leb (length ds) 32 le)

form_of-long : (ds es : List ℕ) → length ds ≡ 32 → 0 < length es → form_of (ds ++ es) ≡ block_of (padded_number 32 ds)
    es
form_of-long ds es n some =
    cond-false (nat_le (length (ds ++ es)) 32) _ _ (lt-leb (length (ds ++ es)) 32 (omega (arith, length-append ds es)))
    ∙ ap (λ (f : List ℕ). block_of (padded_number 32 f) (drop 32 (ds ++ es))) (take_at ds es 32 n)
    ∙ ap (block_of (padded_number 32 ds)) (drop_at ds es 32 n)

pub form_of-path : (form : Form) → IsForm form → form_of (path form) ≡ form
form_of-path (Range iid len) h =
    form_of-front (take len (digits 32 iid)) (omega (arith, take_len 32 len iid h.1))
    ∙ ap (λ (k : ℕ). Range k (length (take len (digits 32 iid)))) (padded_number-digits 32 len iid h.0 h.1 h.2)
    ∙ ap (Range iid) (take_len 32 len iid h.1)
form_of-path (Block iid (V4 a) len) h =
    form_of-long (digits 32 iid) (4 ∷ take len (digits 32 a)) (length-digits 32 iid) (omega arith)
    ∙ ap (λ (k : ℕ). Block k (V4 (padded_number 32 (take len (digits 32 a)))) (length (take len (digits 32 a))))
    (padded_number-whole 32 iid h.0)
    ∙ ap (λ (k : ℕ). Block iid (V4 k) (length (take len (digits 32 a)))) (padded_number-digits 32 len a h.1 h.2 h.3)
    ∙ ap (Block iid (V4 a)) (take_len 32 len a h.2)
form_of-path (Block iid (V6 a) len) h =
    form_of-long (digits 32 iid) (6 ∷ take len (digits 128 a)) (length-digits 32 iid) (omega arith)
    ∙ ap (λ (k : ℕ). Block k (V6 (padded_number 128 (take len (digits 128 a)))) (length (take len (digits 128 a))))
    (padded_number-whole 32 iid h.0)
    ∙ ap (λ (k : ℕ). Block iid (V6 k) (length (take len (digits 128 a)))) (padded_number-digits 128 len a h.1 h.2 h.3)
    ∙ ap (Block iid (V6 a)) (take_len 128 len a h.2)
