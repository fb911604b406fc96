-- What is escaped is a text and nothing else, and the same text.
use Rattle.std.proofs.Common.{◌≡◌, ℕ, Bool, true, false, List, [], ◌∷◌, ◌++◌, refl, sym, ap, ◌∙◌, subst, eqb-true}
use Rattle.std.specs.Prelude.{◌==◌}
use Rattle.std.specs.List.{list_all}
use Rattle.ddt_report.specs.Html.{escaped, escaped_byte}
use Rattle.ddt_report.specs.Markup.{has_whole_references, is_inert, shown}

-- What holds of the five bytes and of every other one holds of all.
by_byte : (P : ℕ → Type 0) → P 34 → P 38 → P 39 → P 60 → P 62
    → ((b : ℕ) → (b == 34) ≡ false → (b == 38) ≡ false → (b == 39) ≡ false → (b == 60) ≡ false → (b == 62) ≡ false → P b)
    → (b : ℕ) → P b
by_byte P quote amp apostrophe less more others b = at34 (b == 34) refl
  where
    same : (k : ℕ) → (b == k) ≡ true → P k → P b
    same k e p = subst P (sym (eqb-true b k e)) p

    at62 : (t : Bool) → (b == 62) ≡ t → (b == 34) ≡ false → (b == 38) ≡ false → (b == 39) ≡ false → (b == 60) ≡ false → P b
    at62 true e n34 n38 n39 n60 = same 62 e more
    at62 false e n34 n38 n39 n60 = others b n34 n38 n39 n60 e

    at60 : (t : Bool) → (b == 60) ≡ t → (b == 34) ≡ false → (b == 38) ≡ false → (b == 39) ≡ false → P b
    at60 true e n34 n38 n39 = same 60 e less
    at60 false e n34 n38 n39 = at62 (b == 62) refl n34 n38 n39 e

    at39 : (t : Bool) → (b == 39) ≡ t → (b == 34) ≡ false → (b == 38) ≡ false → P b
    at39 true e n34 n38 = same 39 e apostrophe
    at39 false e n34 n38 = at60 (b == 60) refl n34 n38 e

    at38 : (t : Bool) → (b == 38) ≡ t → (b == 34) ≡ false → P b
    at38 true e n34 = same 38 e amp
    at38 false e n34 = at39 (b == 39) refl n34 e

    at34 : (t : Bool) → (b == 34) ≡ t → P b
    at34 true e = same 34 e quote
    at34 false e = at38 (b == 38) refl e

shown_byte : (rest : List ℕ) (b : ℕ) → shown (escaped_byte b ++ rest) ≡ b ∷ shown rest
shown_byte rest = by_byte (λ b. shown (escaped_byte b ++ rest) ≡ b ∷ shown rest) refl refl refl refl refl
    λ b n34 n38 n39 n60 n62. rw (n34, n38, n39, n60, n62, n38) refl

-- a browser shows the text that was escaped
pub shown-escaped : (text : List ℕ) → shown (escaped text) ≡ text
shown-escaped [] = refl
shown-escaped (b ∷ bs) = shown_byte (escaped bs) b ∙ ap (λ x. b ∷ x) (shown-escaped bs)

inert_byte : (rest : List ℕ) (b : ℕ) → list_all is_inert (escaped_byte b ++ rest) ≡ list_all is_inert rest
inert_byte rest = by_byte (λ b. list_all is_inert (escaped_byte b ++ rest) ≡ list_all is_inert rest)
    refl refl refl refl refl λ b n34 n38 n39 n60 n62. rw (n34, n38, n39, n60, n62, n34, n39, n60, n62) refl

pub inert-escaped : (text : List ℕ) → list_all is_inert (escaped text) ≡ true
inert-escaped [] = refl
inert-escaped (b ∷ bs) = inert_byte (escaped bs) b ∙ inert-escaped bs

whole_byte : (rest : List ℕ) (b : ℕ) → has_whole_references (escaped_byte b ++ rest) ≡ has_whole_references rest
whole_byte rest = by_byte (λ b. has_whole_references (escaped_byte b ++ rest) ≡ has_whole_references rest)
    refl refl refl refl refl λ b n34 n38 n39 n60 n62. rw (n34, n38, n39, n60, n62, n38) refl

pub whole-escaped : (text : List ℕ) → has_whole_references (escaped text) ≡ true
whole-escaped [] = refl
whole-escaped (b ∷ bs) = whole_byte (escaped bs) b ∙ whole-escaped bs
