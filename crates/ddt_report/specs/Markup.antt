-- How a browser reads a text: what begins markup in it, and what its character references stand for.
use Rattle.std.specs.Prelude.{ℕ, zero, suc, Bool, true, ◌&&◌, ◌||◌, not, ◌==◌, List, [], ◌∷◌, get_or, if◌then◌else◌, codes}
use Rattle.std.specs.List.{starts_with}

-- a byte that neither begins nor ends an element or the value of an attribute: not `"`, `'`, `<` or `>`
abbrev pub is_inert : ℕ → Bool
is_inert b = not (b == 34) && (not (b == 39) && (not (b == 60) && not (b == 62)))

-- what comes after an `&` makes it a reference to a character
abbrev pub is_reference : List ℕ → Bool
is_reference rest =
    starts_with ◌==◌ rest (codes "quot;") || (starts_with ◌==◌ rest (codes "amp;")
    || (starts_with ◌==◌ rest (codes "#39;") || (starts_with ◌==◌ rest (codes "lt;")
    || starts_with ◌==◌ rest (codes "gt;"))))

-- each `&` begins such a reference
abbrev pub has_whole_references : List ℕ → Bool
has_whole_references [] = true
has_whole_references (b ∷ bs) = (not (b == 38) || is_reference bs) && has_whole_references bs

-- The character of a reference, by the byte after its `&`: `q`, `a`, `#`, `l` and else `g`.
abbrev pub character : ℕ → ℕ
character b = if b == 113 then 34 else if b == 97 then 38 else if b == 35 then 39 else if b == 108 then 60 else 62

-- how many bytes of it come after the `&`
abbrev pub width : ℕ → ℕ
width b = if b == 113 then 5 else if b == 97 then 4 else if b == 35 then 4 else 3

-- the text that a browser shows of these bytes, after so many are passed over
abbrev pub shown_after : ℕ → List ℕ → List ℕ
shown_after n [] = []
shown_after zero (b ∷ bs) =
    if b == 38 then character (get_or bs 0 0) ∷ shown_after (width (get_or bs 0 0)) bs else b ∷ shown_after zero bs
shown_after (suc n) (b ∷ bs) = shown_after n bs

-- the text that a browser shows
abbrev pub shown : List ℕ → List ℕ
shown html = shown_after 0 html
