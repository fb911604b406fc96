-- Rising rows, one item after the other.
use Rattle.std.proofs.Common.{◌≡◌, ℕ, ◌+◌, ◌<◌, ◌≤◌, Bool, true, false, List, [], ◌∷◌, length, get_or, drop, map, find, Some, cond, refl, sym, ap, subst, ◌∙◌, arith}
use Rattle.std.specs.Prelude.{◌==◌, ◌&&◌, not, ◌≢◌}
use Rattle.std.proofs.lemmas.Bool.{lt-ltb, le-leb, or_parts, ne_eqb, eq-eqb, eqb-false}
use Rattle.std.proofs.lemmas.List.{drop_more}
use Rattle.std.specs.Option.{option_map}
use Rattle.ddt_register.specs.Rows.{rise, has_row, are_apart, first_row}
use Rattle.ddt_register.specs.laws.Rising.{rise_parts}

pub rise-more : (last row : ℕ) (rows : List ℕ) → last < row → row ≤ 65535 → rise last (row ∷ rows) ≡ rise row rows
rise-more last row rows lt le = rw (lt-ltb last row lt, le-leb row 65535 le) refl

-- a row that is below all others isn't among them
pub low_row : (low last : ℕ) (rows : List ℕ) → low ≤ last → rise last rows ≡ true → has_row rows low ≡ false
low_row low last [] le e = refl
low_row low last (row ∷ rows) le e =
    let p = rise_parts last row rows e in
    let lt : last < row = p.0 in
    let apart : row ≢ low = omega arith in
    rw (ne_eqb row low apart) (low_row low row rows (omega arith) p.1)

pub rise-tail : (last row : ℕ) (rows : List ℕ) → rise last (row ∷ rows) ≡ true → rise row rows ≡ true
rise-tail last row rows e = (rise_parts last row rows e).1

-- ---- two rising lists, by their first rows

pub are_apart-first : (row : ℕ) (rows others : List ℕ) → has_row others row ≡ false → are_apart (row ∷ rows) others ≡ are_apart rows others
are_apart-first row rows others e = rw e refl

pub are_apart-skip : (other : ℕ) (rows others : List ℕ) → has_row rows other ≡ false → are_apart rows (other ∷ others) ≡ are_apart rows others
are_apart-skip other [] others e = refl
are_apart-skip other (row ∷ rows) others e =
    let p = or_parts (row == other) (has_row rows other) e in
    rw (ne_eqb other row (λ same. eqb-false row other p.0 (sym same))) (ap (λ (b : Bool). not (has_row others row) && b) (are_apart-skip other rows others p.1))

pub are_apart-same : (row : ℕ) (rows others : List ℕ) → are_apart (row ∷ rows) (row ∷ others) ≡ false
are_apart-same row rows others = rw (eq-eqb row row refl) refl

pub are_apart-nil : (rows : List ℕ) → are_apart rows [] ≡ true
are_apart-nil [] = refl
are_apart-nil (row ∷ rows) = are_apart-nil rows

-- the first of what is left of a list of items
pub first_left : {A : Type 0} (f : A → ℕ) (xs : List A) (i : ℕ) (x : A) (n : ℕ) → i < length xs → x ≡ get_or xs i x → n ≡ f x → map f (drop i xs) ≡ n ∷ map f (drop (i + 1) xs)
first_left f xs i x n lt at e =
    ap (map f) (drop_more xs i x lt) ∙ ap (λ (m : ℕ). m ∷ map f (drop (i + 1) xs)) (ap f (sym at) ∙ sym e)

abbrev pub Rises : List ℕ → Type 0
Rises rows = (last : ℕ) × (rise last rows ≡ true)

Rises-tail : (row : ℕ) (rows : List ℕ) → Rises (row ∷ rows) → Rises rows
Rises-tail row rows h = (row, rise-tail h.0 row rows h.1)

pub Rises-left : (all rest : List ℕ) (row : ℕ) → all ≡ row ∷ rest → Rises all → Rises rest
Rises-left all rest row e h = Rises-tail row rest (subst Rises e h)

below_second : (a b : ℕ) (others : List ℕ) → a < b → Rises (b ∷ others) → has_row (b ∷ others) a ≡ false
below_second a b others lt h =
    let apart : b ≢ a = omega arith in
    rw (ne_eqb b a apart) (low_row a b others (omega arith) (rise-tail h.0 b others h.1))

pub are_apart-lower : (all others : List ℕ) (a b : ℕ) (rest left : List ℕ) → all ≡ a ∷ rest → others ≡ b ∷ left → a < b → Rises others → are_apart all others ≡ are_apart rest others
are_apart-lower all others a b rest left e f lt h =
    ap (λ (r : List ℕ). are_apart r others) e ∙ are_apart-first a rest others (ap (λ (r : List ℕ). has_row r a) f ∙ below_second a b left lt (subst Rises f h))

pub are_apart-higher : (all others : List ℕ) (a b : ℕ) (rest left : List ℕ) → all ≡ a ∷ rest → others ≡ b ∷ left → b < a → Rises all → are_apart all others ≡ are_apart all left
are_apart-higher all others a b rest left e f lt h =
    ap (are_apart all) f ∙ are_apart-skip b all left (ap (λ (r : List ℕ). has_row r b) e ∙ below_second b a rest lt (subst Rises e h))

pub are_apart-equal : (all others : List ℕ) (a b : ℕ) (rest left : List ℕ) → all ≡ a ∷ rest → others ≡ b ∷ left → a ≡ b → false ≡ are_apart all others
are_apart-equal all others a b rest left e f same =
    sym (ap (λ (r : List ℕ). are_apart r others) e ∙ ap (are_apart (a ∷ rest)) f ∙ ap (λ (n : ℕ). are_apart (n ∷ rest) (b ∷ left)) same ∙ are_apart-same b rest left)

-- ---- the row of the first item that passes a test

module _ {A : Type 0} (row : A → ℕ) (test : A → Bool) (items : List A) (i : ℕ) (a : A) (lt : i < length items) (at : a ≡ get_or items i a) where
  next_item : first_row row test (drop i items) ≡ option_map row (cond (test a) (Some a) (find test (drop (i + 1) items)))
  next_item = ap (first_row row test) (drop_more items i a lt) ∙ ap (λ (b : A). option_map row (cond (test b) (Some b) (find test (drop (i + 1) items)))) (sym at)

  pub first_row-here : test a ≡ true → first_row row test (drop i items) ≡ Some (row a)
  first_row-here e = next_item ∙ rw e refl

  pub first_row-later : test a ≡ false → first_row row test (drop (i + 1) items) ≡ first_row row test (drop i items)
  first_row-later e = sym (next_item ∙ rw e refl)
