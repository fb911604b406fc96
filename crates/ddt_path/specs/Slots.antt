-- A short list that is kept in a fixed number of slots, with a filler behind it.
use Rattle.std.specs.Prelude.{ℕ, ◌-◌, ◌≤◌, ◌≡◌, List, ◌++◌, length, take, replicate}
use Rattle.std.proofs.Common.{arith, ap, ◌∙◌, sym, refl}
use Rattle.std.proofs.lemmas.List.{length-take, length-append, length-replicate, take_at}

-- the list, and behind it fillers up to so many slots
abbrev pub filled : {A : Type 0} → ℕ → A → List A → List A
filled slots filler items = items ++ replicate (slots - length items) filler

-- slots that hold a list of this length and fillers behind it
abbrev pub IsFilled : {A : Type 0} → ℕ → A → List A → ℕ → Type 0
IsFilled slots filler items len = (len ≤ slots) × (length items ≡ slots)
    × (items ≡ take len items ++ replicate (slots - len) filler)

pub length-filled_items : {A : Type 0} (slots : ℕ) (filler : A) (items : List A) (len : ℕ) → IsFilled slots filler items
    len → length (take len items) ≡ len
length-filled_items slots filler items len h = length-take len items ∙ omega (arith, h.0, h.1)

-- the slots can be read off the list in them
pub filled-take : {A : Type 0} (slots : ℕ) (filler : A) (items : List A) (len : ℕ) → IsFilled slots filler items len
    → filled slots filler (take len items) ≡ items
filled-take slots filler items len h = rw (length-filled_items slots filler items len h) (sym h.2)

-- a list and fillers fill the slots
pub IsFilled-filled : {A : Type 0} (slots : ℕ) (filler : A) (items : List A) → length items ≤ slots
    → IsFilled slots filler (items ++ replicate (slots - length items) filler) (length items)
IsFilled-filled slots filler items le =
    let fillers = replicate (slots - length items) filler in (
      le,
      length-append items fillers ∙ rw (length-replicate (slots - length items) filler) (omega arith),
      ap (λ (l : _).
          l ++ fillers) (sym (take_at items fillers (length items) refl)),
    )
