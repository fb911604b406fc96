-- A list that was copied to the front of slots that held fillers alone.
use Rattle.std.proofs.Common.{◌≡◌, ℕ, ◌-◌, ◌≤◌, List, ◌++◌, length, take, drop, refl, subst}
use Rattle.std.specs.Prelude.{replicate}
use Rattle.std.proofs.lemmas.List.{drop-replicate, take_at}
use Rattle.ddt_path.specs.Slots.{IsFilled, IsFilled-filled}

copied : {A : Type 0} (slots : ℕ) (filler : A) (items new : List A) → new ≡ items → items ++ replicate (slots - length items) filler ≡ new ++ drop (length items) (replicate slots filler)
copied slots filler items new e = rw (e, drop-replicate (length items) slots filler) refl

pub IsFilled-copied : {A : Type 0} (slots : ℕ) (filler : A) (items new : List A) → new ≡ items → length items ≤ slots → IsFilled slots filler (new ++ drop (length items) (replicate slots filler)) (length items)
IsFilled-copied slots filler items new e le = subst (λ (l : _). IsFilled slots filler l (length items)) (copied slots filler items new e) (IsFilled-filled slots filler items le)

pub take-copied : {A : Type 0} (slots : ℕ) (filler : A) (items new : List A) → new ≡ items → take (length items) (new ++ drop (length items) (replicate slots filler)) ≡ items
take-copied slots filler items new e = rw e (take_at items (drop (length items) (replicate slots filler)) (length items) refl)
