-- Rows that pass a test, as a loop puts them behind others, with numbers of their own.
use Rattle.std.proofs.Common.{◌≡◌, ℕ, ◌+◌, ◌<◌, Bool, true, false, List, [], ◌∷◌, ◌++◌, length, get_or, map, take, sym, ap, ◌∙◌}
use Rattle.std.specs.List.{filter}
use Rattle.std.proofs.lemmas.List.{append_assoc, map-append}
use Rattle.ddt_path.specs.laws.Filter.{one_kept, one_left_out}

module _ {A : Type 0} (text : A → A) (passes : A → Bool) (items : List A) (i : ℕ) (x : A) (lt : i < length items)
    (is : x ≡ get_or items i x) (rows all : List A)
    (before : map text all ≡ map text rows ++ map text (filter passes (take i items))) where
  pub row_kept : (y : A) → text y ≡ text x → passes x ≡ true
      → map text (all ++ y ∷ []) ≡ map text rows ++ map text (filter passes (take (i + 1) items))
  row_kept y same e =
      let kept = filter passes (take i items) in
      map-append text all (y ∷ [])
      ∙ ap (λ (l : List A). l ++ text y ∷ []) before
      ∙ append_assoc (map text rows) (map text kept) (text y ∷ [])
      ∙ ap (λ (l : List A). map text rows ++ l)
      (ap (λ (t : A). map text kept ++ t ∷ []) same
      ∙ sym (map-append text kept (x ∷ []))
      ∙ ap (map text) (one_kept passes items i x lt is e))

  pub row_left_out : passes x ≡ false
      → map text all ≡ map text rows ++ map text (filter passes (take (i + 1) items))
  row_left_out e = before ∙ ap (λ (l : List A). map text rows ++ map text l) (one_left_out passes items i x lt is e)
