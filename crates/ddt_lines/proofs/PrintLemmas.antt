-- A text that is written part by part.
use Rattle.std.proofs.Common.{◌≡◌, ℕ, ◌+◌, ◌-◌, ◌≤◌, length, List, [], ◌++◌, take, drop, Option, Some, None, ap, sym, ◌∙◌, append_assoc, subst, arith}
use Rattle.std.proofs.Math.Seq.{take-add}
use Rattle.std.proofs.lemmas.List.{append-nil, take_all, length-drop}
use Rattle.std.specs.Io.KnownBytes.{Appends, Keeps}

-- nothing is written at first
pub none_yet : (old : Option (List ℕ)) → Appends old old []
none_yet None = tt
none_yet (Some xs) = sym (append-nil xs)

-- a refused write leaves what was there
pub still : (old mid new : Option (List ℕ)) (bs : List ℕ) → Appends old mid bs → Keeps mid new → Appends old new bs
still None mid new bs a k = tt
still (Some xs) None new bs a k = absurd a
still (Some xs) (Some ys) None bs a k = absurd k
still (Some xs) (Some ys) (Some zs) bs a k = k ∙ a

-- so many bytes more of the text
pub part_more : (old mid new : Option (List ℕ)) (text : List ℕ) (i n : ℕ) → Appends old mid (take i text) → Appends mid new (take n (drop i text)) → Appends old new (take (i + n) text)
part_more None mid new text i n a b = tt
part_more (Some xs) None new text i n a b = absurd a
part_more (Some xs) (Some ys) None text i n a b = absurd b
part_more (Some xs) (Some ys) (Some zs) text i n a b =
    b ∙ ap (λ (l : List ℕ). l ++ take n (drop i text)) a ∙ append_assoc xs (take i text) (take n (drop i text)) ∙ ap (λ (l : List ℕ). xs ++ l) (sym (take-add i n text))

-- what is left of the text, as a slice of it
left : (text : List ℕ) (i : ℕ) → take (length text - i) (drop i text) ≡ drop i text
left text i = take_all _ _ (omega (arith, length-drop i text))

pub within_more : (text : List ℕ) (i n : ℕ) → i ≤ length text → n ≤ length (take (length text - i) (drop i text)) → i + n ≤ length text
within_more text i n h b =
    let c : n ≤ length (drop i text) = subst (λ (l : List ℕ). n ≤ length l) (left text i) b in
    omega (arith, length-drop i text)

pub slice_more : (old mid new : Option (List ℕ)) (text : List ℕ) (i n : ℕ) → Appends old mid (take i text) → Appends mid new (take n (take (length text - i) (drop i text)))
    → Appends old new (take (i + n) text)
slice_more old mid new text i n a b = part_more old mid new text i n a (subst (λ (l : List ℕ). Appends mid new (take n l)) (left text i) b)
