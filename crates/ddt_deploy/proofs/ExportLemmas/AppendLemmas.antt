-- Texts that are appended one after the other.
use Rattle.std.proofs.Common.{◌≡◌, ℕ, List, ◌++◌, ◌∙◌, sym, ap, append_assoc}

together : (t a b c d : List ℕ) → t ++ (a ++ b ++ c ++ d) ≡ t ++ a ++ b ++ c ++ d
together t a b c d = search (append_assoc)

pub appended_four : (t a b c d t1 t2 t3 t4 : List ℕ) → t1 ≡ t ++ a → t2 ≡ t1 ++ b → t3 ≡ t2 ++ c → t4 ≡ t3 ++ d
    → t4 ≡ t ++ (a ++ b ++ c ++ d)
appended_four t a b c d t1 t2 t3 t4 first second third fourth =
    fourth ∙ ap (λ x. x ++ d) (third ∙ ap (λ x. x ++ c) (second ∙ ap (λ x. x ++ b) first)) ∙ sym (together t a b c d)
