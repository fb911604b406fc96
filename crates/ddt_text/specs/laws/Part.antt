-- Readings of parts, one after another, and the brackets.
use Rattle.std.proofs.Common.{◌≡◌, ℕ, ◌<◌, ◌^◌, List, [], ◌∷◌, ◌++◌, decimal, Option, Some, None, Ok, ap, ◌∙◌, arith, inl, inr, eq-eqb, ne_eqb}
use Rattle.std.proofs.lemmas.Bool.{cases_eq}
use Rattle.ddt_text.specs.declared.fault.TextFault.{TextFault}
use Rattle.ddt_text.specs.FirstFault.{value_or, inner_or_bracket, brackets_in, before, onward, iid_in}
use Rattle.ddt_text.specs.laws.Byte.{Lacks, before_at, onward_at, cut_at}
use Rattle.ddt_text.specs.laws.Number.{number_in-sound, number_in-complete}

pub value_or-some : {A : Type 0} (fault : TextFault) (o : Option A) (a : A) → value_or fault o ≡ Ok a → o ≡ Some a
value_or-some fault None a e = let no : ⊥ = cc in absurd no
value_or-some fault (Some b) a e = cc

pub iid_in-sound : (text : List ℕ) (n : ℕ) → iid_in text ≡ Ok n → (n < 2 ^ 32) × (text ≡ decimal n)
iid_in-sound text n e =
    let k = number_in-sound 4294967295 text n (omega arith) (value_or-some _ _ n e) in
    (omega (arith, k.0), k.1)

pub iid_in-complete : (n : ℕ) → n < 2 ^ 32 → iid_in (decimal n) ≡ Ok n
iid_in-complete n h = rw (number_in-complete 4294967295 n (omega arith) (omega arith))

inner_or_bracket-sound : (inner rest : List ℕ) (p : List ℕ × List ℕ) → inner_or_bracket inner rest ≡ Ok p → (b : ℕ) × (inner ≡ p.0) × (rest ≡ b ∷ p.1)
inner_or_bracket-sound inner [] p e = let no : ⊥ = cc in absurd no
inner_or_bracket-sound inner (b ∷ rest) p e = let same : ◌≡◌ {A = List ℕ × List ℕ} (inner, rest) p = cc in (b, ap (λ q. q.0) same, ap (λ q. b ∷ q.1) same)

pub brackets_in-sound : (text : List ℕ) (p : List ℕ × List ℕ) → brackets_in text ≡ Ok p → text ≡ 91 ∷ (p.0 ++ 93 ∷ p.1)
brackets_in-sound [] p e = let no : ⊥ = cc in absurd no
brackets_in-sound (first ∷ rest) p e =
    elim (cases_eq first 91) [
      | inl same ↦
          let (b, inner, back) = inner_or_bracket-sound (before 93 rest) (onward 93 rest) p (rw (eq-eqb first 91 same) at e) in
          ap (λ c. c ∷ rest) same ∙ ap (λ t. 91 ∷ t) (cut_at 93 rest b p.1 back ∙ ap (λ t. t ++ 93 ∷ p.1) inner)
      | inr other ↦ let k = rw (ne_eqb first 91 other) at e in let no : ⊥ = cc in absurd no
    ]

pub brackets_in-complete : (inner rest : List ℕ) → Lacks 93 inner → brackets_in (91 ∷ (inner ++ 93 ∷ rest)) ≡ Ok (inner, rest)
brackets_in-complete inner rest h = rw (before_at 93 inner rest h, onward_at 93 inner rest h)
