-- An identifier is read where a text spells it, and nowhere else.
use Rattle.std.proofs.Common.{◌≡◌, ℕ, ◌≤◌, List, [], ◌∷◌, ◌++◌, length, decimal, Some, Ok, Err, refl, sym, ap, ◌∙◌, subst, arith, append_assoc}
use Rattle.ddt_path.specs.declared.locator.Locator.{Locator}
use Rattle.ddt_path.specs.declared.xeid.Xeid.{Xeid}
use Rattle.ddt_text.specs.declared.fault.TextFault.TheVariants.{Address, Trailing}
use Rattle.ddt_text.specs.Grammar.{SpellsXeid}
use Rattle.ddt_text.specs.FirstFault.{before, onward, value_or, brackets_in, iid_in, number_in, nothing_after, address_in, xeid_in}
use Rattle.ddt_text.specs.laws.Byte.{before_none, onward_none, cut_none, plain-decimal, lacks_slash, lacks_bracket, plain_bytes, decimal_bytes}
use Rattle.ddt_text.specs.laws.Address.{address_in-sound, address_in-complete, plain-locator}
use Rattle.ddt_path.specs.Steps.{IsBytes}
use Rattle.ddt_path.specs.laws.Step.{bind_parts}
use Rattle.ddt_path.specs.laws.Byte.{IsBytes-cons, IsBytes-append}
use Rattle.ddt_text.specs.laws.Part.{value_or-some, iid_in-sound, iid_in-complete, brackets_in-sound, brackets_in-complete}

shape : (n : ℕ) (address : List ℕ) → (91 ∷ []) ++ decimal n ++ (93 ∷ []) ++ address ≡ 91 ∷ (decimal n ++ 93 ∷ address)
shape n address = ap (λ t. 91 ∷ t) (append_assoc (decimal n) (93 ∷ []) address)

nothing_after-sound : {A : Type 0} (a b : A) (rest : List ℕ) → nothing_after a rest ≡ Ok b → (rest ≡ []) × (a ≡ b)
nothing_after-sound a b [] e = (refl, cc)
nothing_after-sound a b (c ∷ rest) e = let no : ⊥ = cc in absurd no

pub xeid_in-complete : (text : List ℕ) (x : Xeid) → SpellsXeid text x → xeid_in text ≡ Ok x
xeid_in-complete text x h =
    let plain = plain-locator h.address_text x.address h.address in
    let slash = lacks_slash 46 h.address_text plain in
    let inner = lacks_bracket 48 (decimal x.iid) (plain-decimal x.iid (omega (arith, h.fits))) in
    ap xeid_in (h.spelled ∙ shape x.iid h.address_text)
    ∙ rw (
      brackets_in-complete (decimal x.iid) h.address_text inner,
      iid_in-complete x.iid h.fits,
      before_none 47 h.address_text slash,
      onward_none 47 h.address_text slash,
      address_in-complete h.address_text x.address h.address,
    )

pub xeid_in-sound : (text : List ℕ) (x : Xeid) → xeid_in text ≡ Ok x → SpellsXeid text x
xeid_in-sound text x e =
    bind_parts (brackets_in text) _ x e λ parts brackets e₁.
    bind_parts (iid_in parts.0) _ x e₁ λ iid number e₂.
    bind_parts (value_or Address (address_in (before 47 parts.1))) _ x e₂ λ address found e₃.
    let (none, same) = nothing_after-sound _ x (onward 47 parts.1) e₃ in
    let (fits, digits) = iid_in-sound parts.0 iid number in
    let spells = address_in-sound (before 47 parts.1) address (value_or-some Address _ address found) in
    subst (SpellsXeid text) same (record {
      address_text = before 47 parts.1;
      spelled =
          brackets_in-sound text parts brackets ∙ ap (λ t. 91 ∷ (t ++ 93 ∷ parts.1)) digits
          ∙ ap (λ t. 91 ∷ (decimal iid ++ 93 ∷ t)) (cut_none 47 parts.1 none)
          ∙ sym (shape iid (before 47 parts.1));
      fits = fits;
      address = spells;
    })

pub xeid_bytes : (text : List ℕ) (x : Xeid) → SpellsXeid text x → IsBytes text
xeid_bytes text x h =
    let address = plain_bytes 46 h.address_text (plain-locator h.address_text x.address h.address) in
    let rest = IsBytes-cons 93 h.address_text (omega arith) address in
    subst IsBytes (sym (h.spelled ∙ shape x.iid h.address_text)) (IsBytes-cons 91 _ (omega arith) (IsBytes-append (decimal x.iid) _ (decimal_bytes x.iid (omega (arith, h.fits))) rest))

-- the arm of the code where a `/` follows
pub trailing_case : (text inner rest front back : List ℕ) (iid : ℕ) (address : Locator) → brackets_in text ≡ Ok (inner, rest) → number_in 4294967295 inner ≡ Some iid → front ≡ before 47 rest → back ≡ onward 47 rest → address_in front ≡ Some address → 1 ≤ length back → Err Trailing ≡ xeid_in text
trailing_case text inner rest front [] iid address brackets number is_front is_back found some = absurd (omega arith)
trailing_case text inner rest front (b ∷ back) iid address brackets number is_front is_back found some =
    let at : address_in (before 47 rest) ≡ Some address = ap address_in (sym is_front) ∙ found in
    rw (brackets, number, at, ← is_back)
