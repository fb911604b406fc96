-- A prefix is read where a text spells it, and nowhere else.
use Rattle.std.proofs.Common.{◌≡◌, ℕ, zero, suc, ◌-◌, take, drop, ◌<◌, ◌≤◌, ◌^◌, true, cond, List, [], ◌∷◌, ◌++◌, length, get_or, decimal, Result, Ok, Err, refl, sym, ap, ◌∙◌, subst, arith, inl, inr, append_assoc, eq-eqb, ne_eqb, lt-ltb}
use Rattle.std.specs.Prelude.{◌==◌}
use Rattle.std.proofs.lemmas.Bool.{cases_eq, cases_lt}
use Rattle.std.proofs.lemmas.List.{take_all}
use Rattle.std.proofs.Math.Nat.{zero-div}
use Rattle.ddt_path.specs.laws.Prefix.{width_most}
use Rattle.ddt_path.specs.declared.form.Form.{Form}
use Rattle.ddt_path.specs.declared.form.Form.TheVariants.{Range, Block}
use Rattle.ddt_path.specs.declared.form.PrefixFault.{PrefixFault}
use Rattle.ddt_path.specs.declared.form.PrefixFault.TheVariants as prefix_fault
use Rattle.ddt_path.specs.Path.{digits, prefix_of, form_len, form_width, are_zero}
use Rattle.ddt_text.specs.declared.fault.TextFault.{TextFault}
use Rattle.ddt_text.specs.declared.fault.TextFault.TheVariants.{Address, Length, Trailing}
use Rattle.ddt_text.specs.Grammar.{SpellsRange, SpellsBlock, SpellsPrefix}
use Rattle.ddt_text.specs.FirstFault.{before, onward, value_or, brackets_in, iid_in, number_in, address_in, prefix_or_fault, range_behind_star, range_in, block_behind_slash, block_in, range_or_block, bracketed_prefix_in, prefix_in}
use Rattle.ddt_text.specs.laws.Byte.{Lacks, lacks-append, before_at, onward_at, before_none, onward_none, cut_none, cut_at, plain-decimal, lacks_slash, lacks_bracket, plain_bytes, decimal_bytes}
use Rattle.ddt_text.specs.laws.Number.{number_in-sound, number_in-complete}
use Rattle.ddt_text.specs.laws.Address.{address_in-sound, address_in-complete, plain-locator}
use Rattle.ddt_path.specs.Steps.{IsBytes}
use Rattle.ddt_path.specs.laws.Step.{bind_parts}
use Rattle.ddt_path.specs.laws.Byte.{IsBytes-cons, IsBytes-nil, IsBytes-append}
use Rattle.ddt_text.specs.laws.Part.{value_or-some, iid_in-sound, iid_in-complete, brackets_in-sound, brackets_in-complete}

prefix_or_fault-sound : (r : Result (List ℕ) PrefixFault) (path : List ℕ) → prefix_or_fault r ≡ Ok path → r ≡ Ok path
prefix_or_fault-sound (Ok p) path e = cc
prefix_or_fault-sound (Err prefix_fault.Length) path e = let no : ⊥ = cc in absurd no
prefix_or_fault-sound (Err prefix_fault.TailNotZero) path e = let no : ⊥ = cc in absurd no

-- ranges
range_shape : (iid len : ℕ) → (91 ∷ []) ++ decimal iid ++ (47 ∷ []) ++ decimal len ++ (93 ∷ 42 ∷ []) ≡ 91 ∷ ((decimal iid ++ 47 ∷ decimal len) ++ 93 ∷ 42 ∷ [])
range_shape iid len = ap (λ t. 91 ∷ (t ++ 93 ∷ 42 ∷ [])) (append_assoc (decimal iid) (47 ∷ []) (decimal len))

range_behind_star-sound : (form : Form) (rest path : List ℕ) → range_behind_star form rest ≡ Ok path → (rest ≡ 42 ∷ []) × (prefix_of form ≡ Ok path)
range_behind_star-sound form [] path e = let no : ⊥ = cc in absurd no
range_behind_star-sound form (c ∷ []) path e =
    elim (cases_eq c 42) [
      | inl same ↦ (ap (λ b. b ∷ []) same, prefix_or_fault-sound (prefix_of form) path (rw (eq-eqb c 42 same) at e))
      | inr other ↦ let k = rw (ne_eqb c 42 other) at e in let no : ⊥ = cc in absurd no
    ]
range_behind_star-sound form (c ∷ d ∷ rest) path e =
    elim (cases_eq c 42) [
      | inl same ↦ let k = rw (eq-eqb c 42 same, ne_eqb (length (d ∷ rest)) 0 (omega arith)) at e in let no : ⊥ = cc in absurd no
      | inr other ↦ let k = rw (ne_eqb c 42 other) at e in let no : ⊥ = cc in absurd no
    ]

range_in-sound : (iid len rest text path : List ℕ) → text ≡ 91 ∷ ((iid ++ 47 ∷ len) ++ 93 ∷ rest) → range_in iid len rest ≡ Ok path → SpellsRange text path
range_in-sound iid len rest text path shown e =
    bind_parts (iid_in iid) _ path e λ n number e₁.
    bind_parts (value_or Length (number_in 32 len)) _ path e₁ λ m length_is e₂.
    let (fits, digits) = iid_in-sound iid n number in
    let (most, len_digits) = number_in-sound 32 len m (omega arith) (value_or-some Length _ m length_is) in
    elim (cases_eq m 0) [
      | inl same ↦ let k = rw (eq-eqb m 0 same) at e₂ in let no : ⊥ = cc in absurd no
      | inr other ↦
          let (star, value) = range_behind_star-sound (Range n m) rest path (rw (ne_eqb m 0 other) at e₂) in
          record {
            iid = n;
            len = m;
            spelled =
                shown ∙ ap (λ t. 91 ∷ ((t ++ 47 ∷ len) ++ 93 ∷ rest)) digits ∙ ap (λ t. 91 ∷ ((decimal n ++ 47 ∷ t) ++ 93 ∷ rest)) len_digits
                ∙ ap (λ t. 91 ∷ ((decimal n ++ 47 ∷ decimal m) ++ 93 ∷ t)) star
                ∙ sym (range_shape n m);
            fits = fits;
            some = omega arith;
            value = value;
          }
    ]

-- blocks
block_shape : (iid : ℕ) (address : List ℕ) (len : ℕ) → (91 ∷ []) ++ decimal iid ++ (93 ∷ []) ++ address ++ (47 ∷ []) ++ decimal len ≡ 91 ∷ (decimal iid ++ 93 ∷ (address ++ 47 ∷ decimal len))
block_shape iid address len = simp append_assoc

block_behind_slash-sound : (form : ℕ → Form) (rest path : List ℕ) → block_behind_slash form rest ≡ Ok path → (b len : ℕ) × (rest ≡ b ∷ decimal len) × (prefix_of (form len) ≡ Ok path)
block_behind_slash-sound form [] path e = let no : ⊥ = cc in absurd no
block_behind_slash-sound form (b ∷ rest) path e =
    bind_parts (value_or Length (number_in 128 rest)) _ path e λ len found e₁.
    let (most, digits) = number_in-sound 128 rest len (omega arith) (value_or-some Length _ len found) in
    (b, len, ap (λ t. b ∷ t) digits, prefix_or_fault-sound (prefix_of (form len)) path e₁)

block_in-sound : (iid rest text path : List ℕ) → text ≡ 91 ∷ (iid ++ 93 ∷ rest) → block_in iid rest ≡ Ok path → SpellsBlock text path
block_in-sound iid rest text path shown e =
    bind_parts (iid_in iid) _ path e λ n number e₁.
    bind_parts (value_or Address (address_in (before 47 rest))) _ path e₁ λ address found e₂.
    let (b, len, slash, value) = block_behind_slash-sound (Block n address) (onward 47 rest) path e₂ in
    let (fits, digits) = iid_in-sound iid n number in
    record {
      iid = n;
      address = address;
      address_text = before 47 rest;
      len = len;
      spelled =
          shown ∙ ap (λ t. 91 ∷ (t ++ 93 ∷ rest)) digits ∙ ap (λ t. 91 ∷ (decimal n ++ 93 ∷ t)) (cut_at 47 rest b (decimal len) slash)
          ∙ sym (block_shape n (before 47 rest) len);
      fits = fits;
      address_spelled = address_in-sound (before 47 rest) address (value_or-some Address _ address found);
      value = value;
    }

-- either
cases-sound : (inner rest text path : List ℕ) → text ≡ 91 ∷ (inner ++ 93 ∷ rest) → (slash : List ℕ) → onward 47 inner ≡ slash → range_or_block (before 47 inner) slash rest ≡ Ok path → SpellsPrefix text path
cases-sound inner rest text path shown [] is e =
    inr (inr (block_in-sound (before 47 inner) rest text path (shown ∙ ap (λ t. 91 ∷ (t ++ 93 ∷ rest)) (cut_none 47 inner is)) e))
cases-sound inner rest text path shown (b ∷ len) is e =
    inr (inl (range_in-sound (before 47 inner) len rest text path (shown ∙ ap (λ t. 91 ∷ (t ++ 93 ∷ rest)) (cut_at 47 inner b len is)) e))

bracketed_prefix_in-sound : (text path : List ℕ) → bracketed_prefix_in text ≡ Ok path → SpellsPrefix text path
bracketed_prefix_in-sound text path e =
    bind_parts (brackets_in text) _ path e λ parts brackets e₁.
    cases-sound parts.0 parts.1 text path (brackets_in-sound text parts brackets) (onward 47 parts.0) refl e₁

pub prefix_in-sound : (text path : List ℕ) → prefix_in text ≡ Ok path → SpellsPrefix text path
prefix_in-sound [] path e = let no : ⊥ = cc in absurd no
prefix_in-sound (c ∷ rest) path e =
    elim (cases_eq c 42) [
      | inl same ↦ star rest (rw (eq-eqb c 42 same) at e) same
      | inr other ↦ bracketed_prefix_in-sound (c ∷ rest) path (rw (ne_eqb c 42 other) at e)
    ]
  where
    star : (rest : List ℕ) → cond (length rest == 0) (Ok []) (Err Trailing) ≡ Ok path → c ≡ 42 → SpellsPrefix (c ∷ rest) path
    star [] k same = inl (ap (λ b. b ∷ []) same, cc)
    star (d ∷ rest) k same = let no = rw (ne_eqb (length (d ∷ rest)) 0 (omega arith)) at k in let none : ⊥ = cc in absurd none

-- the length that a form with a prefix has
form_fits : (form : Form) (path : List ℕ) → prefix_of form ≡ Ok path → form_len form ≤ form_width form
form_fits form path e =
    elim (cases_lt (form_width form) (form_len form)) [
      | inl long ↦ let k = rw (lt-ltb (form_width form) (form_len form) long) at e in let no : ⊥ = cc in absurd no
      | inr fits ↦ fits
    ]

-- what is spelled is read
range_complete : (text path : List ℕ) → SpellsRange text path → prefix_in text ≡ Ok path
range_complete text path h =
    let fits : h.len ≤ 32 = form_fits (Range h.iid h.len) path h.value in
    let iid = plain-decimal h.iid (omega (arith, h.fits)) in
    let len = plain-decimal h.len (omega arith) in
    let inner : Lacks 93 (decimal h.iid ++ 47 ∷ decimal h.len) = lacks-append 93 (decimal h.iid) (47 ∷ decimal h.len) (lacks_bracket 48 (decimal h.iid) iid) (lacks_bracket 48 (decimal h.len) len) in
    ap prefix_in (h.spelled ∙ range_shape h.iid h.len)
    ∙ rw (
      brackets_in-complete (decimal h.iid ++ 47 ∷ decimal h.len) (42 ∷ []) inner,
      before_at 47 (decimal h.iid) (decimal h.len) (lacks_slash 48 (decimal h.iid) iid),
      onward_at 47 (decimal h.iid) (decimal h.len) (lacks_slash 48 (decimal h.iid) iid),
      iid_in-complete h.iid h.fits,
      number_in-complete 32 h.len (omega arith) fits,
      ne_eqb h.len 0 (omega (arith, h.some)),
      h.value,
    )

block_complete : (text path : List ℕ) → SpellsBlock text path → prefix_in text ≡ Ok path
block_complete text path h =
    let fits : h.len ≤ 128 = omega (arith, form_fits (Block h.iid h.address h.len) path h.value, width_most h.address) in
    let iid = plain-decimal h.iid (omega (arith, h.fits)) in
    let address = plain-locator h.address_text h.address h.address_spelled in
    ap prefix_in (h.spelled ∙ block_shape h.iid h.address_text h.len)
    ∙ rw (
      brackets_in-complete (decimal h.iid) (h.address_text ++ 47 ∷ decimal h.len) (lacks_bracket 48 (decimal h.iid) iid),
      before_none 47 (decimal h.iid) (lacks_slash 48 (decimal h.iid) iid),
      onward_none 47 (decimal h.iid) (lacks_slash 48 (decimal h.iid) iid),
      iid_in-complete h.iid h.fits,
      before_at 47 h.address_text (decimal h.len) (lacks_slash 46 h.address_text address),
      onward_at 47 h.address_text (decimal h.len) (lacks_slash 46 h.address_text address),
      address_in-complete h.address_text h.address h.address_spelled,
      number_in-complete 128 h.len (omega arith) fits,
      h.value,
    )

pub prefix_in-complete : (text path : List ℕ) → SpellsPrefix text path → prefix_in text ≡ Ok path
prefix_in-complete text path (inl h) = ap prefix_in h.0 ∙ ap Ok (sym h.1)
prefix_in-complete text path (inr (inl h)) = range_complete text path h
prefix_in-complete text path (inr (inr h)) = block_complete text path h

-- only bytes spell
range_bytes : (text path : List ℕ) → SpellsRange text path → IsBytes text
range_bytes text path h =
    let fits : h.len ≤ 32 = form_fits (Range h.iid h.len) path h.value in
    let len = IsBytes-cons 47 (decimal h.len) (omega arith) (decimal_bytes h.len (omega arith)) in
    let inner = IsBytes-append (decimal h.iid) (47 ∷ decimal h.len) (decimal_bytes h.iid (omega (arith, h.fits))) len in
    let end = IsBytes-cons 93 (42 ∷ []) (omega arith) (IsBytes-cons 42 [] (omega arith) IsBytes-nil) in
    subst IsBytes (sym (h.spelled ∙ range_shape h.iid h.len)) (IsBytes-cons 91 _ (omega arith) (IsBytes-append (decimal h.iid ++ 47 ∷ decimal h.len) _ inner end))

block_bytes : (text path : List ℕ) → SpellsBlock text path → IsBytes text
block_bytes text path h =
    let fits : h.len ≤ 128 = omega (arith, form_fits (Block h.iid h.address h.len) path h.value, width_most h.address) in
    let address = plain_bytes 46 h.address_text (plain-locator h.address_text h.address h.address_spelled) in
    let len = IsBytes-cons 47 (decimal h.len) (omega arith) (decimal_bytes h.len (omega arith)) in
    let back = IsBytes-cons 93 _ (omega arith) (IsBytes-append h.address_text _ address len) in
    subst IsBytes (sym (h.spelled ∙ block_shape h.iid h.address_text h.len)) (IsBytes-cons 91 _ (omega arith) (IsBytes-append (decimal h.iid) _ (decimal_bytes h.iid (omega (arith, h.fits))) back))

pub prefix_bytes : (text path : List ℕ) → SpellsPrefix text path → IsBytes text
prefix_bytes text path (inl h) = subst IsBytes (sym h.0) (IsBytes-cons 42 [] (omega arith) IsBytes-nil)
prefix_bytes text path (inr (inl h)) = range_bytes text path h
prefix_bytes text path (inr (inr h)) = block_bytes text path h

-- the arms of the code
pub range_case : (text inner rest front back : List ℕ) (r : Result (List ℕ) TextFault) → brackets_in text ≡ Ok (inner, rest) → front ≡ before 47 inner → back ≡ onward 47 inner → 1 ≤ length back → r ≡ range_in front (take (length back - 1) (drop 1 back)) rest → r ≡ bracketed_prefix_in text
range_case text inner rest front [] r brackets is_front is_back some e = absurd (omega arith)
range_case text inner rest front (b ∷ len) r brackets is_front is_back some e =
    let whole : take (length (b ∷ len) - 1) len ≡ len = take_all (length (b ∷ len) - 1) len (omega arith) in
    e ∙ rw (whole, is_front, brackets, ← is_back)

zero_digits : (w : ℕ) → are_zero (digits w 0) ≡ true
unfolding digits
zero_digits zero = refl
zero_digits (suc w) = rw (zero-div (2 ^ w)) (zero_digits w)

-- everything
pub star_case : (text : List ℕ) → 1 ≤ length text → length text < 2 → get_or text 0 0 ≡ 42 → prefix_or_fault (prefix_of (Range 0 0)) ≡ prefix_in text
star_case [] some one star = absurd (omega arith)
star_case (c ∷ d ∷ text) some one star = absurd (omega arith)
star_case (c ∷ []) some one star = rw (zero_digits 32, star)
