-- The laws of the three readers.
use Rattle.std.proofs.Common.{◌≡◌, ℕ, List, [], ◌∷◌, ◌++◌, length, Result, Ok, sym, ap, ◌∙◌, arith, inl, inr, true≢false}
use Rattle.std.specs.Prelude.{◌↔◌}
use Rattle.std.proofs.lemmas.List.{length-append}
use Rattle.ddt_path.specs.declared.locator.Locator.{Locator}
use Rattle.ddt_path.specs.declared.locator.Locator.TheVariants.{V4, V6}
use Rattle.ddt_text.specs.declared.fault.TextFault.{TextFault}
use Rattle.ddt_text.specs.declared.fault.TextFault.TheVariants.{Address}
use Rattle.ddt_text.specs.Grammar.{SpellsGroups, SpellsLocator, SpellsXeid, SpellsPrefix}
use Rattle.ddt_text.specs.FirstFault.{address_in, locator_in, xeid_in, prefix_in}
use Rattle.ddt_path.specs.Steps.{IsBytes}
use Rattle.ddt_path.specs.Reader.{AreRead, IsAny}
use Rattle.ddt_path.specs.laws.Reader.{are_read}
use Rattle.ddt_text.specs.laws.Byte.{plain_bytes}
use Rattle.ddt_text.specs.laws.Address.{dotted_has_dot, address_in-sound, address_in-complete, plain-locator}
use Rattle.ddt_text.specs.laws.Part.{value_or-some}
use Rattle.ddt_text.specs.laws.XeidText.{xeid_in-sound, xeid_in-complete, xeid_bytes}
use Rattle.ddt_text.specs.laws.PrefixText.{prefix_in-sound, prefix_in-complete, prefix_bytes}

-- no address has no bytes
empty_is_none : (a : Locator) → ¬ (SpellsLocator [] a)
empty_is_none (V4 n) h = true≢false (sym (dotted_has_dot [] h.0 h.1))
empty_is_none (V6 n) h = go h.0 h.1
  where
    go : (groups : List ℕ) → ¬ (SpellsGroups [] groups)
    go [] (inl h) = omega (arith, h.1)
    go (g ∷ groups) (inl (inl h, eight)) = omega (arith, h.3.0.0.0, ap length h.2, length-append h.0 h.1)
    go (g ∷ groups) (inl (inr h, eight)) = true≢false (sym h.2)
    go groups (inr h) = omega (arith, ap length h.spelled, length-append (h.front_text ++ 58 ∷ 58 ∷ []) h.back_text, length-append h.front_text (58 ∷ 58 ∷ []))

locator_in-complete : (text : List ℕ) (a : Locator) → SpellsLocator text a → locator_in text ≡ Ok a
locator_in-complete [] a h = absurd (empty_is_none a h)
locator_in-complete (b ∷ text) a h = rw (address_in-complete (b ∷ text) a h)

locator_in-sound : (text : List ℕ) (a : Locator) → locator_in text ≡ Ok a → SpellsLocator text a
locator_in-sound [] a e = let no : ⊥ = cc in absurd no
locator_in-sound (b ∷ text) a e = address_in-sound (b ∷ text) a (value_or-some Address (address_in (b ∷ text)) a e)

locator_bytes : (text : List ℕ) (a : Locator) → SpellsLocator text a → IsBytes text
locator_bytes text a h = plain_bytes 46 text (plain-locator text a h)

pub locators_are_read : AreRead IsAny SpellsLocator locator_in
locators_are_read = are_read locator_in-complete (λ text a fits. locator_in-sound text a) locator_bytes

pub xeids_are_read : AreRead IsAny SpellsXeid xeid_in
xeids_are_read = are_read xeid_in-complete (λ text x fits. xeid_in-sound text x) xeid_bytes

pub prefixes_are_read : AreRead IsAny SpellsPrefix prefix_in
prefixes_are_read = are_read prefix_in-complete (λ text path fits. prefix_in-sound text path) prefix_bytes

-- what a parser says of a text, if it reads it so
pub spelled_by : {A : Type 0} {Spells : List ℕ → A → Type 0} {reading : List ℕ → Result A TextFault} → AreRead IsAny Spells reading → (text : List ℕ) (r : Result A TextFault) → r ≡ reading text → (a : A) → r ≡ Ok a ↔ Spells text a
spelled_by laws text r is a = (λ e. laws.taken text a tt (sym is ∙ e), λ h. is ∙ laws.read text a h)
