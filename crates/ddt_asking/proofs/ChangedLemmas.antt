-- The questions so far that a change touches.
use Rattle.std.proofs.Common.{◌≡◌, ℕ, ◌+◌, ◌<◌, true, false, List, [], ◌∷◌, ◌++◌, length, get_or, take, sym, ap, subst, ◌∙◌}
use Rattle.std.proofs.lemmas.List.{take_more}
use Rattle.std.specs.Prelude.{Bool, IsTrue, ◌↔◌}
use Rattle.std.specs.Cmp.Lexicographic.{pointwise, pointwise_decides}
use Rattle.ddt_path.specs.declared.locator.Locator.{Locator}
use Rattle.ddt_path.specs.Locators.{is_same_locator}
use Rattle.ddt_path.specs.laws.Locator.{same_locator, is_same_locator_self}
use Rattle.ddt_register.specs.declared.register.Register.{Register}
use Rattle.ddt_asking.specs.declared.question.Question.{Question}
use Rattle.ddt_asking.specs.Changed.{AreChanged, IsTheSame, says_the_same, said_another}

module _ (r : Register) (x : List ℕ) (questions changed : List Question) (i : ℕ) (q : Question)
    (here : i < length questions) (is : q ≡ get_or questions i q) where
  -- the questions up to this one
  front_with : take i questions ++ q ∷ [] ≡ take (i + 1) questions
  front_with = ap (λ (p : Question). take i questions ++ p ∷ []) is ∙ sym (take_more questions i q here)

  pub same_so_far : (same : Bool) → IsTrue same ↔ IsTheSame r x q → same ≡ true
      → AreChanged r x (take i questions) changed → AreChanged r x (take (i + 1) questions) changed
  same_so_far same means holds so_far =
      subst (λ (qs : List Question). AreChanged r x qs changed) front_with
      (says_the_same (take i questions) changed q so_far (means.0 holds))

  pub another_so_far : (same : Bool) → IsTrue same ↔ IsTheSame r x q → same ≡ false
      → AreChanged r x (take i questions) changed → AreChanged r x (take (i + 1) questions) (changed ++ q ∷ [])
  another_so_far same means fails so_far =
      subst (λ (qs : List Question). AreChanged r x qs (changed ++ q ∷ [])) front_with
      (said_another (take i questions) changed q so_far (λ (s : IsTheSame r x q). let holds = means.1 s in absurd (cc)))

-- the test of locators decides whether they are one
decides : (a b : Locator) → (is_same_locator a b ≡ true → a ≡ b) × (a ≡ b → is_same_locator a b ≡ true)
decides a b = (same_locator a b, λ (s : a ≡ b). subst (λ (c : Locator). is_same_locator a c ≡ true) s (is_same_locator_self a))

-- and that of lists whether these are
pub same_servers : (xs ys : List Locator)
    → (pointwise is_same_locator xs ys ≡ true → xs ≡ ys) × (xs ≡ ys → pointwise is_same_locator xs ys ≡ true)
same_servers = pointwise_decides decides
