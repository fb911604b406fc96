-- Where either list has ended, all lines are written.
use Rattle.std.proofs.Common.{◌≡◌, ◌⊎◌, ℕ, List, [], ◌∷◌, ◌++◌, sym, ap, ◌∙◌, inl, inr}
use Rattle.std.proofs.lemmas.List.{append-nil}
use Rattle.ddt_path.specs.declared.locator.Locator.{Locator}
use Rattle.ddt_register.specs.declared.group.Group.{Group}
use Rattle.ddt_deploy.specs.Loopback.Table.{locator_lines, group_lines}

no_locators : (olds news : List Locator) → (olds ≡ []) ⊎ (news ≡ []) → locator_lines olds news ≡ []
no_locators [] news either = λ i. []
no_locators (old ∷ olds) [] either = λ i. []
no_locators (old ∷ olds) (new ∷ news) (inl none) = absurd (cc none)
no_locators (old ∷ olds) (new ∷ news) (inr none) = absurd (cc none)

no_groups : (olds news : List Group) → (olds ≡ []) ⊎ (news ≡ []) → group_lines olds news ≡ []
no_groups [] news either = λ i. []
no_groups (old ∷ olds) [] either = λ i. []
no_groups (old ∷ olds) (new ∷ news) (inl none) = absurd (cc none)
no_groups (old ∷ olds) (new ∷ news) (inr none) = absurd (cc none)

pub all_group : (olds news : List Locator) (text whole : List ℕ) → (olds ≡ []) ⊎ (news ≡ [])
    → text ++ locator_lines olds news ≡ whole → text ≡ whole
all_group olds news text whole either e =
    sym (append-nil text) ∙ ap (λ (t : List ℕ). text ++ t) (sym (no_locators olds news either)) ∙ e

pub all_groups : (olds news : List Group) (text whole : List ℕ) → (olds ≡ []) ⊎ (news ≡ [])
    → text ++ group_lines olds news ≡ whole → text ≡ whole
all_groups olds news text whole either e =
    sym (append-nil text) ∙ ap (λ (t : List ℕ). text ++ t) (sym (no_groups olds news either)) ∙ e
