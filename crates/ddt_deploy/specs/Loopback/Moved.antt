-- What a group keeps when its servers get other addresses, and when two lists of locators are one for one.
use Rattle.std.specs.Prelude.{ℕ, ◌≡◌, ◌<◌, ◌↔◌, List, length, slice_get}
use Rattle.std.specs.List.{flat_map}
use Rattle.ddt_path.specs.declared.locator.Locator.{Locator}
use Rattle.ddt_path.specs.declared.record.Role.{Role}
use Rattle.ddt_register.specs.declared.group.Group.{Group}

-- the locators of all groups, in order
abbrev pub locators_in : List Group → List Locator
locators_in groups = flat_map (λ g. g.locators) groups

-- what a group keeps: its name, its kind, its row, and how many locators it has
abbrev pub kept_of : Group → List ℕ × Role × ℕ × ℕ
kept_of g = (g.name, g.kind, g.row, length g.locators)

-- two locators of the one list are the same if and only if those at their places in the other list are
abbrev pub AreOneForOne : List Locator → List Locator → Type 0
AreOneForOne olds news = (length news ≡ length olds) × ((i j : ℕ) → i < length olds → j < length olds
    → (slice_get olds i ≡ slice_get olds j) ↔ (slice_get news i ≡ slice_get news j))
