-- When two locators are one, when a list has a locator, and when none stands in it twice.
use Rattle.std.specs.Prelude.{ℕ, Bool, true, false, ◌==◌, ◌&&◌, not, List, [], ◌∷◌}
use Rattle.std.specs.List.{list_any}
use Rattle.ddt_path.specs.declared.locator.Locator.{Locator}
use Rattle.ddt_path.specs.declared.locator.Locator.TheVariants.{V4, V6}

-- one address of one family
abbrev pub is_same_locator : Locator → Locator → Bool
is_same_locator (V4 a) (V4 b) = a == b
is_same_locator (V6 a) (V6 b) = a == b
is_same_locator (V4 a) (V6 b) = false
is_same_locator (V6 a) (V4 b) = false

-- whether a locator is one of the list
abbrev pub lists : List Locator → Locator → Bool
lists locators l = list_any (λ m. is_same_locator m l) locators

-- no locator stands twice
abbrev pub are_distinct : List Locator → Bool
are_distinct [] = true
are_distinct (l ∷ rest) = not (lists rest l) && are_distinct rest

-- how many locators a set holds at most
abbrev pub most_locators : ℕ
most_locators = 8
