-- The ETRs of a site as they are held: one locator in place, or a vector.
use Rattle.std.specs.Prelude.{List}
use Rattle.ddt_path.specs.declared.locator.Locator.{Locator}
use Rattle.ddt_register.specs.declared.etrs.Held.{Held as AsHeld}
use Rattle.ddt_register.specs.declared.etrs.Held.TheVariants.{One, Many}

-- The locators in order.
abbrev pub held_locators : AsHeld → List Locator
held_locators (One locators) = locators
held_locators (Many locators) = locators.items
