-- Numbers of 64 binary digits that differ for most locators, and the locators of all groups at once.
use Rattle.std.specs.Prelude.{ℕ, ◌+◌, ◌*◌, ◌/◌, ◌%◌, ◌^◌, List}
use Rattle.std.specs.List.{flat_map}
use Rattle.ddt_path.specs.declared.locator.Locator.{Locator}
use Rattle.ddt_path.specs.declared.locator.Locator.TheVariants.{V4, V6}
use Rattle.ddt_register.specs.declared.group.Group.{Group}

-- the number of an IPv4 address; of an IPv6 address its halves, the first by a factor that moves its multiples apart
abbrev pub fingerprint : Locator → ℕ
fingerprint (V4 a) = a
fingerprint (V6 a) = (a / 2 ^ 64 * 11400714819323198485 + a % 2 ^ 64) % 2 ^ 64

-- the locators of all groups, in the order of the groups
abbrev pub all_locators : List Group → List Locator
all_locators groups = flat_map (λ g. g.locators) groups
