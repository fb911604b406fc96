-- The addresses that sockets are bound to: those of the loopback network 127.0.0.0/8 alone (RFC 1122, section 3.2.1.3).
use Rattle.std.specs.Prelude.{Bool, false, not, ◌==◌, ◌/◌, ◌^◌, List, Option}
use Rattle.std.specs.List.{find}
use Rattle.ddt_path.specs.declared.locator.Locator.{Locator}
use Rattle.ddt_path.specs.declared.locator.Locator.TheVariants.{V4, V6}

-- an address of 127.0.0.0/8
abbrev pub is_loopback : Locator → Bool
is_loopback (V4 number) = number / 2 ^ 24 == 127
is_loopback (V6 number) = false

-- the first that is no loopback address
abbrev pub first_outside : List Locator → Option Locator
first_outside locators = find (λ l. not (is_loopback l)) locators
