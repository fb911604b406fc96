-- The servers that a lookup asks one after the other, and what each answers.
use Rattle.std.specs.Prelude.{ℕ, ◌≡◌, ⊤, List, [], ◌∷◌, Some, slice_get}
use Rattle.ddt_path.specs.declared.locator.Locator.{Locator}
use Rattle.ddt_register.specs.declared.register.Register.{Register}
use Rattle.ddt_check.specs.Says.{says}
use Rattle.ddt_report.specs.declared.pictures.hops.Hop.{Hop}

-- Each server is the first of a set, at first of these, and then of what the one before says (RFC 8111, section 8.1).
-- It says what an honest server at its locator says.
abbrev pub AreHops : Register → List ℕ → List Locator → List Hop → Type 0
AreHops r x servers [] = ⊤
AreHops r x servers (hop ∷ hops) = (slice_get servers 0 ≡ Some hop.server) × (hop.said ≡ says r hop.server x)
    × AreHops r x hop.said.servers hops
