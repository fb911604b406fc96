-- Whose register is in charge of an identifier.
use Rattle.std.specs.Prelude.{◌≡◌, ℕ, true, false, IsTrue, List, Some, Contains}
use Rattle.ddt_path.specs.declared.locator.Locator.{Locator}
use Rattle.ddt_path.specs.Covers.{covers}
use Rattle.ddt_path.specs.Locators.{lists}
use Rattle.ddt_path.specs.laws.Member.{IsIn}
use Rattle.ddt_register.specs.declared.zone.Zone.{Zone}
use Rattle.ddt_register.specs.declared.group.Group.{Group}
use Rattle.ddt_check.specs.Zones.{zone_of}
use Rattle.ddt_config.specs.Answer.{answer}
use Rattle.ddt_compile.specs.GroupConfig.{group_config}
use Rattle.ddt_organisations.specs.Seam.Walk.{Replies}
use Rattle.ddt_organisations.specs.Tree.{Organisation}

-- Asked for an identifier, an organisation looks for the longest zone that covers it. It is in charge where it runs
-- that zone. Else it is whoever is in charge by the organisation that does.
pub data IsInCharge (all : List Organisation) (x : List ℕ) : Organisation → Organisation → Type 0 where
  itself : {o : Organisation} (z : Zone) → zone_of o.register x ≡ Some z → o.runs z.group ≡ true → IsInCharge all x o o
  another : {o last : Organisation} (z : Zone) (other : Organisation) → zone_of o.register x ≡ Some z
      → o.runs z.group ≡ false → Contains all other → other.runs z.group ≡ true → IsInCharge all x other last
      → IsInCharge all x o last

-- a zone that an organisation runs, and that covers the identifier
pub record IsOwn (o : Organisation) (x : List ℕ) (z : Zone) : Type 0 where
  pub is_zone : IsIn z o.register.zones
  pub covers_it : covers z.prefix x ≡ true
  pub is_run : o.runs z.group ≡ true

-- Each server of a group that an organisation runs answers from the configuration that its register compiles to.
abbrev pub AreRunByAll : List Organisation → Replies → Type 0
AreRunByAll all reply =
    (o : Organisation) (g : Group) (l : Locator) (x : List ℕ) → Contains all o → Contains o.register.groups g
    → o.runs g.name ≡ true → IsTrue (lists g.locators l) → reply l x ≡ answer (group_config o.register g) x
