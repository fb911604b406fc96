-- What holds of the configuration of each group of an accepted register.
use Rattle.std.specs.Prelude.{◌≡◌, ℕ, ◌<◌, IsTrue, List}
use Rattle.std.specs.List.{Contains}
use Rattle.ddt_path.specs.declared.locator.Locator.{Locator}
use Rattle.ddt_path.specs.Locators.{lists}
use Rattle.ddt_register.specs.declared.group.Group.{Group}
use Rattle.ddt_register.specs.declared.register.Register.{Register}
use Rattle.ddt_check.specs.Says.{says}
use Rattle.ddt_check.specs.Rules.{IsAccepted}
use Rattle.ddt_config.specs.Answer.{answer}
use Rattle.ddt_config.specs.Shaped.{is_shaped}
use Rattle.ddt_config.specs.Table.{Outline}
use Rattle.ddt_config.specs.Entries.{entry_count}
use Rattle.ddt_trie.specs.PrefixMap.{most_entries}
use Rattle.ddt_compile.specs.GroupConfig.{group_config}

-- from its configuration alone, each server answers each identifier with the record that the register has for it
abbrev pub IsHonestConfig : Register → Outline → Type 0
IsHonestConfig r c = (l : Locator) (x : List ℕ) → IsTrue (lists c.locators l) → answer c x ≡ says r l x

-- 1 to 8 distinct locators, and no two authorities of one prefix. In one of DDT nodes lie children strictly below it,
-- no two overlapping, of 1 to 8 locators each; in one of Map-Servers lie sites of distinct prefixes, of up to 8 ETRs.
abbrev pub IsShapedConfig : Outline → Type 0
IsShapedConfig c = IsTrue (is_shaped c.role c.locators c.authorities)

-- few enough authorities, children and sites in all that a server has room for them
abbrev pub HasRoom : Outline → Type 0
HasRoom c = entry_count c < most_entries

-- a compiled configuration answers honestly
abbrev pub AnswersHonestly : Type 0
AnswersHonestly = (r : Register) (g : Group) → IsAccepted r → Contains r.groups g → IsHonestConfig r (group_config r g)

-- and has the shape of a configuration
abbrev pub ConfigsAreShaped : Type 0
ConfigsAreShaped = (r : Register) (g : Group) → IsAccepted r → Contains r.groups g → IsShapedConfig (group_config r g)

-- and has room
abbrev pub ConfigsHaveRoom : Type 0
ConfigsHaveRoom = (r : Register) (g : Group) → IsAccepted r → Contains r.groups g → HasRoom (group_config r g)
