-- What is found over sorted lists, which hold the items of a register in another order.
use Rattle.std.specs.Prelude.{◌≡◌, ℕ, ◌<◌, false, List, IsPermutation, Option}
use Rattle.ddt_register.specs.declared.zone.Zone.{Zone}
use Rattle.ddt_register.specs.declared.site.Site.{Site}
use Rattle.ddt_register.specs.declared.group.Group.{Group}
use Rattle.ddt_register.specs.declared.register.Register.{Register}
use Rattle.ddt_check.specs.declared.fault.Rule.{Rule}
use Rattle.ddt_check.specs.declared.fault.Rule.TheVariants as rules
use Rattle.ddt_check.specs.declared.first_fault.Found.{Found}
use Rattle.ddt_check.specs.declared.sorted_on_stack.ZoneRows.{ZoneRows}
use Rattle.ddt_check.specs.declared.sorted_on_stack.GroupRows.{GroupRows}
use Rattle.ddt_check.specs.Rules.{IsLeastRow, broken, rule_number}

-- a rule is broken at no row
abbrev pub IsRuleKept : Register → Rule → Type 0
IsRuleKept r rule = (n : ℕ) → broken r rule n ≡ false

-- each rule of a lower number is kept
abbrev pub AreEarlierKept : Register → Rule → Type 0
AreEarlierKept r rule = (earlier : Rule) (n : ℕ) → rule_number earlier < rule_number rule → broken r earlier n ≡ false

-- the least row that breaks a rule, in each register that has these zones in some order
abbrev pub IsLeastOfZones : List Zone → Rule → Option ℕ → Type 0
IsLeastOfZones zones rule row = (r : Register) → IsPermutation r.zones zones → IsLeastRow (broken r rule) row

-- the same of zones with groups
abbrev pub IsLeastOfBoth : List Zone → List Group → Rule → Option ℕ → Type 0
IsLeastOfBoth zones groups rule row =
    (r : Register) → IsPermutation r.zones zones → IsPermutation r.groups groups → IsLeastRow (broken r rule) row

-- For A2, A7 and A8: each row found is the lowest that breaks the rule; of A8 only where A2 and A7 are kept.
pub record AreZoneRows (r : Register) (rows : ZoneRows) : Type 0 where
  pub duplicate : IsLeastRow (broken r rules.DuplicateZone) rows.duplicate
  pub below : IsLeastRow (broken r rules.BelowMapServer) rows.below
  pub outside : IsRuleKept r rules.DuplicateZone → IsRuleKept r rules.BelowMapServer
      → IsLeastRow (broken r rules.SiteOutside) rows.outside

-- For A4, A5 and A10: each row found is the lowest that breaks the rule, and none is found where no row breaks it.
pub record AreGroupRows (r : Register) (rows : GroupRows) : Type 0 where
  pub unknown : IsLeastRow (broken r rules.UnknownGroup) rows.unknown
  pub role : IsLeastRow (broken r rules.Role) rows.role
  pub duplicate : IsLeastRow (broken r rules.DuplicateGroup) rows.duplicate

-- the same of what is found for several rules
pub record AreFound (r : Register) (found : Found) : Type 0 where
  pub zones : AreZoneRows r found.zones
  pub groups : AreGroupRows r found.groups
