-- Whose register is in charge of an identifier, by the numbers of the organisations.
use Rattle.std.specs.Prelude.{◌≡◌, ◌+◌, ◌<◌, ℕ, true, List, length, map}
use Rattle.ddt_organisations.specs.declared.organisation as code
use Rattle.ddt_register.specs.declared.zone.Zone.{Zone}
use Rattle.ddt_organisations.specs.Tree.{Organisation, IsTree}
use Rattle.ddt_organisations.specs.Charge.{IsInCharge, IsOwn}
use Rattle.ddt_organisations.specs.Meets.{seen}
use Rattle.ddt_organisations.specs.Found.{IsNumber}

-- Asked from the organisation of one number, the register of another is in charge of an identifier.
abbrev pub IsInChargeAt : List code.Organisation.Organisation → List ℕ → ℕ → ℕ → Type 0
IsInChargeAt all x n last = (o other : code.Organisation.Organisation) × IsNumber all n o × IsNumber all last other
    × IsInCharge (map seen all) x (seen o) (seen other)

-- the organisation of a number runs the group of a name
abbrev pub IsRunner : List code.Organisation.Organisation → List ℕ → ℕ → Type 0
IsRunner all name n = (o : code.Organisation.Organisation) × IsNumber all n o × ((seen o).runs name ≡ true)

-- No organisation of the number runs a zone for the identifier that so many hops lead on from, if it is of a tree.
abbrev pub LeadsNowhere : List code.Organisation.Organisation → List ℕ → ℕ → ℕ → Type 0
LeadsNowhere all x n hops = (top : Organisation) (o : code.Organisation.Organisation) (z : Zone)
    → IsTree top (map seen all) → IsNumber all n o → IsOwn (seen o) x z → length x < length z.prefix + hops + 1 → ⊥
