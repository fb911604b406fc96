-- The maps of organisations by which their faults are found.
use Rattle.std.specs.Prelude.{◌≡◌, ◌↔◌, ◌⊎◌, ℕ, true, is_some, slice_get, List, Some, Contains}
use Rattle.std.specs.List.{list_any}
use Rattle.std.specs.FinMap.{FinMap, get}
use Rattle.ddt_path.specs.Covers.{is_same_path}
use Rattle.ddt_register.specs.declared.zone.Zone.{Zone}
use Rattle.ddt_trie.specs.PrefixMap.{path_cmp}
use Rattle.ddt_trie.specs.Trie.{trie_content}
use Rattle.ddt_organisations.specs.declared.organisation as code
use Rattle.ddt_organisations.specs.declared.delegations.Delegations.{Delegations}
use Rattle.ddt_organisations.specs.Tree.{Organisation}
use Rattle.ddt_organisations.specs.Meets.{seen, delegated_zones}

-- the keys are the prefixes of the zones
abbrev pub HasPrefixes : List Zone → FinMap path_cmp ℕ → Type 0
HasPrefixes zones rows = (p : List ℕ) → is_some (get rows p) ≡ list_any (λ z. is_same_path z.prefix p) zones

-- what an organisation delegates
pub record AreDelegations (o : Organisation) (found : Delegations) : Type 0 where
  pub zones : found.zones.items ≡ delegated_zones o
  pub rows : HasPrefixes found.zones.items (trie_content found.rows)

-- the organisation of a number, from 0
abbrev pub IsNumber : List code.Organisation.Organisation → ℕ → code.Organisation.Organisation → Type 0
IsNumber all n o = slice_get all n ≡ Some o

-- each name has the numbers of those that run its group
abbrev pub HaveRunners : List code.Organisation.Organisation → (List ℕ → List ℕ) → Type 0
HaveRunners all numbers = (name : List ℕ) (n : ℕ) → Contains (numbers name) n
    ↔ ((o : code.Organisation.Organisation) × IsNumber all n o × ((seen o).runs name ≡ true))

-- each name has the numbers that it had, and that of an organisation that runs its group
abbrev pub AreRunnersAnd : (List ℕ → List ℕ) → Organisation → ℕ → (List ℕ → List ℕ) → Type 0
AreRunnersAnd before o number numbers = (name : List ℕ) (n : ℕ) → Contains (numbers name) n
    ↔ (Contains (before name) n ⊎ ((n ≡ number) × (o.runs name ≡ true)))
