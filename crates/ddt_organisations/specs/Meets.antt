-- What an organisation delegates, and which organisations meet: tests of the lists of a register.
use Rattle.std.specs.Prelude.{ℕ, Bool, ◌&&◌, ◌||◌, not, List}
use Rattle.std.specs.List.{list_any, list_all, filter}
use Rattle.std.specs.Ordering.{nat_cmp}
use Rattle.std.specs.Cmp.Lexicographic.{slice_cmp}
use Rattle.std.specs.BTreeSet.{contains}
use Rattle.ddt_path.specs.Covers.{is_strictly_below}
use Rattle.ddt_register.specs.declared.zone.Zone.{Zone}
use Rattle.ddt_check.specs.Rules.{is_root}
use Rattle.ddt_organisations.specs.declared.organisation as code
use Rattle.ddt_organisations.specs.Tree.{Organisation}

-- an organisation as it is handed to a call
abbrev pub seen : code.Organisation.Organisation → Organisation
seen o = record { register = o.register; runs = λ name. contains (slice_cmp nat_cmp) o.groups name }

-- the zones that an organisation runs
abbrev pub own_zones : Organisation → List Zone
own_zones o = filter (λ z. o.runs z.group) o.register.zones

-- a zone that an organisation doesn't run, below one that it does
abbrev pub is_delegated : Organisation → Zone → Bool
is_delegated o z = not (o.runs z.group)
    && list_any (λ y. is_strictly_below z.prefix y.prefix) (own_zones o)

-- the zones that an organisation delegates
abbrev pub delegated_zones : Organisation → List Zone
delegated_zones o = filter (is_delegated o) o.register.zones

-- a zone is inside one that is delegated
abbrev pub is_inside : Organisation → Zone → Bool
is_inside o y = list_any (λ z. is_strictly_below y.prefix z.prefix) (delegated_zones o)

-- some organisation runs the group of a name
abbrev pub is_run_by_some : List code.Organisation.Organisation → List ℕ → Bool
is_run_by_some all name = list_any (λ o. (seen o).runs name) all

-- the root is run
abbrev pub runs_root : Organisation → Bool
runs_root o = list_all (λ z. not (is_root z) || o.runs z.group) o.register.zones

-- one delegates a zone to the servers of the other
abbrev pub meets : Organisation → Organisation → Bool
meets o other = list_any (λ z. other.runs z.group) (delegated_zones o)
