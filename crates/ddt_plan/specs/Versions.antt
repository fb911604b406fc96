-- The configurations of one group, as they are kept by its name.
use Rattle.std.specs.Prelude.{◌≡◌, ℕ, List, Option, None, Some}
use Rattle.std.specs.Option.{option_map}
use Rattle.std.specs.Ordering.{nat_cmp}
use Rattle.std.specs.Cmp.Lexicographic.{slice_cmp}
use Rattle.std.specs.BTreeMap.{BTreeMap, get}
use Rattle.ddt_register.specs.declared.register.Register.{Register}
use Rattle.ddt_config.specs.declared.config.ServerConfig.{ServerConfig}
use Rattle.ddt_config.specs.Table.{Outline, outline}
use Rattle.ddt_compile.specs.GroupConfig.{config_named}
use Rattle.ddt_plan.specs.declared.versions.Versions.{Versions}
use Rattle.ddt_plan.specs.declared.versions.Versions.TheVariants.{Before, After, Both}
use Rattle.ddt_plan.specs.declared.versions.Which.{Which}
use Rattle.ddt_plan.specs.declared.versions.Which.TheVariants.{Earlier, Later}
use Rattle.ddt_plan.specs.declared.groups.GroupChangeKind.{GroupChangeKind}
use Rattle.ddt_plan.specs.Groups.{change_of_config}

-- the configuration of the earlier register, and that of the later one
abbrev pub earlier : Option Versions → Option Outline
earlier None = None
earlier (Some (Before c)) = Some (outline c)
earlier (Some (After d)) = None
earlier (Some (Both c d)) = Some (outline c)

-- The configuration that the group has in the later register; none where that register lacks the group.
abbrev pub later : Option Versions → Option Outline
later None = None
later (Some (Before c)) = None
later (Some (After d)) = Some (outline d)
later (Some (Both c d)) = Some (outline d)

-- how the configuration changes, if it does
abbrev pub kind_of : Versions → Option GroupChangeKind
kind_of versions = change_of_config (earlier (Some versions)) (later (Some versions))

-- a configuration beside what is there, of which the first of a register stays
abbrev pub joined : Which → Option Versions → ServerConfig → Versions
joined Earlier None c = Before c
joined Later None d = After d
joined Later (Some (Before c)) d = Both c d
joined Earlier (Some (Before c)) d = Before c
joined which (Some (After c)) d = After c
joined which (Some (Both c e)) d = Both c e

-- the same where there may be none
abbrev pub joined_if : Which → Option Versions → Option ServerConfig → Option Versions
joined_if which known None = known
joined_if which known (Some c) = Some (joined which known c)

-- the configuration of each group of a register was put to what was there by the group's name
abbrev pub HasPut : Which → Register → BTreeMap (List ℕ) Versions → BTreeMap (List ℕ) Versions → Type 0
HasPut which r before after =
    (name : List ℕ) → (config : Option ServerConfig) × (option_map outline config ≡ config_named r name)
    × (get (slice_cmp nat_cmp) after name ≡ joined_if which (get (slice_cmp nat_cmp) before name) config)

-- the configurations of each group of two registers, by its name
pub record AreVersions (r s : Register) (versions : BTreeMap (List ℕ) Versions) : Type 0 where
  pub before : (name : List ℕ) → earlier (get (slice_cmp nat_cmp) versions name) ≡ config_named r name
  pub after : (name : List ℕ) → later (get (slice_cmp nat_cmp) versions name) ≡ config_named s name
