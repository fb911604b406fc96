-- The configuration of the group of a name.
use Rattle.std.proofs.Common.{◌≡◌, ℕ, List, Option, Some, None, refl}
use Rattle.std.specs.Option.{option_map}
use Rattle.std.proofs.lemmas.Option.{same_Some}
use Rattle.ddt_register.specs.declared.group.Group.{Group}
use Rattle.ddt_register.specs.declared.register.Register.{Register}
use Rattle.ddt_check.specs.Zones.{group_named}
use Rattle.ddt_config.specs.declared.config.ServerConfig.{ServerConfig}
use Rattle.ddt_config.specs.Table.{Outline, outline}
use Rattle.ddt_compile.specs.GroupConfig.{group_config, config_named}

-- a group of this name, of which c is the configuration
abbrev pub IsConfigOf : Register → List ℕ → ServerConfig → Type 0
IsConfigOf r name c = (g : Group) × (group_named r name ≡ Some g) × (outline c ≡ group_config r g)

found_case : (r : Register) (c : ServerConfig) (named : Option Group) → Some (outline c) ≡ option_map (group_config r) named → (g : Group) × (named ≡ Some g) × (outline c ≡ group_config r g)
found_case r c None e = absurd cc
found_case r c (Some g) e = (g, refl, same_Some (outline c) (group_config r g) e)

pub config_of : (r : Register) (name : List ℕ) (c : ServerConfig) → Some (outline c) ≡ config_named r name → IsConfigOf r name c
config_of r name c e = found_case r c (group_named r name) e

missing_case : (r : Register) (named : Option Group) (nothing : Option Outline) → nothing ≡ None → nothing ≡ option_map (group_config r) named → named ≡ None
missing_case r None nothing is e = refl
missing_case r (Some g) nothing is e = absurd (cc (is, e))

-- no group has the name where there is no configuration
pub no_config : (r : Register) (name : List ℕ) (nothing : Option Outline) → nothing ≡ None → nothing ≡ config_named r name → group_named r name ≡ None
no_config r name nothing is e = missing_case r (group_named r name) nothing is e
