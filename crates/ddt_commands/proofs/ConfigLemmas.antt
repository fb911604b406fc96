-- The configuration of the group of a name.
use Rattle.std.proofs.Common.{◌≡◌, ℕ, List, Option, Some, None, Result, Ok, Err, IfOk, refl, MatchOption}
use Rattle.std.specs.Prelude.{IfSome}
use Rattle.std.specs.declared.alloc.AllocError.{AllocError}
use Rattle.std.specs.Option.{option_map}
use Rattle.ddt_register.specs.declared.register.Register.{Register}
use Rattle.ddt_check.specs.Zones.{group_named}
use Rattle.ddt_config.specs.declared.config.ServerConfig.{ServerConfig}
use Rattle.ddt_config.specs.Table.{outline}
use Rattle.ddt_compile.specs.GroupConfig.{config_named}
use Rattle.ddt_compile.specs.laws.Statements.{IsHonestConfig, HasRoom}
use Rattle.ddt_compile.specs.laws.Named.{config_of, no_config}
use Rattle.ddt_commands.specs.Commands.Answer.{IsConfigOfGroup}

-- what is found for a name is its group's configuration
pub chosen : (r : Register) (name : List ℕ) (found : Option ServerConfig) → option_map outline found ≡ config_named r name
    → IfSome found (λ (c : ServerConfig). IsHonestConfig r (outline c)) → IfSome found (λ (c : ServerConfig). HasRoom (outline c))
    → MatchOption found (group_named r name ≡ None) (λ (c : ServerConfig). IsConfigOfGroup r name c)
chosen r name None e honest room = no_config r name None refl e
chosen r name (Some c) e honest room = let k = config_of r name c e in (k.0, k.1, k.2, honest, room)

pub chosen_or_refused : (r : Register) (name : List ℕ) (result : Result (Option ServerConfig) AllocError) → IfOk result (λ found. option_map outline found ≡ config_named r name)
    → IfOk result (λ found. IfSome found (λ (c : ServerConfig). IsHonestConfig r (outline c))) → IfOk result (λ found. IfSome found (λ (c : ServerConfig). HasRoom (outline c)))
    → IfOk result (λ found. MatchOption found (group_named r name ≡ None) (λ (c : ServerConfig). IsConfigOfGroup r name c))
chosen_or_refused r name (Ok found) e honest room = chosen r name found e honest room
chosen_or_refused r name (Err refused) e honest room = tt
