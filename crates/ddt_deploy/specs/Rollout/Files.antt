-- The files of the configurations at a stage.
use Rattle.std.specs.Prelude.{◌≡◌, List, [], ◌∷◌, map}
use Rattle.ddt_register.specs.declared.register.Register.{Register}
use Rattle.ddt_config.specs.declared.config.ServerConfig.{ServerConfig}
use Rattle.ddt_config.specs.Table.{outline}
use Rattle.ddt_deploy.specs.Folders.Wanted.{IsOrderedConfigText}
use Rattle.ddt_deploy.specs.declared.rollout.files.ConfigFile.{ConfigFile}
use Rattle.ddt_deploy.specs.declared.rollout.stage.Stage.{Stage}
use Rattle.ddt_deploy.specs.Rollout.Configurations.{AreConfigurationsAt}

-- a text in TOML of a group's configuration, in the order of prefixes, with its seal
abbrev pub IsFileOf : ServerConfig → ConfigFile → Type 0
IsFileOf c file = (file.group ≡ c.name) × IsOrderedConfigText (outline c) file.bytes.items

-- the files of these configurations, one after the other
abbrev pub AreFilesOf : List ServerConfig → List ConfigFile → Type 0
AreFilesOf [] [] = Unit {0}
AreFilesOf (c ∷ cs) (file ∷ files) = IsFileOf c file × AreFilesOf cs files
AreFilesOf [] (file ∷ files) = ⊥
AreFilesOf (c ∷ cs) [] = ⊥

-- the files of the configurations of all groups at a stage, in the order of the groups' names
abbrev pub AreFilesAt : Register → Register → Stage → List ConfigFile → Type 0
AreFilesAt before after stage files = (configs : List ServerConfig)
    × AreConfigurationsAt before after stage (map outline configs) × AreFilesOf configs files
