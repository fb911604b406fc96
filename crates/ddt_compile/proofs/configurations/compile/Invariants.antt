use Rattle.std.proofs.Common.{◌≡◌, map, take}
use Rattle.std.specs.Prelude.{⊤}
use Rattle.ddt_register.specs.declared.group.Group.{Group}
use Rattle.ddt_config.specs.Table.{outline}
use Rattle.ddt_compile.specs.GroupConfig.{group_config, authorities_of}
use Rattle.ddt_compile.proofs.ListLemmas.{AreLeft}
use Rattle.ddt_compile.proofs.configurations.compile.Given as goal

-- the lists of the groups that are left are whole
abbrev pub invariant-loop-group : goal.invariant-loop-group
invariant-loop-group l =
    (map outline l.configs.items ≡ map (group_config l.accepted) (take l.group-index l.accepted.groups))
    × AreLeft (λ (g : Group). g.name) (authorities_of l.accepted) (λ g. ⊤) l.accepted.groups l.group-index l.authorities
