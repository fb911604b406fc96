-- The servers of a compiled register: one for each group, with the group's configuration.
use Rattle.std.specs.Prelude.{◌≡◌, ℕ, List, map, find, Option}
use Rattle.std.specs.Prelude.{option_and_then}
use Rattle.ddt_path.specs.declared.locator.Locator.{Locator}
use Rattle.ddt_path.specs.Locators.{lists}
use Rattle.ddt_register.specs.declared.register.Register.{Register}
use Rattle.ddt_check.specs.Rules.{IsAccepted}
use Rattle.ddt_config.specs.Table.{Outline}
use Rattle.ddt_compile.specs.GroupConfig.{group_config}
use Rattle.ddt_node.specs.Server.{handled}

-- the configurations of all groups, in the order of their rows
abbrev pub configs_of : Register → List Outline
configs_of r = map (group_config r) r.groups

-- servers made of an accepted register
abbrev pub AreCompiled : List Outline → Register → Type 0
AreCompiled servers r = IsAccepted r × (servers ≡ configs_of r)

-- the server at a locator: the first that lists it
abbrev pub server_at : List Outline → Locator → Option Outline
server_at servers l = find (λ c. lists c.locators l) servers

-- what the server at a locator replies to a datagram
abbrev pub reply_at : List Outline → Locator → List ℕ → Option (List ℕ)
reply_at servers l bytes = option_and_then (λ c. (handled c bytes).reply) (server_at servers l)
