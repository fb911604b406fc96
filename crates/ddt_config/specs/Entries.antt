-- What a configuration lists: the prefixes in an authority, and how many entries there are in all.
use Rattle.std.specs.Prelude.{ℕ, ◌+◌, List, length, map}
use Rattle.std.specs.List.{sum_by}
use Rattle.ddt_config.specs.declared.authority.Content.{Content}
use Rattle.ddt_config.specs.declared.authority.Content.TheVariants.{Children, Sites}
use Rattle.ddt_config.specs.declared.authority.Authority.{Authority}
use Rattle.ddt_config.specs.Table.{Outline}

-- the prefixes of what an authority holds
abbrev pub prefixes_in : Content → List (List ℕ)
prefixes_in (Children cs) = map (λ c. c.prefix) cs
prefixes_in (Sites ss) = map (λ s. s.prefix) ss

-- How many children an authority of a DDT node has, or how many sites that of a Map-Server.
abbrev pub count_in : Authority → ℕ
count_in a = length (prefixes_in a.content)

-- how many authorities, children and sites a configuration has in all
abbrev pub entry_count : Outline → ℕ
entry_count c = length c.authorities + sum_by count_in c.authorities
