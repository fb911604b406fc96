-- What a configuration holds under its prefixes.
use Rattle.std.specs.Prelude.{Bool}
use Rattle.ddt_config.specs.declared.authority.Content.{Content}
use Rattle.ddt_config.specs.declared.authority.Content.TheVariants.{Children, Sites}
use Rattle.ddt_config.specs.Shaped.{have_own_prefixes}

-- no two children, or no two sites, have one prefix
abbrev pub holds_own_prefixes : Content → Bool
holds_own_prefixes (Children cs) = have_own_prefixes (λ c. c.prefix) cs
holds_own_prefixes (Sites ss) = have_own_prefixes (λ s. s.prefix) ss
