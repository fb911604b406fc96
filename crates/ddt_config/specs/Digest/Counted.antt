-- How much a configuration holds.
use Rattle.std.specs.Prelude.{ℕ, ◌-◌, ◌^◌, min, length}
use Rattle.std.specs.List.{sum_by}
use Rattle.ddt_config.specs.declared.authority.Content.{Content}
use Rattle.ddt_config.specs.declared.authority.Content.TheVariants.{Children, Sites}
use Rattle.ddt_config.specs.Table.{Outline}
use Rattle.ddt_config.specs.declared.digest.counts.Counts.{Counts}

-- the greatest count that is given: 4,294,967,295
abbrev pub most_count : ℕ
most_count = 2 ^ 32 - 1

-- how many children, and how many sites, an authority holds
abbrev pub child_count : Content → ℕ
child_count (Children cs) = length cs
child_count (Sites ss) = 0

abbrev pub site_count : Content → ℕ
site_count (Children cs) = 0
site_count (Sites ss) = length ss

-- the counts of a configuration
abbrev pub counts_in : Outline → Counts
counts_in o = record {
  authorities = min (length o.authorities) most_count;
  children = min (sum_by (λ a. child_count a.content) o.authorities) most_count;
  sites = min (sum_by (λ a. site_count a.content) o.authorities) most_count;
}
