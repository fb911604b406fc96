use Rattle.ddt_register.specs.laws.Range.{zone_prefixes, site_prefixes}
use Rattle.ddt_register.proofs.laws.a_register_is_in_range.Goals as goal

pub returns-clause-items : goal.returns-clause-items
returns-clause-items c = λ r. r.in_range

pub returns-clause-zones : goal.returns-clause-zones
returns-clause-zones c = λ r. zone_prefixes r

pub returns-clause-sites : goal.returns-clause-sites
returns-clause-sites c = λ r. site_prefixes r
