-- The order of sites, by which neighbours are found.
use Rattle.std.specs.Prelude.{List}
use Rattle.ddt_register.specs.declared.site.Site.{Site}
use Rattle.ddt_check.specs.Order.{IsInOrder}

-- Sites by the digits of their prefixes, then by row: a site sorts before the sites inside it.
abbrev pub AreSitesInOrder : List Site → Type 0
AreSitesInOrder sites = IsInOrder (λ s. s.prefix) (λ s. s.row) sites
