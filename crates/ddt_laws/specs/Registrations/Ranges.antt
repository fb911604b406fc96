-- Whether the numbers of a keyed site are in the ranges of their types: its ETRs are locators, and its configuration
-- names eight at most. Every keyed site passes.
use Rattle.std.specs.Prelude.{Bool, ◌&&◌, List, map}
use Rattle.std.specs.List.{list_all}
use Rattle.ddt_foreign.specs.declared.order.Ranked.{Ranked}
use Rattle.ddt_register.specs.Ranges.{are_locators}
use Rattle.ddt_config.specs.Shaped.{fits}
use Rattle.ddt_registrar.specs.State.{Site}

-- each address has at most the digits of its family
abbrev pub are_ranked : List Ranked → Bool
are_ranked etrs = are_locators (map (λ e. e.address) etrs)

-- those of its configuration are eight locators at most, and all that are registered are locators
abbrev pub is_keyed_in_range : Site → Bool
is_keyed_in_range s = fits s.configured && (are_locators s.configured && list_all (λ g. are_ranked g.etrs) s.live)

-- the same of all
abbrev pub are_keyed_in_range : List Site → Bool
are_keyed_in_range sites = list_all is_keyed_in_range sites
