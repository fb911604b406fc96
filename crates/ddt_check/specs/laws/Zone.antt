-- The prefixes of zones and sites, and the assignment of an identifier by its zone.
use Rattle.std.proofs.Common.{◌≡◌, ℕ, List, [], Option, Some, ap}
use Rattle.std.specs.Option.{option_map_or}
use Rattle.ddt_path.specs.declared.record.Outcome.TheVariants.{Hole}
use Rattle.ddt_register.specs.declared.zone.Zone.{Zone}
use Rattle.ddt_register.specs.declared.site.Site.{Site}
use Rattle.ddt_register.specs.declared.register.Register.{Register}
use Rattle.ddt_check.specs.Zones.{zone_of}
use Rattle.ddt_check.specs.Assignment.{assignment, assigned_in}

abbrev pub zone_prefix : Zone → List ℕ
zone_prefix z = z.prefix

abbrev pub site_prefix : Site → List ℕ
site_prefix s = s.prefix

pub assigned_at : (r : Register) (x : List ℕ) (z : Zone) → zone_of r x ≡ Some z → assignment r x ≡ assigned_in r z z.kind x
assigned_at r x z e = ap (λ (found : Option Zone). option_map_or (λ (w : Zone). assigned_in r w w.kind x) found (Hole [])) e
