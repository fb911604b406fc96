-- Which sites of an earlier register are gone in a later one.
use Rattle.std.specs.Prelude.{ℕ, ◌*◌, Bool, nat_lt}
use Rattle.std.specs.List.{list_any}
use Rattle.ddt_path.specs.Covers.{is_same_path}
use Rattle.ddt_register.specs.declared.site.Site.{Site}
use Rattle.ddt_register.specs.declared.register.Register.{Register}
use Rattle.ddt_review.specs.declared.warnings.lost_sites.LostSites.{LostSites}

-- a site of the register has the EID-prefix of this one
abbrev pub has_site : Register → Site → Bool
has_site r s = list_any (λ t. is_same_path s.prefix t.prefix) r.sites

-- more than this percentage of all is gone
abbrev pub exceeds : ℕ → LostSites → Bool
exceeds percent lost = nat_lt (lost.all * percent) (lost.gone * 100)
