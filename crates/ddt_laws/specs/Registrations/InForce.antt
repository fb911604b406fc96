-- The register in force: the operator's, in which each keyed site has the ETRs in force (RFC 9301, section 5.6).
use Rattle.std.specs.Prelude.{ℕ, ◌≡◌, true, List, [], ◌∷◌, map}
use Rattle.std.specs.List.{list_all}
use Rattle.std.proofs.lemmas.Bool.{and_parts}
use Rattle.ddt_path.specs.declared.locator.Locator.{Locator}
use Rattle.ddt_register.specs.declared.register.Register.{Register}
use Rattle.ddt_register.specs.Ranges.{are_locators}
use Rattle.ddt_registrar.specs.State.{Site as Keyed}
use Rattle.ddt_registrar.specs.Taking.{etrs_in_force}
use Rattle.ddt_laws.specs.Registrations.Ranges.{is_keyed_in_range, are_keyed_in_range}
use Rattle.ddt_laws.specs.Registrations.EtrLemmas.{in_force_fit}
use Rattle.ddt_laws.specs.Registrations.RegisterLemmas.{row_with, rows_stay, range_stays}

-- one register is another in which the site of this prefix has these ETRs
pub record HasEtrs (p : List ℕ) (e : List Locator) (r s : Register) : Type 0 where
  pub zones : s.zones ≡ r.zones
  pub groups : s.groups ≡ r.groups
  pub sites : s.sites ≡ map (row_with p e) r.sites

-- the register in which the site of this prefix has these ETRs
abbrev pub register_with : (p : List ℕ) (e : List Locator) → are_locators e ≡ true → Register → Register
register_with p e fit r = record {
  zones = r.zones;
  sites = map (row_with p e) r.sites;
  groups = r.groups;
  rows = rows_stay p e r;
  in_range = range_stays p e fit r;
}

-- the register in force: each site that has keys has the ETRs in force
abbrev pub register_in_force : (keyed : List Keyed) → are_keyed_in_range keyed ≡ true → Register → Register
register_in_force [] fit r = r
register_in_force (k ∷ others) fit r =
    let parts = and_parts (is_keyed_in_range k) (list_all is_keyed_in_range others) fit in
    register_in_force others parts.1 (register_with k.prefix (etrs_in_force k) (in_force_fit k parts.0) r)
