-- What registrations leave of a register, and so of all that is proved of accepted registers.
use Rattle.std.specs.Prelude.{ℕ, ◌≡◌, ◌≤◌, true, false, List, map, length, Some, slice_get, Contains}
use Rattle.std.specs.List.{list_any}
use Rattle.std.specs.Option.{option_map}
use Rattle.ddt_path.specs.declared.locator.Locator.{Locator}
use Rattle.ddt_path.specs.Covers.{is_same_path}
use Rattle.ddt_path.specs.Locators.{most_locators}
use Rattle.ddt_register.specs.declared.site.Site.{Site}
use Rattle.ddt_register.specs.declared.register.Register.{Register}
use Rattle.ddt_check.specs.Rules.{IsAccepted}
use Rattle.ddt_check.specs.Zones.{roots}
use Rattle.ddt_compile.specs.GroupConfig.{config_named}
use Rattle.ddt_config.specs.Shaped.{have_own_prefixes}
use Rattle.ddt_node.specs.Etrs.{with_etrs}
use Rattle.ddt_registrar.specs.State.{Site as Keyed}
use Rattle.ddt_registrar.specs.Taking.{etrs_in_force, in_force}
use Rattle.ddt_laws.specs.Registrations.Ranges.{are_keyed_in_range}
use Rattle.ddt_laws.specs.Registrations.InForce.{HasEtrs, register_in_force}

-- The configurations of a register in which a site has other ETRs are those of the register, with these ETRs.
abbrev pub EtrsAreCompiled : Type 0
EtrsAreCompiled = (p : List ℕ) (e : List Locator) (r s : Register) → HasEtrs p e r s
    → (name : List ℕ) → config_named s name ≡ option_map (with_etrs p e) (config_named r name)

-- A register is accepted where it is an accepted one in which a site has other ETRs, eight at most.
abbrev pub OtherEtrsAreAccepted : Type 0
OtherEtrsAreAccepted = (p : List ℕ) (e : List Locator) (r s : Register) → HasEtrs p e r s
    → length e ≤ most_locators → IsAccepted r → IsAccepted s

-- One register differs from another in the ETRs of keyed sites alone, and these are the ETRs in force. It is accepted,
-- and its configurations are those of the other in force.
pub record IsInForce (keyed : List Keyed) (r s : Register) : Type 0 where
  pub accepted : IsAccepted s
  pub zones : s.zones ≡ r.zones
  pub groups : s.groups ≡ r.groups
  pub same_roots : roots s ≡ roots r
  pub prefixes : map (λ x. x.prefix) s.sites ≡ map (λ x. x.prefix) r.sites
  pub rows : map (λ x. x.row) s.sites ≡ map (λ x. x.row) r.sites
  pub others : (n : ℕ) (x : Site) → slice_get r.sites n ≡ Some x
      → list_any (λ k. is_same_path x.prefix k.prefix) keyed ≡ false → slice_get s.sites n ≡ Some x
  pub with_keys : (n : ℕ) (x : Site) (k : Keyed) → have_own_prefixes (λ k. k.prefix) keyed ≡ true → Contains keyed k
      → slice_get r.sites n ≡ Some x → x.prefix ≡ k.prefix
      → slice_get s.sites n ≡ Some (record { prefix = x.prefix; etrs = etrs_in_force k; row = x.row })
  pub configs : (name : List ℕ) → config_named s name ≡ option_map (in_force keyed) (config_named r name)

-- Whatever is registered, some accepted register is in force, and so all that is proved of accepted registers holds of
-- it: the register differs from the operator's in the ETRs of keyed sites alone.
abbrev pub SomeRegisterIsInForce : Type 0
SomeRegisterIsInForce = (keyed : List Keyed) (fit : are_keyed_in_range keyed ≡ true) (r : Register) → IsAccepted r
    → IsInForce keyed r (register_in_force keyed fit r)
