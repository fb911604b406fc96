-- The zones of a register in the order of their prefixes, and the locators of its groups by their names.
use Rattle.std.specs.Prelude.{◌≡◌, ℕ, ◌<◌, ◌≤◌, Bool, true, false, List, length, slice_index_or, IsPermutation}
use Rattle.std.specs.Option.{option_map}
use Rattle.std.specs.Ordering.{nat_cmp}
use Rattle.std.specs.Cmp.Lexicographic.{slice_cmp}
use Rattle.std.specs.BTreeMap.{BTreeMap, get}
use Rattle.ddt_path.specs.declared.locator.Locator.{Locator}
use Rattle.ddt_path.specs.Covers.{covers}
use Rattle.ddt_register.specs.declared.zone.Zone.{Zone}
use Rattle.ddt_register.specs.declared.register.Register.{Register}
use Rattle.ddt_check.specs.Rules.{IsAccepted}
use Rattle.ddt_check.specs.Zones.{group_named}
use Rattle.ddt_check.specs.Order.{AreZonesInOrder}

-- the zones of an accepted register, by prefix and row
abbrev pub AreSortedOf : Register → List Zone → Type 0
AreSortedOf r zones = IsAccepted r × IsPermutation r.zones zones × AreZonesInOrder zones

-- whether the zone at one place covers that at another
abbrev pub covers_at : List Zone → ℕ → ℕ → Zone → Bool
covers_at zones at k d = covers (slice_index_or zones at d).prefix (slice_index_or zones k d).prefix

-- what the zone at a place covers is consecutive up to an end: each zone from there to the end, and none after it
abbrev pub IsEndOf : List Zone → ℕ → ℕ → Type 0
IsEndOf zones at end =
    (at < end) × (end ≤ length zones)
    × ((k : ℕ) (d : Zone) → at < k → k < end → covers_at zones at k d ≡ true)
    × ((k : ℕ) (d : Zone) → end ≤ k → k < length zones → covers_at zones at k d ≡ false)

-- the locators of each group, by its name
abbrev pub HasLocatorsOf : BTreeMap (List ℕ) (List Locator) → Register → Type 0
HasLocatorsOf sets r = (name : List ℕ) → get (slice_cmp nat_cmp) sets name ≡ option_map (λ g. g.locators)
    (group_named r name)
