-- Whether an ITR sees what comes of its question.
use Rattle.std.specs.Prelude.{ℕ, Bool, true, false, List, [], ◌∷◌, Option, Some, None}
use Rattle.std.specs.Cmp.Lexicographic.{pointwise}
use Rattle.std.specs.Option.{option_map_or}
use Rattle.ddt_path.specs.declared.locator.Locator.{Locator}
use Rattle.ddt_path.specs.declared.record.Outcome.{Outcome}
use Rattle.ddt_path.specs.declared.record.Outcome.TheVariants.{Registered, NotRegistered, Hole}
use Rattle.ddt_path.specs.Locators.{is_same_locator}
use Rattle.ddt_register.specs.declared.register.Register.{Register}
use Rattle.ddt_check.specs.Zones.{site_of}
use Rattle.ddt_check.specs.Assignment.{assignment}

-- the ETRs are this one alone
abbrev pub is_only_etr : List Locator → Option Locator → Bool
is_only_etr etrs (Some etr) = pointwise is_same_locator etrs (etr ∷ [])
is_only_etr etrs None = false

-- the site of an identifier has this ETR alone
abbrev pub has_only : Register → Option Locator → List ℕ → Bool
has_only r etr x = option_map_or (λ s. is_only_etr s.etrs etr) (site_of r x) false

-- Of a registered site an ITR's request goes to an ETR, where it is seen if that is the only one; elsewhere a negative
-- Map-Reply comes to the ITR.
abbrev pub is_seen_of : Register → Option Locator → List ℕ → Outcome → Bool
is_seen_of r etr x (Registered prefix servers) = has_only r etr x
is_seen_of r etr x (NotRegistered prefix servers) = true
is_seen_of r etr x (Hole prefix) = true

abbrev pub can_be_seen : Register → Option Locator → List ℕ → Bool
can_be_seen r etr x = is_seen_of r etr x (assignment r x)
