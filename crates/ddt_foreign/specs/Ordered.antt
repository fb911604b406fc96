-- What the order of locators keeps.
use Rattle.std.specs.Prelude.{ℕ, ◌≤◌, ◌≡◌, ◌⊎◌, true, List, [], ◌∷◌, length, map, Some}
use Rattle.std.specs.List.{AllByRecursion}
use Rattle.ddt_path.specs.declared.locator.Locator.{Locator}
use Rattle.ddt_path.specs.Locators.{most_locators}
use Rattle.ddt_foreign.specs.declared.entry.Entry.{Entry}
use Rattle.ddt_foreign.specs.declared.order.Ranked.{Ranked}
use Rattle.ddt_foreign.specs.Order.{not_used, has_usable, servers_of}

-- a locator of this priority and address was read
abbrev pub IsListed : List Entry → Ranked → Type 0
IsListed [] r = ⊥
IsListed (e ∷ others) r = ((e.priority ≡ r.priority) × (e.address ≡ Some r.address)) ⊎ IsListed others r

-- no priority comes after a higher one
abbrev pub IsRising : List Ranked → Type 0
IsRising [] = Unit {0}
IsRising (r ∷ others) = AllByRecursion (λ s. r.priority ≤ s.priority) others × IsRising others

-- the address is one of the list
abbrev pub IsAmong : List Locator → Locator → Type 0
IsAmong [] a = ⊥
IsAmong (l ∷ others) a = (l ≡ a) ⊎ IsAmong others a

-- it is one of these
abbrev pub IsIn : List Ranked → Ranked → Type 0
IsIn [] r = ⊥
IsIn (s ∷ others) r = (s ≡ r) ⊎ IsIn others r

-- there are so many, and none of a higher priority number than this
abbrev pub IsFull : ℕ → List Ranked → ℕ → Type 0
IsFull n ranked p = (length ranked ≡ n) × AllByRecursion (λ s. s.priority ≤ p) ranked

-- The referral set of locators that were read: at most eight of them, by priority, and none of priority 255 if another
-- is there. A locator that is wanted is given, unless there are eight that are no worse.
pub record IsOrdered (entries : List Entry) : Type 0 where
  pub ranked : List Ranked
  pub are : servers_of entries ≡ map (λ r. r.address) ranked
  pub few : length ranked ≤ most_locators
  pub rising : IsRising ranked
  pub listed : AllByRecursion (IsListed entries) ranked
  pub best : (r : Ranked) → IsListed entries r → (has_usable entries ≡ true → r.priority ≡ not_used → ⊥)
      → IsIn ranked r ⊎ IsFull most_locators ranked r.priority
  pub used : has_usable entries ≡ true → AllByRecursion (λ r. r.priority ≡ not_used → ⊥) ranked

-- every referral set is so
abbrev pub AreOrdered : Type 0
AreOrdered = (entries : List Entry) → IsOrdered entries
