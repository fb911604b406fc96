-- Which of a record's locators are taken, and in which order (RFC 9301, section 5.4: of priority 255 none is to be
-- used, and a lower priority is preferred).
use Rattle.std.specs.Prelude.{ℕ, suc, ◌==◌, ◌&&◌, ◌||◌, Bool, false, not, nat_lt, if◌then◌else◌, List, [], ◌∷◌, insert, map, take, Option, Some, None}
use Rattle.ddt_path.specs.declared.locator.Locator.{Locator}
use Rattle.ddt_path.specs.Locators.{most_locators}
use Rattle.ddt_foreign.specs.declared.entry.Entry.{Entry}
use Rattle.ddt_foreign.specs.declared.order.Ranked.{Ranked}

-- the priority of a locator that isn't to be used
abbrev pub not_used : ℕ
not_used = 255

-- a locator that is to be used
abbrev pub is_used : Ranked → Bool
is_used r = not (r.priority == not_used)

-- the same of a locator whose address may be unknown
abbrev pub is_usable : ℕ → Option Locator → Bool
is_usable priority (Some a) = not (priority == not_used)
is_usable priority None = false

-- some locator has an address and is to be used
abbrev pub has_usable : List Entry → Bool
has_usable [] = false
has_usable (e ∷ others) = is_usable e.priority e.address || has_usable others

-- how many locators at the front come before one of this priority that is read later
abbrev pub place_of : ℕ → List Ranked → ℕ
place_of priority [] = 0
place_of priority (r ∷ ranked) = if nat_lt priority r.priority then 0 else suc (place_of priority ranked)

-- one more locator, after those of its priority; of all only the first eight
abbrev pub placed : Ranked → List Ranked → List Ranked
placed r ranked = take most_locators (insert ranked (place_of r.priority ranked) r)

-- a locator more, if its address is known and it is wanted
abbrev pub with_address : Bool → ℕ → Option Locator → List Ranked → List Ranked
with_address usable priority_ None ranked = ranked
with_address usable priority_ (Some a) ranked =
    if usable && priority_ == not_used then ranked else placed (record { priority = priority_; address = a }) ranked

-- all these locators more
abbrev pub all_placed : Bool → List Entry → List Ranked → List Ranked
all_placed usable [] ranked = ranked
all_placed usable (e ∷ others) ranked = all_placed usable others (with_address usable e.priority e.address ranked)

-- the referral set: by priority, first come first in each, at most eight; those of priority 255 only where there is no
-- other
abbrev pub servers_of : List Entry → List Locator
servers_of entries = map (λ r. r.address) (all_placed (has_usable entries) entries [])
