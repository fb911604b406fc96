-- The locators of a record (RFC 9301, section 5.4): addresses, each behind 6 bytes for priority, weight, multicast
-- priority and weight, and flags.
use Rattle.std.specs.Prelude.{ℕ, List, [], ◌∷◌, ◌++◌, Result}
use Rattle.std.specs.Int.{w16, to_be_bytes}
use Rattle.ddt_path.specs.declared.locator.Locator.{Locator}
use Rattle.ddt_wire.specs.declared.address.AddressFault.{AddressFault}
use Rattle.ddt_wire.specs.declared.address.AddressFault.TheVariants as address_fault
use Rattle.ddt_wire.specs.declared.fault.ReferralFault.{ReferralFault}
use Rattle.ddt_wire.specs.declared.fault.ReferralFault.TheVariants.{Short, LocatorFamily}
use Rattle.ddt_path.specs.Steps.{in_words}
use Rattle.ddt_wire.specs.Addresses.{SpellsAddresses, written_behind, addresses_at}

-- these bytes spell locators, one after the other; all but AFI and address is ignored
abbrev pub SpellsLocators : List ℕ → List Locator → Type 0
SpellsLocators = SpellsAddresses 6

-- the one spelling that is written: priority 1, weight 100, multicast priority 255 and weight 0, the flag R
abbrev pub before_written : List ℕ
before_written = (1 ∷ 100 ∷ 255 ∷ 0 ∷ []) ++ to_be_bytes w16 1

-- a locator as it is written: 6 bytes of priorities, weights and flags, then its AFI and its address
abbrev pub written_locator : Locator → List ℕ
written_locator = written_behind before_written

-- a fault of a locator's address as one of the Map-Referral: Short or LocatorFamily
abbrev pub from_address : AddressFault → ReferralFault
from_address address_fault.Short = Short
from_address address_fault.Family = LocatorFamily

-- as many locators as the record's locator count says, and the bytes after them; or the first fault: one is cut, or
-- its AFI is neither IPv4's nor IPv6's
abbrev pub locators_at : ℕ → List ℕ → Result (List Locator × List ℕ) ReferralFault
locators_at n bytes = in_words from_address (addresses_at 6 n bytes)
