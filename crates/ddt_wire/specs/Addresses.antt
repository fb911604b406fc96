-- Addresses one after the other, each behind its AFI and so many ignored bytes before that (RFC 9301): the locators of
-- a record, each behind 6 bytes (section 5.4), and the ITR-RLOCs of a Map-Request, behind none (section 5.2).
use Rattle.std.specs.Prelude.{ℕ, zero, suc, ◌+◌, ◌≡◌, nat_lt, if◌then◌else◌, List, [], ◌∷◌, ◌++◌, length, drop, Result, Ok, Err}
use Rattle.ddt_path.specs.declared.locator.Locator.{Locator}
use Rattle.ddt_wire.specs.declared.address.AddressFault.{AddressFault}
use Rattle.ddt_wire.specs.declared.address.AddressFault.TheVariants.{Short}
use Rattle.ddt_path.specs.Steps.{◌>>=◌, IsBytes}
use Rattle.ddt_wire.specs.Address.{family_and_address, IsAddress, address_at}

-- ---- what spells addresses

-- these bytes spell an address, behind so many ignored bytes
pub record SpellsBehind (before : ℕ) (bytes : List ℕ) (a : Locator) : Type 0 where
  pub ignored : List ℕ
  pub count : length ignored ≡ before
  pub are_bytes : IsBytes ignored
  pub fits : IsAddress a
  pub whole : bytes ≡ ignored ++ family_and_address a

-- these bytes spell addresses, one after the other
abbrev pub SpellsAddresses : ℕ → List ℕ → List Locator → Type 0
SpellsAddresses before bytes [] = bytes ≡ []
SpellsAddresses before bytes (a ∷ ls) = (front : List ℕ) × (rest : List ℕ) × SpellsBehind before front a
    × SpellsAddresses before rest ls × (bytes ≡ front ++ rest)

-- ---- what is written

-- an address behind these bytes
abbrev pub written_behind : List ℕ → Locator → List ℕ
written_behind before a = before ++ family_and_address a

-- ---- the first fault

-- the address at the front behind so many ignored bytes, and how many bytes it takes with these
unfoldable pub behind_at : ℕ → List ℕ → Result (Locator × ℕ) AddressFault
behind_at before bytes =
    if nat_lt (length bytes) before then Err Short
    else (address_at (drop before bytes) >>= λ a. Ok (a.0, before + a.1))

-- so many addresses from the front, and the bytes after them
unfoldable pub addresses_at : ℕ → ℕ → List ℕ → Result (List Locator × List ℕ) AddressFault
addresses_at before zero bytes = Ok ([], bytes)
addresses_at before (suc n) bytes = do
  first ← behind_at before bytes
  others ← addresses_at before n (drop first.1 bytes)
  Ok (first.0 ∷ others.0, others.1)

-- these bytes stand after so many addresses
abbrev pub StandsAfter : ℕ → ℕ → List ℕ → List ℕ → Type 0
StandsAfter before n bytes rest = (addresses : List Locator) × (addresses_at before n bytes ≡ Ok (addresses, rest))

-- the addresses that were read
abbrev pub read_addresses : Result (List Locator × List ℕ) AddressFault → List Locator
read_addresses (Ok x) = x.0
read_addresses (Err e) = []

-- the addresses of bytes that have so many
abbrev pub addresses_in : ℕ → ℕ → List ℕ → List Locator
addresses_in before n bytes = read_addresses (addresses_at before n bytes)
