-- What holds of every request, whichever way it is read and written.
use Rattle.std.specs.Prelude.{ℕ, ◌<◌, ◌≤◌, ◌^◌, ◌≡◌, Bool, List, length, Ok}
use Rattle.std.specs.List.{AllByRecursion}
use Rattle.ddt_path.specs.declared.locator.Locator.{Locator}
use Rattle.ddt_path.specs.declared.xeid.Xeid.{Xeid}
use Rattle.ddt_wire.specs.Address.{IsAddress}
use Rattle.ddt_path.specs.Steps.{IsBytes}
use Rattle.ddt_path.specs.Reader.{AreRead}
use Rattle.ddt_ecm.specs.UdpHeader.{control_port}
use Rattle.ddt_ecm.specs.Request.{Message, Spells, message_in, written}

-- what a request can be written for: numbers in the ranges of their types, and 1 to 32 ITR-RLOCs
pub record IsRequest (nonce : ℕ) (x : Xeid) (rlocs : List Locator) : Type 0 where
  pub nonce_fits : nonce < 2 ^ 64
  pub iid_fits : x.iid < 2 ^ 32
  pub address_fits : IsAddress x.address
  pub some : 1 ≤ length rlocs
  pub few : length rlocs ≤ 32
  pub rlocs_fit : AllByRecursion IsAddress rlocs

-- the message of a request that is written, which comes from the control port
abbrev pub message_of : ℕ → Xeid → List Locator → Bool → Message
message_of n x ls d = record { nonce = n; ddt = d; port = control_port; xeid = x; rlocs = ls }

-- what is spelled is read, and what is read is spelled
abbrev pub RequestsAreRead : Type 0
RequestsAreRead = AreRead IsBytes Spells message_in

-- what is written spells what was to be written
abbrev pub WrittenSpells : Type 0
WrittenSpells = (nonce : ℕ) (x : Xeid) (rlocs : List Locator) (ddt : Bool) → IsRequest nonce x rlocs
    → Spells (written nonce x rlocs ddt) (message_of nonce x rlocs ddt)

-- what is written is read again
abbrev pub WrittenIsRead : Type 0
WrittenIsRead = (nonce : ℕ) (x : Xeid) (rlocs : List Locator) (ddt : Bool) → IsRequest nonce x rlocs
    → message_in (written nonce x rlocs ddt) ≡ Ok (message_of nonce x rlocs ddt)
