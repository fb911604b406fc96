-- What holds of foreign Map-Requests: beside the core's reader, with the bit D set, and of what is looked up.
use Rattle.std.specs.Prelude.{ℕ, ◌/◌, ◌%◌, ◌≡◌, ◌==◌, ◌≤◌, Bool, true, List, ◌∷◌, length, drop, Result, Ok, Err}
use Rattle.ddt_path.specs.declared.xeid.Xeid.{Xeid}
use Rattle.ddt_path.specs.Covers.{covers}
use Rattle.ddt_path.specs.Path.{xeid_path, are_zero}
use Rattle.ddt_ecm.specs.EcmHeader.{s_place, d_place}
use Rattle.ddt_ecm.specs.Request.{Message, message_in}
use Rattle.ddt_foreign.specs.declared.fault.ForeignRequestFault.{ForeignRequestFault}
use Rattle.ddt_foreign.specs.Request.{Asked, request_in}

-- a request says what a message of the core says, and its EID-prefix is the single identifier
pub record IsSame (v : Asked) (m : Message) : Type 0 where
  pub nonce : v.nonce ≡ m.nonce
  pub ddt : v.ddt ≡ m.ddt
  pub port : v.port ≡ m.port
  pub prefix : v.prefix ≡ xeid_path m.xeid
  pub xeid : v.xeid ≡ m.xeid
  pub rlocs : v.rlocs ≡ m.rlocs

-- what the core reads is read here too
abbrev pub RequestsStay : Type 0
RequestsStay =
    (bytes : List ℕ) (m : Message) → message_in bytes ≡ Ok m → (v : Asked) × (request_in bytes ≡ Ok v) × IsSame v m

-- the same request, or the same fault, with this bit D
abbrev pub with_ddt : Bool → Result Asked ForeignRequestFault → Result Asked ForeignRequestFault
with_ddt d (Ok v) = Ok (record v { ddt = d })
with_ddt d (Err e) = Err e

-- what else is in the first byte after the bit S, as the bit D, changes nothing but the bit D of what is read
abbrev pub OnlyDdtChanges : Type 0
OnlyDdtChanges =
    (b c : ℕ) (rest : List ℕ) → c / s_place ≡ b / s_place
    → request_in (c ∷ rest) ≡ with_ddt (c / d_place % 2 == 1) (request_in (b ∷ rest))

-- an identifier is the first address of a prefix: it is covered, and all further digits are 0
pub record IsFirst (p : List ℕ) (x : Xeid) : Type 0 where
  pub is_covered : covers p (xeid_path x) ≡ true
  pub zero : are_zero (drop (length p) (xeid_path x)) ≡ true

-- the first address of the EID-prefix is looked up
abbrev pub FirstIsLookedUp : Type 0
FirstIsLookedUp = (bytes : List ℕ) (v : Asked) → request_in bytes ≡ Ok v → IsFirst v.prefix v.xeid

-- there are 1 to 32 known ITR-RLOCs
abbrev pub RlocsAreFew : Type 0
RlocsAreFew = (bytes : List ℕ) (v : Asked) → request_in bytes ≡ Ok v → (1 ≤ length v.rlocs) × (length v.rlocs ≤ 32)
