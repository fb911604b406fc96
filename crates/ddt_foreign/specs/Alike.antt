-- When the foreign reader and the core's reader say the same of bytes.
use Rattle.std.specs.Prelude.{ℕ, ◌≡◌, ◌≤◌, true, false, List, [], ◌∷◌, Some, Ok}
use Rattle.std.specs.List.{AllByRecursion}
use Rattle.ddt_path.specs.declared.locator.Locator.{Locator}
use Rattle.ddt_path.specs.declared.record.ReferralRecord.{ReferralRecord}
use Rattle.ddt_path.specs.declared.xeid.Xeid.{Xeid}
use Rattle.ddt_path.specs.Covers.{covers}
use Rattle.ddt_path.specs.Path.{xeid_path}
use Rattle.ddt_wire.specs.Referral.{Message, message_in, message_record}
use Rattle.ddt_foreign.specs.declared.entry.Entry.{Entry}
use Rattle.ddt_foreign.specs.Record.{Foreign}
use Rattle.ddt_foreign.specs.Plain.{foreign_in, nonce_of, is_incomplete, action_in, capped, plain_in}
use Rattle.ddt_foreign.specs.Ordered.{IsAmong}

-- these locators have these addresses, in order
abbrev pub Have : List Entry → List Locator → Type 0
Have [] [] = Unit {0}
Have [] (l ∷ ls) = ⊥
Have (e ∷ es) [] = ⊥
Have (e ∷ es) (l ∷ ls) = (e.address ≡ Some l) × Have es ls

-- all have one priority
abbrev pub HaveOne : List Entry → Type 0
HaveOne entries = (p : ℕ) × AllByRecursion (λ e. e.priority ≡ p) entries

-- the record that is taken for an identifier says what a message of the core says
pub record SaysSame (x : Xeid) (bytes : List ℕ) (v : Message) : Type 0 where
  pub taken : Foreign
  pub is_taken : foreign_in x bytes ≡ Ok taken
  pub nonce : nonce_of bytes ≡ v.nonce
  pub action : action_in taken.flags ≡ Ok v.action
  pub prefix : taken.prefix ≡ v.prefix
  pub ttl : taken.ttl ≡ v.ttl
  pub incomplete : is_incomplete taken.flags ≡ v.incomplete
  pub addresses : Have taken.locators v.locators

-- ---- the laws

-- what the core reads of bytes, of a prefix that covers the identifier, is taken here too
abbrev pub ReadsTheSame : Type 0
ReadsTheSame =
    (x : Xeid) (bytes : List ℕ) (v : Message) → message_in bytes ≡ Ok v → covers v.prefix (xeid_path x) ≡ true
    → SaysSame x bytes v

-- Where its locators have one priority, it isn't incomplete and its TTL isn't above what is kept of its action, the
-- very record is given, with its first eight locators.
abbrev pub RecordsStay : Type 0
RecordsStay =
    (x : Xeid) (bytes : List ℕ) (v : Message) → message_in bytes ≡ Ok v → (s : SaysSame x bytes v)
    → HaveOne s.taken.locators → v.incomplete ≡ false → capped v.action v.ttl ≡ v.ttl
    → plain_in x bytes ≡ Ok (message_record v)

-- a record says what a message says, but for the order of its locators and how long it is kept
pub record IsSameBut (v : Message) (r : ReferralRecord) : Type 0 where
  pub action : r.action ≡ v.action
  pub prefix : r.prefix ≡ v.prefix
  pub incomplete : r.incomplete ≡ v.incomplete
  pub ttl : r.ttl ≤ v.ttl
  pub servers : AllByRecursion (IsAmong v.locators) r.servers

-- in any case it is given but for these
abbrev pub RecordsStayBut : Type 0
RecordsStayBut =
    (x : Xeid) (bytes : List ℕ) (v : Message) → message_in bytes ≡ Ok v → covers v.prefix (xeid_path x) ≡ true
    → (r : ReferralRecord) × (plain_in x bytes ≡ Ok r) × IsSameBut v r
