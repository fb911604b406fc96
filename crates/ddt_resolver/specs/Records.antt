-- What a record of a Map-Referral, or a remembered entry, means to a lookup (RFC 8111, sections 6.1 and 7.3).
use Rattle.std.specs.Prelude.{ℕ, ◌≡◌, ◌<◌, ◌⊎◌, List, [], ◌∷◌, length, IsTrue, Option, None, Some}
use Rattle.ddt_path.specs.declared.locator.Locator.{Locator}
use Rattle.ddt_path.specs.declared.action.Action.{Action}
use Rattle.ddt_path.specs.declared.action.Action.TheVariants.{MsAck, MsNotRegistered, DelegationHole, NotAuthoritative}
use Rattle.ddt_path.specs.declared.record.Outcome.{Outcome}
use Rattle.ddt_path.specs.declared.record.Outcome.TheVariants.{Registered, NotRegistered, Hole}
use Rattle.ddt_path.specs.declared.record.ReferralRecord.{ReferralRecord}
use Rattle.ddt_path.specs.Actions.{IsReferral}
use Rattle.ddt_path.specs.Covers.{covers}

-- a record that is about an identifier: its prefix covers it, or the server isn't in charge of it
abbrev pub IsAbout : ReferralRecord → List ℕ → Type 0
IsAbout rec x = IsTrue (covers rec.prefix x) ⊎ (rec.action ≡ NotAuthoritative)

-- a referral names a server
abbrev pub NamesServer : ReferralRecord → Type 0
NamesServer rec = IsReferral rec.action → 0 < length rec.servers

-- a prefix is longer than the saved one, where one is saved
abbrev pub IsBelow : Option (List ℕ) → List ℕ → Type 0
IsBelow None q = 0 < 1
IsBelow (Some p) q = length p < length q

-- what a final record says of an identifier that it covers
abbrev pub outcome_at : Action → List ℕ → List Locator → Outcome
outcome_at MsAck prefix servers = Registered prefix servers
outcome_at MsNotRegistered prefix servers = NotRegistered prefix servers
outcome_at _ prefix servers = Hole prefix

-- how a lookup ends at its last record: MS-ACK is registered, MS-NOT-REGISTERED not registered, DELEGATION-HOLE a hole
abbrev pub outcome_of : ReferralRecord → Outcome
outcome_of rec = outcome_at rec.action rec.prefix rec.servers

-- what a remembered entry of a prefix answers by itself: only that nothing is there
abbrev pub negative_answer : Action → List ℕ → List Locator → Option Outcome
negative_answer MsNotRegistered prefix servers = Some (NotRegistered prefix servers)
negative_answer DelegationHole prefix servers = Some (Hole prefix)
negative_answer _ prefix servers = None

-- the entry of a prefix as the start of a lookup: None for the root
abbrev pub start_at : List ℕ → Option (List ℕ)
start_at [] = None
start_at (d ∷ ds) = Some (d ∷ ds)
