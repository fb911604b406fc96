-- Following referrals over the servers of both sides (RFC 8111, section 7.3).
use Rattle.std.specs.Prelude.{◌≡◌, ◌⊎◌, ℕ, IsTrue, List, Some, Contains}
use Rattle.ddt_path.specs.declared.locator.Locator.{Locator}
use Rattle.ddt_path.specs.declared.record.ReferralRecord.{ReferralRecord}
use Rattle.ddt_path.specs.Actions.{IsReferral}
use Rattle.ddt_path.specs.Locators.{lists}
use Rattle.ddt_register.specs.declared.group.Group.{Group}
use Rattle.ddt_register.specs.declared.register.Register.{Register}
use Rattle.ddt_config.specs.Answer.{answer}
use Rattle.ddt_config.specs.Table.{Outline}
use Rattle.ddt_compile.specs.GroupConfig.{config_named}
use Rattle.ddt_organisations.specs.Seam.Seam.{is_run_from}

-- what the server at a locator answers for an identifier
abbrev pub Replies : Type 0
Replies = Locator → List ℕ → ReferralRecord

-- The server at a locator answers from the configuration that one side compiles for its group, which that side can run.
pub record AnswersFrom (side joined : Register) (g : Group) (l : Locator) (reply : Replies) : Type 0 where
  pub run : IsTrue (is_run_from side joined g)
  pub config : Outline
  pub compiled : config_named side g.name ≡ Some config
  pub answers : (x : List ℕ) → reply l x ≡ answer config x

-- Each server of the joined register answers from the configuration of one side or of the other.
abbrev pub AreOfBothSides : Register → Register → Register → Replies → Type 0
AreOfBothSides ours theirs joined reply =
    (g : Group) (l : Locator) → Contains joined.groups g → IsTrue (lists g.locators l)
    → AnswersFrom ours joined g l reply ⊎ AnswersFrom theirs joined g l reply

-- A walk asks any server of a set. It goes on to the servers of a referral, and ends with any other record.
pub data IsWalk (reply : Replies) (x : List ℕ) : List Locator → ReferralRecord → Type 0 where
  ends : {servers : List Locator} {end : ReferralRecord} (l : Locator) → IsTrue (lists servers l)
      → ¬ IsReferral (reply l x).action → end ≡ reply l x → IsWalk reply x servers end
  goes_on : {servers : List Locator} {end : ReferralRecord} (l : Locator) → IsTrue (lists servers l)
      → IsReferral (reply l x).action → IsWalk reply x (reply l x).servers end → IsWalk reply x servers end
