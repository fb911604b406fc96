-- What holds of the servers of two registers.
use Rattle.std.specs.Prelude.{◌≡◌, ◌⊎◌, ℕ, Bool, false, IsTrue, List, Some, Contains}
use Rattle.ddt_path.specs.declared.record.ReferralRecord.{ReferralRecord}
use Rattle.ddt_path.specs.Records.{record_of}
use Rattle.ddt_register.specs.declared.group.Group.{Group}
use Rattle.ddt_register.specs.declared.register.Register.{Register}
use Rattle.ddt_check.specs.Assignment.{assignment}
use Rattle.ddt_check.specs.Rules.{IsAccepted}
use Rattle.ddt_check.specs.Zones.{roots}
use Rattle.ddt_config.specs.Table.{Outline}
use Rattle.ddt_compile.specs.GroupConfig.{config_named}
use Rattle.ddt_compile.specs.laws.Statements.{IsHonestConfig}
use Rattle.ddt_organisations.specs.Seam.Seam.{is_run_from, is_good_seam}
use Rattle.ddt_organisations.specs.Seam.Walk.{Replies, AreOfBothSides, IsWalk}

-- The configuration that a side compiles for a group which it can run answers each identifier, at each of its locators,
-- as an honest server of the joined register does.
abbrev pub SidesAnswerAsJoined : Type 0
SidesAnswerAsJoined =
    (side joined : Register) (g : Group) (c : Outline) → IsAccepted side → IsAccepted joined
    → Contains joined.groups g → IsTrue (is_run_from side joined g) → config_named side g.name ≡ Some c
    → IsHonestConfig joined c × (c.locators ≡ g.locators)

-- Where a seam is good, each group of the joined register has such a configuration, by one side or by the other; a
-- foreign one has it by theirs.
abbrev pub GoodSeamsAreRun : Type 0
GoodSeamsAreRun =
    (foreign : List ℕ → Bool) (ours theirs joined : Register) (g : Group) → IsAccepted joined
    → IsTrue (is_good_seam foreign ours theirs joined) → Contains joined.groups g
    → (side : Register) × ((side ≡ theirs) ⊎ ((side ≡ ours) × (foreign g.name ≡ false)))
    × IsTrue (is_run_from side joined g) × (c : Outline) × (config_named side g.name ≡ Some c)

-- Whoever follows the referrals of both sides from the root ends with what longest match over the joined register
-- assigns.
abbrev pub WalksEndInTheAssignment : Type 0
WalksEndInTheAssignment =
    (ours theirs joined : Register) (reply : Replies) (x : List ℕ) (end : ReferralRecord)
    → IsAccepted ours → IsAccepted theirs → IsAccepted joined → AreOfBothSides ours theirs joined reply
    → IsWalk reply x (roots joined) end → end ≡ record_of (assignment joined x)
