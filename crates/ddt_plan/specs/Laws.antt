-- What holds of every register, and of every accepted one.
use Rattle.std.specs.Prelude.{◌≡◌, ◌↔◌, ℕ, List, IsTrue, Some}
use Rattle.ddt_path.specs.declared.record.Outcome.{Outcome}
use Rattle.ddt_path.specs.Covers.{covers}
use Rattle.ddt_path.specs.Path.{is_path}
use Rattle.ddt_register.specs.declared.register.Register.{Register}
use Rattle.ddt_check.specs.Assignment.{assignment}
use Rattle.ddt_check.specs.laws.Statements.{negative_prefix}
use Rattle.ddt_plan.specs.declared.outcomes.Reading.TheVariants.{Exact}
use Rattle.ddt_plan.specs.Blocks.{keys_of, is_undivided, block_of}
use Rattle.ddt_plan.specs.Changes.{is_same_outcome}
use Rattle.ddt_plan.specs.Fast.{outcome_at}

-- what no zone and no site is strictly below is assigned the same everywhere
abbrev pub IsAssignedAlike : Register → Type 0
IsAssignedAlike r =
    (q x y : List ℕ) → IsTrue (is_undivided (keys_of r) q) → IsTrue (covers q x) → IsTrue (covers q y)
    → assignment r x ≡ assignment r y

-- the prefix of a hole, or of the part of a site that isn't registered, is the block of the identifier
abbrev pub NegativesAreBlocks : Register → Type 0
NegativesAreBlocks r =
    (x q : List ℕ) → IsTrue (is_path x) → negative_prefix (assignment r x) ≡ Some q → block_of (keys_of r) x ≡ Some q

-- the assignment is read off the zone and the site of the block
abbrev pub IsReadOffItsBlock : Register → Type 0
IsReadOffItsBlock r =
    (x q : List ℕ) → IsTrue (is_path x) → block_of (keys_of r) x ≡ Some q → assignment r x ≡ outcome_at r q

-- two outcomes are exactly the same where they are one value
abbrev pub ExactIsEqual : Type 0
ExactIsEqual = (o p : Outcome) → IsTrue (is_same_outcome Exact o p) ↔ (o ≡ p)
