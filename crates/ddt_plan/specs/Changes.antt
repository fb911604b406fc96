-- When two outcomes are one, and what is listed of a register and of a change.
use Rattle.std.specs.Prelude.{◌≡◌, ℕ, Bool, true, false, ◌&&◌, not, List, map, ◌++◌, Contains, IsTrue, Some}
use Rattle.std.specs.List.{filter}
use Rattle.std.specs.Cmp.Lexicographic.{pointwise}
use Rattle.ddt_path.specs.declared.locator.Locator.{Locator}
use Rattle.ddt_path.specs.declared.record.Outcome.{Outcome}
use Rattle.ddt_path.specs.declared.record.Outcome.TheVariants.{Registered, NotRegistered, Hole}
use Rattle.ddt_path.specs.Covers.{covers, is_same_path}
use Rattle.ddt_path.specs.Locators.{is_same_locator}
use Rattle.ddt_path.specs.Path.{is_path, is_prefix_path}
use Rattle.ddt_path.specs.Records.{record_of}
use Rattle.ddt_register.specs.declared.register.Register.{Register}
use Rattle.ddt_check.specs.Assignment.{assignment}
use Rattle.ddt_plan.specs.declared.outcomes.Reading.{Reading}
use Rattle.ddt_plan.specs.declared.outcomes.Reading.TheVariants.{Exact, Service}
use Rattle.ddt_plan.specs.declared.block_list.Block.{Block}
use Rattle.ddt_plan.specs.declared.change_list.Change.{Change}
use Rattle.ddt_plan.specs.Blocks.{keys_of, block_inside, are_in_order}

-- the same locators in the same order
abbrev pub are_same_servers : List Locator → List Locator → Bool
are_same_servers s t = pointwise is_same_locator s t

-- the same kind and the same servers, whatever the prefix
abbrev pub is_same_service : Outcome → Outcome → Bool
is_same_service (Registered p s) (Registered q t) = are_same_servers s t
is_same_service (NotRegistered p s) (NotRegistered q t) = are_same_servers s t
is_same_service (Hole p) (Hole q) = true
is_same_service (Registered p s) (NotRegistered q t) = false
is_same_service (Registered p s) (Hole q) = false
is_same_service (NotRegistered p s) (Registered q t) = false
is_same_service (NotRegistered p s) (Hole q) = false
is_same_service (Hole p) (Registered q t) = false
is_same_service (Hole p) (NotRegistered q t) = false

-- two outcomes are one: to a user, or with their prefixes too
abbrev pub is_same_outcome : Reading → Outcome → Outcome → Bool
is_same_outcome Service o p = is_same_service o p
is_same_outcome Exact o p = is_same_service o p && is_same_path (record_of o).prefix (record_of p).prefix

-- a block of a register, and what changes at one, where all that the prefix covers is assigned the same
abbrev pub block_at : Register → List ℕ → Block
block_at r p = record { prefix = p; outcome = assignment r p }

-- A prefix with its assignment in register r, the earlier one, and in s, the later one. The two may be the same;
-- `changes_at` leaves such prefixes out.
abbrev pub change_at : Register → Register → List ℕ → Change
change_at r s p = record { prefix = p; before = assignment r p; after = assignment s p }

-- its two outcomes aren't one
abbrev pub is_apart : Reading → Change → Bool
is_apart reading c = not (is_same_outcome reading c.before c.after)

-- of what changes at some prefixes, what isn't the same
abbrev pub changes_at : Reading → Register → Register → List (List ℕ) → List Change
changes_at reading r s ps = filter (is_apart reading) (map (change_at r s) ps)

-- The blocks of a register inside a prefix. Each identifier there is covered by one of them (`all`), and by one alone
-- (`one`). A block is a prefix and lies inside that prefix, is the block of each identifier that it covers, and its
-- outcome is the assignment of each. They are in the order of their digits, none overlapping another.
pub record AreBlocks (r : Register) (inside : List ℕ) (blocks : List Block) : Type 0 where
  pub all : (x : List ℕ) → IsTrue (is_path x) → IsTrue (covers inside x)
      → (b : Block) × Contains blocks b × IsTrue (covers b.prefix x)
  pub one : (b c : Block) (x : List ℕ) → Contains blocks b → Contains blocks c
      → IsTrue (covers b.prefix x) → IsTrue (covers c.prefix x) → b ≡ c
  pub are_prefixes : IsTrue (is_prefix_path inside) → (b : Block) → Contains blocks b → IsTrue (is_prefix_path b.prefix)
  pub within : (b : Block) → Contains blocks b → IsTrue (covers inside b.prefix)
  pub least : (b : Block) (x : List ℕ) → Contains blocks b → IsTrue (covers b.prefix x)
      → block_inside inside (keys_of r) x ≡ Some b.prefix
  pub assigned : (b : Block) (x : List ℕ) → Contains blocks b → IsTrue (covers b.prefix x)
      → b.outcome ≡ assignment r x
  pub in_order : IsTrue (are_in_order (map (λ b. b.prefix) blocks))

-- What changes inside a prefix from one register to another. Each identifier there whose two assignments aren't one is
-- covered by a change, and by one alone. The two outcomes of a change aren't one, and are the assignments of each
-- identifier that it covers. A change is a prefix inside that prefix, and a block of the keys of both registers. The
-- changes are in the order of their digits, none overlapping another.
pub record AreChanges (reading : Reading) (before after : Register) (inside : List ℕ) (changes : List Change)
    : Type 0 where
  pub all : (x : List ℕ) → IsTrue (is_path x) → IsTrue (covers inside x)
      → is_same_outcome reading (assignment before x) (assignment after x) ≡ false
      → (c : Change) × Contains changes c × IsTrue (covers c.prefix x)
  pub one : (c d : Change) (x : List ℕ) → Contains changes c → Contains changes d
      → IsTrue (covers c.prefix x) → IsTrue (covers d.prefix x) → c ≡ d
  pub apart : (c : Change) → Contains changes c → is_same_outcome reading c.before c.after ≡ false
  pub assigned_before : (c : Change) (x : List ℕ) → Contains changes c → IsTrue (covers c.prefix x)
      → c.before ≡ assignment before x
  pub assigned_after : (c : Change) (x : List ℕ) → Contains changes c → IsTrue (covers c.prefix x)
      → c.after ≡ assignment after x
  pub are_prefixes : IsTrue (is_prefix_path inside) → (c : Change) → Contains changes c
      → IsTrue (is_prefix_path c.prefix)
  pub within : (c : Change) → Contains changes c → IsTrue (covers inside c.prefix)
  pub least : (c : Change) (x : List ℕ) → Contains changes c → IsTrue (covers c.prefix x)
      → block_inside inside (keys_of before ++ keys_of after) x ≡ Some c.prefix
  pub in_order : IsTrue (are_in_order (map (λ c. c.prefix) changes))
