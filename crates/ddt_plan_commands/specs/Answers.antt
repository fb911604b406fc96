-- What the commands answer.
use Rattle.std.specs.Prelude.{ℕ, Bool, true, false, ◌≡◌, ◌⊎◌, List, [], length, Option, None, Ok}
use Rattle.std.specs.List.{flat_map}
use Rattle.std.specs.Io.KnownBytes.{Keeps}
use Rattle.ddt_text.specs.FirstFault.{prefix_in}
use Rattle.ddt_register.specs.declared.register.Register.{Register}
use Rattle.ddt_check.specs.Rules.{IsAccepted}
use Rattle.ddt_plan.specs.declared.block_list.Block.{Block}
use Rattle.ddt_plan.specs.declared.change_list.Change.{Change}
use Rattle.ddt_plan.specs.declared.groups.GroupChange.{GroupChange}
use Rattle.ddt_plan.specs.declared.outcomes.Reading.{Reading}
use Rattle.ddt_plan.specs.Changes.{AreBlocks, AreChanges}
use Rattle.ddt_plan.specs.Groups.{AreGroupChanges}
use Rattle.ddt_lines.specs.Printing.{AppendsFront}
use Rattle.ddt_commands.specs.Over.{OfItsRegister}
use Rattle.ddt_commands.specs.Register.{HasBytes, Spell}
use Rattle.ddt_plan_commands.specs.declared.arguments.Form.{Form}
use Rattle.ddt_plan_commands.specs.declared.arguments.BlocksAsked.{BlocksAsked}
use Rattle.ddt_plan_commands.specs.declared.arguments.DiffAsked.{DiffAsked}
use Rattle.ddt_plan_commands.specs.declared.arguments.DiffOutput.{DiffOutput}
use Rattle.ddt_plan_commands.specs.declared.arguments.DiffOutput.TheVariants.{Changes, Counts, Summary}
use Rattle.ddt_plan_commands.specs.declared.review.Review.{Review}
use Rattle.ddt_plan_commands.specs.Review.{IsReview, is_different}
use Rattle.ddt_plan_commands.specs.Summary.{written_summary}
use Rattle.ddt_plan_commands.specs.Ending.{written_changes}
use Rattle.ddt_plan_commands.specs.Counted.{no_outcomes, with_blocks, no_changes, with_changes}
use Rattle.ddt_plan_commands.specs.Written.{listed_block, written_counts, written_change_counts}
use Rattle.ddt_plan_commands.specs.Written.{differs as are_different}

-- what a path opened to: a source, and the accepted register that its bytes spell
pub record IsOpened {F : Type 0} (opens : List ℕ → Option F → Type 0) (remaining : F → Option (List ℕ))
    (path : List ℕ) (r : Register) : Type 0 where
  pub source : Option F
  pub opened : opens path source
  pub some : source ≡ None → ⊥
  pub accepted : IsAccepted r
  pub spelled : (bytes : List ℕ) → HasBytes remaining source bytes → Spell bytes r

-- a line for each block of a register inside a prefix, or for each that is no hole
abbrev pub IsListedText : Form → Bool → Register → List ℕ → List ℕ → Type 0
IsListedText form with_holes r inside text =
    (all : List Block) × AreBlocks r inside all × (text ≡ flat_map (listed_block form with_holes) all)

-- how many of them there are of each kind
abbrev pub IsCountedText : Form → Register → List ℕ → List ℕ → Type 0
IsCountedText form r inside text =
    (all : List Block) × AreBlocks r inside all × (text ≡ written_counts form (with_blocks no_outcomes all))

-- what is asked of them
abbrev pub IsTextOfBlocks : Bool → Form → Bool → Register → List ℕ → List ℕ → Type 0
IsTextOfBlocks true form with_holes = IsCountedText form
IsTextOfBlocks false form with_holes = IsListedText form with_holes

-- The text that `blocks` prints of a register: counts under `--count`, otherwise a line for each block inside the
-- prefix, where `--no-holes` leaves out the delegation holes.
abbrev pub IsBlocksText : BlocksAsked → Register → List ℕ → List ℕ → Type 0
IsBlocksText asked = IsTextOfBlocks asked.counted asked.form asked.with_holes

-- The answer of `blocks`: the prefix that is asked for is one, the path of the register gave a source, and this is the
-- text of the register there.
abbrev pub IsBlocksAnswer : {F : Type 0} → (List ℕ → Option F → Type 0) → (F → Option (List ℕ)) → BlocksAsked
    → List ℕ → Type 0
IsBlocksAnswer opens remaining asked text =
    (inside : List ℕ) × (prefix_in asked.inside.now ≡ Ok inside)
    × ((source : Option _) × opens asked.register.now source
    × OfItsRegister remaining source (λ r. IsBlocksText asked r inside text))

-- the summary of what differs from one register to another
abbrev pub IsSummaryText : Reading → Form → Register → Register → Bool → List ℕ → Type 0
IsSummaryText reading form before after differs text =
    (v : Review) × IsReview reading before after v × (differs ≡ is_different v) × (text ≡ written_summary form v)

-- The summary, the changes from one register to another, the zones, sites and groups that differ, the groups whose
-- configuration changes, and what caches may hold.
abbrev pub IsChangesText : Reading → Form → Register → Register → Bool → List ℕ → Type 0
IsChangesText reading form before after differs text =
    (v : Review) × IsReview reading before after v × (differs ≡ is_different v)
    × ((all : List Change) × AreChanges reading before after [] all × (text ≡ written_changes form v all))

-- how many of them there are of each kind
abbrev pub IsChangeCountsText : Reading → Form → Register → Register → Bool → List ℕ → Type 0
IsChangeCountsText reading form before after differs text =
    (all : List Change) × AreChanges reading before after [] all
    × ((groups : List GroupChange) × AreGroupChanges before after groups
    × (differs ≡ are_different all groups)
    × (text ≡ written_change_counts form (with_changes no_changes all) (length groups)))

-- what is asked of them, and whether anything differs
abbrev pub IsTextOfChanges : DiffOutput → Reading → Form → Register → Register → Bool → List ℕ → Type 0
IsTextOfChanges Counts = IsChangeCountsText
IsTextOfChanges Summary = IsSummaryText
IsTextOfChanges Changes = IsChangesText

-- The text that `diff` prints of two registers, and whether anything differs: counts under `--count`, the summary under
-- `--summary`, otherwise all that differs.
abbrev pub IsDiffText : DiffAsked → Register → Register → Bool → List ℕ → Type 0
IsDiffText asked = IsTextOfChanges asked.output asked.reading asked.form

-- The answer of `diff`: the paths of both registers gave sources, and this is the text of the registers there.
abbrev pub IsDiffAnswer : {F : Type 0} → (List ℕ → Option F → Type 0) → (F → Option (List ℕ)) → DiffAsked → Bool
    → List ℕ → Type 0
IsDiffAnswer opens remaining asked differs text =
    (old : Option _) × opens asked.before.now old × OfItsRegister remaining old (λ before.
    (new : Option _) × opens asked.after.now new × OfItsRegister remaining new (λ after.
    IsDiffText asked before after differs text))

-- the same, whether anything differs or not
abbrev pub IsAnyDiff : {F : Type 0} → (List ℕ → Option F → Type 0) → (F → Option (List ℕ)) → DiffAsked → List ℕ
    → Type 0
IsAnyDiff opens remaining asked text = (differs : Bool) × IsDiffAnswer opens remaining asked differs text

-- nothing was appended, or a front of such a text
abbrev pub HasFront : (List ℕ → Type 0) → Option (List ℕ) → Option (List ℕ) → Type 0
HasFront is_text old new = Keeps old new ⊎ ((text : List ℕ) × is_text text × AppendsFront old new text)
