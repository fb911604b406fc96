-- From what was written of registers to the answers of the commands.
use Rattle.std.proofs.Common.{◌≡◌, ◌∙◌, ℕ, Bool, List, [], length, Option, None, ap, subst, inl, inr}
use Rattle.std.specs.Prelude.{◌||◌, Result, Ok, Err, IfOk, false}
use Rattle.ddt_text.specs.FirstFault.{prefix_in}
use Rattle.ddt_register.specs.declared.register.Register.{Register}
use Rattle.ddt_check.specs.Rules.{IsAccepted}
use Rattle.ddt_plan.specs.declared.change_list.Change.{Change}
use Rattle.ddt_plan.specs.declared.counts.ChangeCounts.{ChangeCounts}
use Rattle.ddt_plan.specs.declared.groups.GroupChange.{GroupChange}
use Rattle.ddt_plan.specs.declared.outcomes.Reading.{Reading}
use Rattle.ddt_plan.specs.declared.sink.PlanFault.{PlanFault}
use Rattle.ddt_plan.specs.declared.sink.PlanFault.TheVariants as plan
use Rattle.ddt_plan.specs.Changes.{AreChanges}
use Rattle.ddt_plan.specs.Differing.{BothRegisters}
use Rattle.ddt_commands.specs.Register.{HasBytes, Spell}
use Rattle.ddt_plan_commands.specs.declared.arguments.BlocksAsked.{BlocksAsked}
use Rattle.ddt_plan_commands.specs.declared.arguments.DiffAsked.{DiffAsked}
use Rattle.ddt_plan_commands.specs.declared.arguments.Form.{Form}
use Rattle.ddt_plan_commands.specs.declared.block_lines.LineFault.{LineFault}
use Rattle.ddt_plan_commands.specs.declared.block_lines.LineFault.TheVariants as line
use Rattle.ddt_plan_commands.specs.declared.review.Review.{Review}
use Rattle.ddt_plan_commands.specs.Answers.{IsBlocksText, IsBlocksAnswer, IsDiffText, IsDiffAnswer, IsOpened}
use Rattle.ddt_plan_commands.specs.Counted.{has_counted, no_changes, with_changes}
use Rattle.ddt_plan_commands.specs.declared.refusal.PlanRefusal.{PlanRefusal}
use Rattle.ddt_plan_commands.specs.declared.command_error.CommandError.{CommandError}
use Rattle.ddt_plan_commands.specs.declared.command_error.CommandError.TheVariants.{Refused, Unprinted}
use Rattle.ddt_plan_commands.specs.Refusals.{IsUnopened, IsWhyNoDiff, IsWhyUnwritten, is_counted, stop_of_lines}
use Rattle.ddt_plan_commands.specs.Review.{IsReview}
use Rattle.ddt_plan_commands.specs.Written.{differs, has_some, written_change_counts}
use Rattle.ddt_plan_commands.proofs.SinkLemmas.{counted_some}

module _ {F : Type 0} (opens : List ℕ → Option F → Type 0) (remaining : F → Option (List ℕ)) where
  -- what is known of a path once its source was read
  pub opened_at : (path : List ℕ) (source : Option F) (r : Result Register PlanRefusal) → opens path source → IfOk r (λ a. source ≡ None → ⊥) → IfOk r IsAccepted
      → IfOk r (λ a. (bytes : List ℕ) → HasBytes remaining source bytes → Spell bytes a) → IfOk r (IsOpened opens remaining path)
  opened_at path source (Ok a) opened some accepted spelled = record { source = source; opened = opened; some = some; accepted = accepted; spelled = spelled }
  opened_at path source (Err why) opened some accepted spelled = tt

  -- why `diff` refuses, once one of its registers is read, or both
  pub no_after : (asked : DiffAsked) (before : Register) → IsOpened opens remaining asked.before.now before
      → (why : PlanRefusal) → IsUnopened opens remaining asked.after.now why → IsWhyNoDiff opens remaining asked why
  no_after asked before old why new =
      (old.source, old.opened, inr (old.some, (before, old.accepted, old.spelled, (new.0, new.1, inl new.2))))

  pub no_diff : (asked : DiffAsked) (before after : Register) → IsOpened opens remaining asked.before.now before → IsOpened opens remaining asked.after.now after
      → (why : PlanRefusal) → IsWhyUnwritten (is_counted asked.output) (Refused why) → IsWhyNoDiff opens remaining asked why
  no_diff asked before after old new why is =
      (old.source, old.opened, inr (old.some, (before, old.accepted, old.spelled, (new.source, new.opened, inr (new.some, (after, new.accepted, new.spelled, is))))))

  pub blocks_answer : (asked : BlocksAsked) (inside : List ℕ) (r : Register) → prefix_in asked.inside.now ≡ Ok inside → IsOpened opens remaining asked.register.now r
      → (text : List ℕ) → IsBlocksText asked r inside text → IsBlocksAnswer opens remaining asked text
  blocks_answer asked inside r spelled at text is = (inside, spelled, (at.source, at.opened, (at.some, (r, at.accepted, at.spelled, is))))

  pub diff_answer : (asked : DiffAsked) (before after : Register) → IsOpened opens remaining asked.before.now before → IsOpened opens remaining asked.after.now after
      → (differs : Bool) (text : List ℕ) → IsDiffText asked before after differs text → IsDiffAnswer opens remaining asked differs text
  diff_answer asked before after old new differs text is =
      (old.source, old.opened, (old.some, (before, old.accepted, old.spelled, (new.source, new.opened, (new.some, (after, new.accepted, new.spelled, is))))))

-- two refusals that are the same have the same reason
abbrev why_of : PlanRefusal → CommandError → PlanRefusal
why_of other (Refused why) = why
why_of other Unprinted = other

pub same_why : (a b : PlanRefusal) → Refused a ≡ Refused b → a ≡ b
same_why a b e = ap (why_of a) e

-- the counts of all changes and of the groups, and whether anything differs
pub record AreCounted (form : Form) (counts : ChangeCounts) (all : List Change) (groups : List GroupChange) : Type 0 where
  pub text : written_change_counts form counts (length groups) ≡ written_change_counts form (with_changes no_changes all) (length groups)
  pub differs_so : (has_counted counts.before || has_some groups) ≡ differs all groups

pub all_counted : (form : Form) (counts : ChangeCounts) (all : List Change) (groups : List GroupChange) → counts ≡ with_changes no_changes all → AreCounted form counts all groups
all_counted form counts all groups are = record {
  text = ap (λ (n : ChangeCounts). written_change_counts form n (length groups)) are;
  differs_so = ap (λ (b : Bool). b || has_some groups) (ap (λ (n : ChangeCounts). has_counted n.before) are ∙ counted_some all no_changes);
}

-- no list of lines ends as a count that is full
pub lines_stop : (fault : PlanFault LineFault) → IsWhyUnwritten false (stop_of_lines fault)
lines_stop plan.Memory = tt
lines_stop (plan.Refused line.Memory) = tt
lines_stop (plan.Refused line.Unprinted) = tt

module _ (reading : Reading) (pair : BothRegisters) (r s : Register) (is : pair ≡ record { before = r; after = s }) where
  -- all changes of a pair, at the prefix that covers everything, are those of the registers that it was made from
  pub changes_of : (p : List ℕ) (all : List Change) → p ≡ [] → AreChanges reading pair.before pair.after p all → AreChanges reading r s [] all
  changes_of p all whole are =
      subst (λ (b : BothRegisters). AreChanges reading b.before b.after [] all) is
      (subst (λ (q : List ℕ). AreChanges reading pair.before pair.after q all) whole are)
