-- What blocks and changes come to where they are written, and where they are counted.
use Rattle.std.proofs.lemmas.Bool.Decides.{nat_tests}
use Rattle.ddt_path.specs.declared.record.Outcome.{Outcome}
use Rattle.ddt_path.specs.declared.record.Outcome.TheVariants.{Registered, NotRegistered, Hole}
use Rattle.ddt_plan.specs.declared.change_list.Change.{Change}
use Rattle.ddt_plan.specs.declared.counts.ChangeCounts.{ChangeCounts}
use Rattle.ddt_plan_commands.specs.declared.change_lines.ChangeLines.{ChangeLines}
use Rattle.std.proofs.Common.{true, false, ◌+◌, refl, sym, arith, ◌≡◌, ℕ, Bool, List, [], ◌∷◌, Option, subst, ap, ◌∙◌}
use Rattle.std.specs.Prelude.{◌||◌, nat_lt}
use Rattle.ddt_lines.specs.Printing.{AppendsFront}
use Rattle.std.specs.Io.KnownBytes.{Appends}
use Rattle.ddt_plan.specs.declared.block_list.Block.{Block}
use Rattle.ddt_plan.specs.declared.counts.OutcomeCounts.{OutcomeCounts}
use Rattle.ddt_plan.specs.Counts.{CountsBlock, CountsChange, counted, changes_counted}
use Rattle.ddt_plan.specs.Sinks.{HasTaken}
use Rattle.ddt_plan_commands.specs.declared.arguments.Form.{Form}
use Rattle.ddt_plan_commands.specs.declared.block_lines.LineFault.{LineFault}
use Rattle.ddt_plan_commands.specs.declared.block_lines.BlockLines.{BlockLines}
use Rattle.ddt_plan_commands.specs.Counted.{has_counted, with_blocks, with_changes}
use Rattle.ddt_plan_commands.specs.Sinks.{TakesBlock, TakesChange}
use Rattle.ddt_plan_commands.specs.Written.{has_some, listed_block, written_change}
use Rattle.ddt_plan_commands.proofs.WriterLemmas.{IsWriter}

-- in this form, with holes or without
abbrev pub IsAsked : {W : Type 0} → Form → Bool → BlockLines W → Type 0
IsAsked form with_holes s = (s.form ≡ form) × (s.with_holes ≡ with_holes)

pub block_writer : {W : Type 0} (contents : W → Option (List ℕ)) (form : Form) (with_holes : Bool)
    → IsWriter (TakesBlock contents) (λ s. contents s.out) (listed_block form with_holes) (IsAsked form with_holes)
block_writer contents form with_holes = record {
  stays = λ s item next so h. (h.0 ∙ so.0, h.1 ∙ so.1);
  whole = λ s item next so h. subst (λ (f : Form). Appends (contents s.out) (contents next.out) (listed_block f with_holes item)) so.0
      (subst (λ (b : Bool). Appends (contents s.out) (contents next.out) (listed_block s.form b item)) so.1 h.2);
  part = λ s item why next so h. subst (λ (f : Form). AppendsFront (contents s.out) (contents next.out) (listed_block f with_holes item)) so.0
      (subst (λ (b : Bool). AppendsFront (contents s.out) (contents next.out) (listed_block s.form b item)) so.1 h.2);
}

-- a count that takes all blocks has counted them
pub taken_counts : (all : List Block) (n after : OutcomeCounts) → HasTaken CountsBlock n all after → after ≡ with_blocks n all
taken_counts [] n after h = h
taken_counts (b ∷ bs) n after h =
    taken_counts bs h.0 after h.2 ∙ ap (λ (m : OutcomeCounts). with_blocks m bs) h.1

-- the same of changes
pub change_writer : {W : Type 0} (contents : W → Option (List ℕ)) (form : Form)
    → IsWriter (TakesChange contents) (λ s. contents s.out) (written_change form) (λ s. s.form ≡ form)
change_writer contents form = record {
  stays = λ s item next so h. h.0 ∙ so;
  whole = λ s item next so h. subst (λ (f : Form). Appends (contents s.out) (contents next.out) (written_change f item)) so h.1;
  part = λ s item why next so h. subst (λ (f : Form). AppendsFront (contents s.out) (contents next.out) (written_change f item)) so h.1;
}

or_false : (a : Bool) → a ≡ (a || false)
or_false true = refl
or_false false = refl

or_true : (a : Bool) → true ≡ (a || true)
or_true true = refl
or_true false = refl

-- the same of changes
pub taken_change_counts : (all : List Change) (n after : ChangeCounts) → HasTaken CountsChange n all after → after ≡ with_changes n all
taken_change_counts [] n after h = h
taken_change_counts (c ∷ cs) n after h =
    taken_change_counts cs h.0 after h.2 ∙ ap (λ (m : ChangeCounts). with_changes m cs) h.1

above : (n : ℕ) → nat_lt 0 (n + 1) ≡ true
above n = grind (arith, nat_tests)

one_counted : (n : OutcomeCounts) (o : Outcome) → has_counted (counted n o) ≡ true
one_counted n (Registered p s) = ap (λ (b : Bool). nat_lt 0 n.holes || (b || nat_lt 0 n.not_registered)) (above n.registered) ∙ sym (or_true (nat_lt 0 n.holes))
one_counted n (NotRegistered p s) =
    ap (λ (b : Bool). nat_lt 0 n.holes || (nat_lt 0 n.registered || b)) (above n.not_registered)
    ∙ ap (λ (b : Bool). nat_lt 0 n.holes || b) (sym (or_true (nat_lt 0 n.registered))) ∙ sym (or_true (nat_lt 0 n.holes))
one_counted n (Hole p) = ap (λ (b : Bool). b || (nat_lt 0 n.registered || nat_lt 0 n.not_registered)) (above n.holes)

-- counts tell whether there were changes
pub counted_some : (all : List Change) (n : ChangeCounts) → has_counted (with_changes n all).before ≡ (has_counted n.before || has_some all)
counted_some [] n = or_false (has_counted n.before)
counted_some (c ∷ cs) n =
    counted_some cs (changes_counted n c) ∙ ap (λ (b : Bool). b || has_some cs) (one_counted n.before c.before) ∙ or_true (has_counted n.before)
