-- How a command ends: its lines on the standard output or the line of its refusal on the error stream, and its status.
use Rattle.std.specs.Prelude.{ℕ, Bool, ◌≡◌, ◌≢◌, ◌⊎◌, List, Option, Result, Ok, Err}
use Rattle.std.specs.Io.KnownBytes.{Appends}
use Rattle.ddt_lines.specs.Printing.{AppendsFront}
use Rattle.ddt_commands.specs.declared.lines.Lines.{Lines}
use Rattle.ddt_commands.specs.declared.refusal.Refusal.{Refusal}
use Rattle.ddt_commands.specs.declared.status.Status.{Status}
use Rattle.ddt_commands.specs.declared.status.Status.TheVariants.{Answered, Incomplete, Refused, BadWords, Unprinted}
use Rattle.ddt_commands.specs.Status.{answer_status}
use Rattle.ddt_commands.specs.Streams.{PrintsRefusal, PrintsRefusalFront}

-- ---- the streams

-- The bytes of the standard output and of the error stream before and after a command, where they are known; and that
-- either is as it was.
pub record Streams : Type 1 where
  pub out : Option (List ℕ)
  pub out_after : Option (List ℕ)
  pub err : Option (List ℕ)
  pub err_after : Option (List ℕ)
  pub same_out : Type 0
  pub same_err : Type 0

-- the same of two writers, by what each has
abbrev pub streams : {P E : Type 0} → (P → Option (List ℕ)) → P → P → (E → Option (List ℕ)) → E → E → Streams
streams out_contents out out_new err_contents err err_new = record {
  out = out_contents out;
  out_after = out_contents out_new;
  err = err_contents err;
  err_after = err_contents err_new;
  same_out = out_new ≡ out;
  same_err = err_new ≡ err;
}

-- ---- what a command prints

-- the texts that a command may answer, complete or not; and why it may refuse
pub record Prints : Type 1 where
  pub text : Bool → List ℕ → Type 0
  pub refusal : Refusal → Type 0

abbrev pub prints : (Bool → List ℕ → Type 0) → (Refusal → Type 0) → Prints
prints is_text is_why = record { text = is_text; refusal = is_why }

-- just these lines, or just this refusal
abbrev pub prints_result : Result Lines Refusal → Prints
prints_result (Ok lines) = prints (λ complete text. (complete ≡ lines.complete) × (text ≡ lines.text.items)) (λ why. ⊥)
prints_result (Err refusal) = prints (λ complete text. ⊥) (λ why. why ≡ refusal)

-- ---- the end

-- a text of this kind was appended to what a writer had
abbrev pub HasText : (List ℕ → Type 0) → Option (List ℕ) → Option (List ℕ) → Type 0
HasText is_text old new = (text : List ℕ) × is_text text × Appends old new text

-- the line of a refusal of this kind was appended to what a writer had
abbrev pub HasRefused : (Refusal → Type 0) → Option (List ℕ) → Option (List ℕ) → Type 0
HasRefused is_why old new = (why : Refusal) × is_why why × PrintsRefusal why old new

-- the output has a front of such a text, or the error stream a front of such a refusal's line
abbrev pub HasPartOf : (Bool → List ℕ → Type 0) → (Refusal → Type 0) → Option (List ℕ) → Option (List ℕ)
    → Option (List ℕ) → Option (List ℕ) → Type 0
HasPartOf is_text is_why out out_new err err_new =
    ((complete : Bool) × ((text : List ℕ) × is_text complete text × AppendsFront out out_new text))
    ⊎ ((why : Refusal) × is_why why × PrintsRefusalFront why err err_new)

-- An answer leaves the error stream as it was, a refusal and bad words leave the output, and an end without a line
-- leaves one of them.
abbrev pub StayApart : Status → Type 0 → Type 0 → Type 0
StayApart Answered same_out same_err = same_err
StayApart Incomplete same_out same_err = same_err
StayApart Refused same_out same_err = same_out
StayApart BadWords same_out same_err = same_out
StayApart Unprinted same_out same_err = same_out ⊎ same_err

-- A command that may print this ends with this status. `fits`: the words fit it. `answered`: the output has its text,
-- and the status says whether that is complete. `refused`: the error stream has the line of its refusal. `unprinted`: a
-- writer failed, and has a front of what it was to have.
pub record Ends (status : Status) (on : Streams) (may : Prints) : Type 0 where
  pub fits : status ≢ BadWords
  pub answered : (complete : Bool) → status ≡ answer_status complete → HasText (may.text complete) on.out on.out_after
  pub refused : status ≡ Refused → HasRefused may.refusal on.err on.err_after
  pub unprinted : status ≡ Unprinted
      → HasPartOf may.text may.refusal on.out on.out_after on.err on.err_after
  pub apart : StayApart status on.same_out on.same_err
