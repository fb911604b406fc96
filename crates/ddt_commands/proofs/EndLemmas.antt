-- From what a command answers or refuses to how it ends.
use Rattle.std.proofs.Common.{◌≡◌, ℕ, Bool, true, List, Ok, Err, inl, inr, sym, subst}
use Rattle.std.specs.Prelude.{IfErr, IfOk, Result}
use Rattle.ddt_commands.specs.declared.lines.Lines.{Lines}
use Rattle.ddt_commands.specs.declared.refusal.Refusal.{Refusal}
use Rattle.ddt_commands.specs.declared.status.Status.{Status}
use Rattle.ddt_commands.specs.Ends.{Ends, HasPartOf, Prints, Streams, prints, prints_result}

part_of : (a b : Prints) (on : Streams) → ((complete : Bool) (text : List ℕ) → a.text complete text → b.text complete text)
    → ((why : Refusal) → a.refusal why → b.refusal why) → HasPartOf a.text a.refusal on.out on.out_after on.err on.err_after
    → HasPartOf b.text b.refusal on.out on.out_after on.err on.err_after
part_of a b on texts refusals (inl h) = inl (h.0, (h.1.0, texts h.0 h.1.0 h.1.1, h.1.2))
part_of a b on texts refusals (inr h) = inr (h.0, refusals h.0 h.1, h.2)

-- an end by what may be printed is one by more that may be
pub weaker : (a b : Prints) (status : Status) (on : Streams) → ((complete : Bool) (text : List ℕ) → a.text complete text → b.text complete text)
    → ((why : Refusal) → a.refusal why → b.refusal why) → Ends status on a → Ends status on b
weaker a b status on texts refusals e = record {
  fits = e.fits;
  answered = λ complete is. let h = e.answered complete is in (h.0, texts complete h.0 h.1, h.2);
  refused = λ is. let h = e.refused is in (h.0, refusals h.0 h.1, h.2);
  unprinted = λ is. part_of a b on texts refusals (e.unprinted is);
  apart = e.apart;
}

-- a command that prints its result ends as its result may
pub ends : (may : Prints) (result : Result Lines Refusal) (status : Status) (on : Streams) → IfOk result (λ lines. may.text lines.complete lines.text.items)
    → IfErr result may.refusal → Ends status on (prints_result result) → Ends status on may
ends may (Ok lines) status on text why e =
    weaker (prints_result (Ok lines)) may status on
    (λ complete printed h. subst (λ (b : Bool). may.text b printed) (sym h.0) (subst (λ (t : List ℕ). may.text lines.complete t) (sym h.1) text))
    (λ w h. absurd h) e
ends may (Err refusal) status on text why e =
    weaker (prints_result (Err refusal)) may status on (λ complete printed h. absurd h) (λ w h. subst (λ (r : Refusal). may.refusal r) (sym h) why) e

-- the same of one whose lines are always complete
pub complete_ends : (is_text : List ℕ → Type 0) (is_why : Refusal → Type 0) (result : Result Lines Refusal) (status : Status) (on : Streams) → IfOk result (λ lines. is_text lines.text.items)
    → IfOk result (λ lines. lines.complete ≡ true) → IfErr result is_why → Ends status on (prints_result result)
    → Ends status on (prints (λ complete text. (complete ≡ true) × is_text text) is_why)
complete_ends is_text is_why (Ok lines) status on text complete why e =
    ends (prints (λ complete text. (complete ≡ true) × is_text text) is_why) (Ok lines) status on (complete, text) why e
complete_ends is_text is_why (Err refusal) status on text complete why e =
    ends (prints (λ complete text. (complete ≡ true) × is_text text) is_why) (Err refusal) status on text why e
