use Rattle.std.proofs.Common.{◌≡◌, ◌∙◌, sym, true, rules, nat_eq, Err}
use Rattle.std.specs.Result.{is_ok}
use borrow.Author.Tests.{tests}
use Rattle.std.proofs.lemmas.Iterator.Splits.{YieldsList-from_slice_split}
use Rattle.std.specs.List.{slice_split}
use Rattle.ddt_register.specs.declared.fault.ReadFault.TheVariants.{Address}
use Rattle.ddt_register.proofs.LocatorLemmas.{PartsLeft-start, PartsLeft-next, PartsLeft-fault, PartsLeft-end}
use Rattle.ddt_register.proofs.csv_row.read_locators.Goals as goal

pub loop-part-init : goal.loop-part-init
loop-part-init c =
    rw (c.in_ok-locators.ensures, c.into_iter-part-iterator.ensures.into_iter_gives) (
    PartsLeft-start (Address c.args.row) (slice_split (λ b. nat_eq b 32) c.args.text.now)
    (YieldsList-from_slice_split _ _ c.args.text.now c.split-part-items.ensures.rest c.split-part-items.ensures.done c.split-part-items.ensures.closure (λ x r q k. search (rules, tests))))

pub returns-in_err-locator : goal.returns-in_err-locator
returns-in_err-locator c =
    let e : c.from_residual-in_err-locator.result ≡ Err c.in_err-locator.field-0.0 = search rules in
    rw (e, sym c.is_empty.ensures ∙ c.if-is_empty.false) (
    PartsLeft-fault c.loop-part.part-iterator c.next.new.self c.in-Some.part c.in_err-locator.field-0.0 c.loop-part.invariant c.in-Some.ensures.steps (sym c.in_err-locator.ensures))

pub loop-part-preserved : goal.loop-part-preserved
loop-part-preserved c =
    let good : is_ok c.push.result ≡ true = search rules in
    rw (rw good at c.push.ensures.items) (
    PartsLeft-next c.loop-part.part-iterator c.next.new.self c.in-Some.part c.in_ok-locator.locator c.loop-part.invariant c.in-Some.ensures.steps (sym c.in_ok-locator.ensures))

pub returns : goal.returns
returns c =
    rw (sym c.is_empty.ensures ∙ c.if-is_empty.false, c.of-2.ensures) (
    PartsLeft-end c.loop-part.part-iterator c.next.new.self c.loop-part.invariant c.in-None.ensures.steps)
