use Rattle.std.proofs.Common.{◌≡◌, ◌∙◌, sym, rules, Err}
use Rattle.ddt_register.specs.declared.fault.ReadFault.TheVariants.{Address}
use Rattle.ddt_register.proofs.LocatorLemmas.{one_part-locator, one_part-fault}
use Rattle.ddt_register.proofs.csv_row.read_etrs.Goals as goal

pub returns-in_err-read_locator : goal.returns-in_err-read_locator
returns-in_err-read_locator c =
    let e : c.from_residual-in_err-read_locator.result ≡ Err c.in_err-read_locator.field-0.0 = search rules in
    rw e (
    one_part-fault (Address c.args.row) c.args.text.now c.in_err-read_locator.field-0.0 (sym c.is_empty.ensures ∙ c.if-is_empty.false) (sym c.contains.ensures.value ∙ c.if-contains.false)
    (sym c.in_err-read_locator.ensures))

pub returns : goal.returns
returns c =
    rw c.one.ensures (
    one_part-locator (Address c.args.row) c.args.text.now c.in_ok-read_locator.field-0 (sym c.is_empty.ensures ∙ c.if-is_empty.false) (sym c.contains.ensures.value ∙ c.if-contains.false)
    (sym c.in_ok-read_locator.ensures))
