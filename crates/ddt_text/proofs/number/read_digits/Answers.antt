use Rattle.std.proofs.Common.{refl, sym, ◌∙◌, arith}
use Rattle.ddt_text.proofs.NumberLemmas.{one_digit_more, no_digit_more, all_digits}
use Rattle.ddt_text.proofs.number.read_digits.Goals as goal

pub loop-byte-init : goal.loop-byte-init
loop-byte-init c = record { digits = refl; value = refl; fits = omega arith }

pub loop-byte-preserved : goal.loop-byte-preserved
loop-byte-preserved c =
    one_digit_more c.args.text.now c.args.most c.loop-byte.byte-index c.loop-byte.number c.in_ok-number.number
    c.loop-byte-test.true c.loop-byte.invariant c.in_ok-number.ensures

pub returns-in_err-number : goal.returns-in_err-number
returns-in_err-number c =
    rw (no_digit_more c.args.text.now c.args.most c.loop-byte.byte-index c.loop-byte.number c.loop-byte-test.true
    c.loop-byte.invariant c.in_err-number.ensures) c.from_residual.ensures

pub returns : goal.returns
returns c =
    all_digits c.args.text.now c.args.most c.loop-byte.byte-index c.loop-byte.number c.loop-byte-test.false
    c.loop-byte.invariant
