use Rattle.std.proofs.Common.{arith, ◌∙◌, sym, ◌-◌}
use Rattle.ddt_path.specs.laws.Prefix.{cut_long, cut_long_tail, take-front, drop-front, take-xeid_path-short, length-xeid_path}
use Rattle.ddt_path.specs.DigitLemmas.{length-digits}
use Rattle.ddt_path.specs.Path.{digits}
use Rattle.ddt_path.proofs.prefix.Prefix.cut.Goals as goal

pub of_form-requires : goal.of_form-requires
of_form-requires c = (omega arith, c.if-len-le32.true, drop-front 32 c.args.len (digits 32 c.front32.result) (digits 32 c.args.x.iid) (length-digits 32 c.args.x.iid) c.if-len-le32.true c.front32.ensures)

pub returns-then-len-le32 : goal.returns-then-len-le32
returns-then-len-le32 c =
    c.of_form.ensures
    ∙ take-front 32 c.args.len (digits 32 c.front32.result) (digits 32 c.args.x.iid) (length-digits 32 c.args.x.iid) c.if-len-le32.true c.front32.ensures
    ∙ sym (take-xeid_path-short c.args.x c.args.len c.if-len-le32.true)

pub front-address-requires : goal.front-address-requires
front-address-requires c = omega (arith, length-xeid_path c.args.x)

pub of_form-requires-2 : goal.of_form-requires-2
of_form-requires-2 c = (
  omega arith,
  rw c.front-address.ensures.width c.front-address.ensures.number,
  omega (arith, length-xeid_path c.args.x, c.front-address.ensures.width),
  cut_long_tail c.args.x (c.args.len - 33) c.front-address.result (omega (arith, length-xeid_path c.args.x)) c.front-address.ensures.digits,
)

pub returns : goal.returns
returns c = c.of_form-2.ensures ∙ cut_long c.args.x c.args.len c.front-address.result (omega arith) c.requires c.front-address.ensures.family c.front-address.ensures.width c.front-address.ensures.digits
