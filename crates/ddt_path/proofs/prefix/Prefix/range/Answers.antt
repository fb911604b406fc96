use Rattle.std.proofs.Common.{arith, sym, ◌∙◌}
use Rattle.ddt_path.specs.declared.form.Form.TheVariants.{Range}
use Rattle.ddt_path.specs.laws.Prefix.{prefix_of-tail, prefix_of-made}
use Rattle.ddt_path.proofs.prefix.Prefix.range.Goals as goal

pub returns-then-not-is_front32 : goal.returns-then-not-is_front32
returns-then-not-is_front32 c = sym (prefix_of-tail (Range c.args.iid c.args.len) c.if-len-gt32.false (sym c.is_front32.ensures ∙ c.if-not-is_front32.true))

pub of_form-requires : goal.of_form-requires
of_form-requires c = (omega arith, c.if-len-gt32.false, sym c.is_front32.ensures ∙ c.if-not-is_front32.false)

pub returns : goal.returns
returns c = rw c.of_form.ensures (sym (prefix_of-made (Range c.args.iid c.args.len) c.if-len-gt32.false (of_form-requires c.before).2))
