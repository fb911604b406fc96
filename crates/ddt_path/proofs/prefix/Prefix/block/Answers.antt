use Rattle.std.proofs.Common.{arith, sym, ◌∙◌}
use Rattle.ddt_path.specs.declared.form.Form.TheVariants.{Block}
use Rattle.ddt_path.specs.laws.Prefix.{prefix_of-tail, prefix_of-made}
use Rattle.ddt_path.proofs.prefix.Prefix.block.Goals as goal

pub returns-then-not-is_front : goal.returns-then-not-is_front
returns-then-not-is_front c = sym (prefix_of-tail (Block c.args.iid c.args.address c.args.len) (rw (← c.width.ensures.width) c.if-len-width.false) (sym c.is_front.ensures ∙ c.if-not-is_front.true))

pub of_form-requires : goal.of_form-requires
of_form-requires c = (omega arith, rw (← c.width.ensures.width) c.width.ensures.number, rw (← c.width.ensures.width) c.if-len-width.false, sym c.is_front.ensures ∙ c.if-not-is_front.false)

pub returns : goal.returns
returns c = rw c.of_form.ensures (sym (prefix_of-made (Block c.args.iid c.args.address c.args.len) (of_form-requires c.before).2 (of_form-requires c.before).3))
