use Rattle.ddt_path.specs.laws.Prefix.{length-of_range, length-of_block}
use Rattle.ddt_path.proofs.prefix.Prefix.len.Goals as goal

pub returns-in-Range-clause-digits : goal.returns-in-Range-clause-digits
returns-in-Range-clause-digits c = length-of_range c.form.result c.args.self c.in-Range.iid c.in-Range.len c.form.ensures.path c.form.ensures.kept c.in-Range.is

pub returns-in-Block-clause-digits : goal.returns-in-Block-clause-digits
returns-in-Block-clause-digits c = length-of_block c.form.result c.args.self c.in-Block.iid c.in-Block.address c.in-Block.len c.form.ensures.path c.form.ensures.kept c.in-Block.is
