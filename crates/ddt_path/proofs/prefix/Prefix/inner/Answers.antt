use Rattle.ddt_path.specs.declared.locator.Locator.TheVariants.{V4}
use Rattle.ddt_path.specs.laws.Prefix.{inner_of_range, inner_of_block, inner_range_fits, inner_block_fits}
use Rattle.ddt_path.proofs.prefix.Prefix.inner.Goals as goal

pub returns-in-Range-clause-front : goal.returns-in-Range-clause-front
returns-in-Range-clause-front c = inner_of_range c.form.result c.args.self c.in-Range.iid c.in-Range.len (V4 0) c.form.ensures.path c.form.ensures.kept c.in-Range.is

pub returns-in-Block-clause-front : goal.returns-in-Block-clause-front
returns-in-Block-clause-front c = inner_of_block c.form.result c.args.self c.in-Block.iid c.in-Block.address c.in-Block.len c.form.ensures.path c.form.ensures.kept c.in-Block.is

pub returns-in-Range-clause-fits : goal.returns-in-Range-clause-fits
returns-in-Range-clause-fits c = inner_range_fits c.form.result c.args.self c.in-Range.iid c.in-Range.len (V4 0) c.form.ensures.path c.form.ensures.kept c.in-Range.is

pub returns-in-Block-clause-fits : goal.returns-in-Block-clause-fits
returns-in-Block-clause-fits c = inner_block_fits c.form.result c.args.self c.in-Block.iid c.in-Block.address c.in-Block.len c.form.ensures.path c.form.ensures.kept c.in-Block.is
