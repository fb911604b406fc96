use Rattle.ddt_text.specs.laws.PrefixText.{range_case}
use Rattle.ddt_text.proofs.prefix_text.read_bracketed.Goals as goal

pub returns-in_default-len1-up : goal.returns-in_default-len1-up
returns-in_default-len1-up c = range_case c.args.text.now c.in_ok-inner.inner.now c.in_ok-inner.rest.now c.cut.result.0.now c.cut.result.1.now c.read_range.result c.in_ok-inner.ensures c.cut.ensures.front c.cut.ensures.back c.in_default-len1-up.len_at_least c.read_range.ensures
