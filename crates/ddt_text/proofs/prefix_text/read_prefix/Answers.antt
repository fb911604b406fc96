use Rattle.std.proofs.Common.{arith, ◌∙◌, ap}
use Rattle.ddt_text.specs.FirstFault.{prefix_or_fault}
use Rattle.ddt_text.specs.laws.PrefixText.{star_case}
use Rattle.ddt_text.proofs.prefix_text.read_prefix.Goals as goal

pub returns-in-42 : goal.returns-in-42
returns-in-42 c = c.in_text.ensures ∙ ap prefix_or_fault c.range.ensures ∙ star_case c.args.text.now c.in-42.len_at_least c.in-42.len_below (omega arith)
