use Rattle.ddt_text.specs.laws.Readers.{spelled_by, prefixes_are_read}
use Rattle.ddt_text.proofs.prefix_text.parse_prefix.Goals as goal

pub returns-clause-spelled : goal.returns-clause-spelled
returns-clause-spelled c = spelled_by prefixes_are_read c.args.text.now c.read_prefix.result c.read_prefix.ensures

pub returns-clause-laws : goal.returns-clause-laws
returns-clause-laws c = prefixes_are_read
