use Rattle.ddt_text.specs.laws.Readers.{spelled_by, xeids_are_read}
use Rattle.ddt_text.proofs.xeid_text.parse_xeid.Goals as goal

pub returns-clause-spelled : goal.returns-clause-spelled
returns-clause-spelled c = spelled_by xeids_are_read c.args.text.now c.read_xeid.result c.read_xeid.ensures

pub returns-clause-laws : goal.returns-clause-laws
returns-clause-laws c = xeids_are_read
