use Rattle.ddt_text.specs.laws.Readers.{spelled_by, locators_are_read}
use Rattle.ddt_text.proofs.address_text.parse_locator.Goals as goal

pub returns-clause-spelled : goal.returns-clause-spelled
returns-clause-spelled c = spelled_by locators_are_read c.args.text.now c.read_locator.result c.read_locator.ensures

pub returns-clause-laws : goal.returns-clause-laws
returns-clause-laws c = locators_are_read
