use Rattle.ddt_report.specs.laws.Escaping.{shown-escaped}
use Rattle.ddt_report.proofs.laws.escaping_loses_nothing.Goals as goal

pub returns : goal.returns
returns c = shown-escaped
