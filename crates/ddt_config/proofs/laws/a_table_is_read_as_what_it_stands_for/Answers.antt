use Rattle.ddt_config.proofs.StandsLemmas.{tables_are_read}
use Rattle.ddt_config.proofs.laws.a_table_is_read_as_what_it_stands_for.Goals as goal

pub returns : goal.returns
returns c = tables_are_read
