use Rattle.toml.specs.View.{table_view}
use Rattle.ddt_config.specs.laws.Same.{determined}
use Rattle.ddt_config.proofs.document.from_toml.Goals as goal

pub returns-in-Ok-clause-every : goal.returns-in-Ok-clause-every
returns-in-Ok-clause-every c = determined c.args.text.now (table_view c.in-Ok.table) c.in-Ok.ensures.ok c.from_table.result c.from_table.ensures.found c.from_table.ensures.refused
