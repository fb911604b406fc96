use Rattle.std.proofs.Common.{sym, ◌∙◌, refl}
use Rattle.std.proofs.lemmas.List.Folds.{list_all-map}
use Rattle.toml.specs.View.{view}
use Rattle.ddt_config.specs.Table.{is_table_value}
use Rattle.ddt_config.proofs.members.tables_at.Goals as goal

pub returns-then-are_tables : goal.returns-then-are_tables
returns-then-are_tables c = rw (c.in_ok-values.ensures, list_all-map is_table_value view c.in_ok-values.values.now ∙ sym c.are_tables.ensures ∙ c.if-are_tables.true) refl

pub returns-else-are_tables : goal.returns-else-are_tables
returns-else-are_tables c = rw (c.in_ok-values.ensures, list_all-map is_table_value view c.in_ok-values.values.now ∙ sym c.are_tables.ensures ∙ c.if-are_tables.false) refl
