use Rattle.std.proofs.Common.{sym, ◌∙◌, refl}
use Rattle.std.proofs.lemmas.List.Folds.{list_all-map}
use Rattle.toml.specs.View.{view}
use Rattle.ddt_config.specs.Table.{is_text_value}
use Rattle.ddt_config.proofs.members.texts_at.Goals as goal

pub returns-then-are_texts : goal.returns-then-are_texts
returns-then-are_texts c = rw (c.in_ok-values.ensures, list_all-map is_text_value view c.in_ok-values.values.now ∙ sym c.are_texts.ensures ∙ c.if-are_texts.true) refl

pub returns-else-are_texts : goal.returns-else-are_texts
returns-else-are_texts c = rw (c.in_ok-values.ensures, list_all-map is_text_value view c.in_ok-values.values.now ∙ sym c.are_texts.ensures ∙ c.if-are_texts.false) refl
