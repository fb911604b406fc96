use Rattle.ddt_organisations.proofs.SeamLemmas.SideLemmas.{sides_answer}
use Rattle.ddt_organisations.proofs.seam.laws.sides_answer_as_joined.Goals as goal

pub returns : goal.returns
returns c =
    sides_answer c.a_compiled_configuration_answers_honestly.ensures.honest
    c.a_compiled_configuration_answers_honestly.ensures.shaped
