use Rattle.ddt_text.specs.laws.Number.{number_in-sound, number_in-complete}
use Rattle.ddt_text.proofs.number.number_laws.Goals as goal

pub returns-clause-read : goal.returns-clause-read
returns-clause-read c = λ most number small le. number_in-complete most number small le

pub returns-clause-taken : goal.returns-clause-taken
returns-clause-taken c = λ most text number small e. number_in-sound most text number small e
