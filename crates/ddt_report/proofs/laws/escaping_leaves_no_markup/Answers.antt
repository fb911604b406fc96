use Rattle.std.proofs.Common.{refl}
use Rattle.ddt_report.specs.laws.Escaping.{inert-escaped, whole-escaped}
use Rattle.ddt_report.proofs.laws.escaping_leaves_no_markup.Goals as goal

pub returns-clause-inert : goal.returns-clause-inert
returns-clause-inert c = λ text. rw (inert-escaped text) refl

pub returns-clause-references : goal.returns-clause-references
returns-clause-references c = λ text. rw (whole-escaped text) refl
