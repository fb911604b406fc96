use Rattle.std.proofs.Common.{take}
use Rattle.ddt_path.specs.Path.{xeid_path}
use Rattle.ddt_asking.specs.Changed.{AreChanged}
use Rattle.ddt_asking.proofs.questions_of_change.of_other_records.Given as goal

-- those of the questions so far
abbrev pub invariant-loop-question : goal.invariant-loop-question
invariant-loop-question l =
    AreChanged l.before (xeid_path l.x) (take l.question-index l.questions) l.changed.items
