use Rattle.std.proofs.Common.{◌≡◌, ◌++◌, map, take}
use Rattle.ddt_path.specs.Path.{xeid_path}
use Rattle.ddt_asking.specs.Questions.{question_to}
use Rattle.ddt_asking.proofs.question.push_set.Given as goal

-- the questions to the servers so far
abbrev pub invariant-loop-server : goal.invariant-loop-server
invariant-loop-server l =
    l.questions.items
    ≡ l.fn.questions.items ++ map (question_to l.accepted (xeid_path l.x)) (take l.server-index l.server-items)
