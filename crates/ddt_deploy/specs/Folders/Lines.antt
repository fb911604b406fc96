-- A plan in lines.
use Rattle.std.specs.Prelude.{ℕ, List, ◌++◌, length, codes, decimal}
use Rattle.std.specs.List.{flat_map}
use Rattle.ddt_deploy.specs.declared.folders.file_name.FileName.{FileName}
use Rattle.ddt_deploy.specs.declared.folders.step.Step.{Step}
use Rattle.ddt_deploy.specs.declared.folders.step.Step.TheVariants.{Add, Change, Remove}
use Rattle.ddt_deploy.specs.declared.folders.plan.Plan.{Plan}
use Rattle.ddt_deploy.specs.Folders.Names.{file_text}
use Rattle.ddt_deploy.specs.Folders.Steps.{name_of}

-- a word, the name of a file, and a line feed
abbrev pub named_line : List ℕ → FileName → List ℕ
named_line word name = word ++ file_text name ++ codes "\n"

-- what is done with a file, in a word
abbrev pub word_of : Step → List ℕ
word_of (Add file) = codes "new "
word_of (Change file) = codes "changed "
word_of (Remove name) = codes "removed "

-- the line of a step
abbrev pub step_line : Step → List ℕ
step_line step = named_line (word_of step) (name_of step)

-- how many files stay as they are
abbrev pub same_line : ℕ → List ℕ
same_line count = codes "same " ++ decimal count ++ codes "\n"

-- the line of a file that is left of a group that is gone
abbrev pub left_line : FileName → List ℕ
left_line name = named_line (codes "gone ") name

-- the line of one that is left since somebody altered it
abbrev pub altered_line : FileName → List ℕ
altered_line name = named_line (codes "altered ") name

-- what is done, how many files stay, and what is left
abbrev pub plan_text : Plan → List ℕ
plan_text plan =
    flat_map step_line plan.steps ++ same_line (length plan.same) ++ flat_map left_line plan.left
    ++ flat_map altered_line plan.altered
