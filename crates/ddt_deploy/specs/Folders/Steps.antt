-- What a list of steps makes of a folder.
use Rattle.std.specs.Prelude.{◌≡◌, List, [], ◌∷◌, ◌++◌, Some}
use Rattle.ddt_deploy.specs.declared.folders.file_name.FileName.{FileName}
use Rattle.ddt_deploy.specs.declared.folders.step.NamedFile.{NamedFile}
use Rattle.ddt_deploy.specs.declared.folders.step.Step.{Step}
use Rattle.ddt_deploy.specs.declared.folders.step.Step.TheVariants.{Add, Change, Remove}
use Rattle.ddt_deploy.specs.Folders.Contents.{Contents, placed, removed, with_beside, IsAsBefore}

-- the file that a step is done with
abbrev pub name_of : Step → FileName
name_of (Add file) = file.name
name_of (Change file) = file.name
name_of (Remove name) = name

-- a file is written beside and put in its place
abbrev pub replaced : NamedFile → Contents → Contents
replaced file s = placed file.name (with_beside file.name (Some file.bytes) s)

-- what a step makes of a folder
abbrev pub taken : Step → Contents → Contents
taken (Add file) s = replaced file s
taken (Change file) s = replaced file s
taken (Remove name) s = removed name s

-- and what steps make of it, one after the other
abbrev pub after : List Step → Contents → Contents
after [] s = s
after (step ∷ steps) s = after steps (taken step s)

-- A step failed, and no other was begun: the files are those that the steps before it make, so each is the old one or
-- the new one, and what stands beside the failed one may be anything.
pub record HasStopped (steps : List Step) (name : FileName) (s t : Contents) : Type 0 where
  pub done : List Step
  pub step : Step
  pub left : List Step
  pub all : steps ≡ done ++ step ∷ left
  pub at : name_of step ≡ name
  pub files : IsAsBefore name (after done s) t
