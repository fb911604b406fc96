-- What became of each locator of a register, as lines.
use Rattle.std.specs.Prelude.{ℕ, List, [], ◌∷◌, ◌++◌, codes}
use Rattle.ddt_path.specs.declared.locator.Locator.{Locator}
use Rattle.ddt_text.specs.Written.{written_locator}
use Rattle.ddt_register.specs.declared.group.Group.{Group}

-- a locator, a tab, and the one that it became
abbrev pub moved_line : Locator → Locator → List ℕ
moved_line old new = written_locator old ++ codes "\t" ++ written_locator new ++ codes "\n"

-- a line for each locator of the one list that has one at its place in the other
abbrev pub locator_lines : List Locator → List Locator → List ℕ
locator_lines [] news = []
locator_lines (old ∷ olds) [] = []
locator_lines (old ∷ olds) (new ∷ news) = moved_line old new ++ locator_lines olds news

-- the same of the groups at each place
abbrev pub group_lines : List Group → List Group → List ℕ
group_lines [] news = []
group_lines (old ∷ olds) [] = []
group_lines (old ∷ olds) (new ∷ news) = locator_lines old.locators new.locators ++ group_lines olds news
