-- The tables of a page: which lines each takes, and how it marks them.
use Rattle.std.specs.Prelude.{ℕ, Bool, ◌||◌, not, ◌==◌, nat_lt, List, [], length, get_or, if◌then◌else◌, codes}
use Rattle.std.specs.List.{filter, slice_split, starts_with}
use Rattle.std.specs.Str.{bytes_eq}
use Rattle.ddt_report.specs.declared.tables.Table.{Table}
use Rattle.ddt_report.specs.declared.tables.Table.TheVariants.{Summary, Sites, Zones, Groups, Blocks, Caches, Steps}
use Rattle.ddt_report.specs.declared.row_marks.Mark.{Mark}
use Rattle.ddt_report.specs.declared.row_marks.Mark.TheVariants.{Plain, Added, Removed, Changed, Step, Wait}

-- a line begins with this
abbrev pub begins : List ℕ → List ℕ → Bool
begins line front = starts_with ◌==◌ line front

-- Whether a table has a row of this line. A block begins with the prefix of everything, or with an Instance ID.
abbrev pub has_row : Table → List ℕ → Bool
has_row Summary line = begins line (codes "summary\t")
has_row Sites line = begins line (codes "site\t")
has_row Zones line = begins line (codes "zone\t")
has_row Groups line = begins line (codes "group\t")
has_row Blocks line = begins line (codes "*") || begins line (codes "[")
has_row Caches line = begins line (codes "caches\t")
has_row Steps line = nat_lt 0 (length line)

-- the rows of a table in a text of lines
abbrev pub rows_in : Table → List ℕ → List (List ℕ)
rows_in table text = filter (has_row table) (slice_split (λ b. b == 10) text)

-- the fields of a line
abbrev pub fields_in : List ℕ → List (List ℕ)
fields_in line = slice_split (λ b. b == 9) line

-- the field at a place, empty where the line has fewer
abbrev pub field : List (List ℕ) → ℕ → List ℕ
field fields place = get_or fields place []

-- what becomes of something that is there before, or isn't, and is there after, or isn't
abbrev pub mark_between : Bool → Bool → Mark
mark_between before after = if before then (if after then Changed else Removed) else (if after then Added else Changed)

-- the same in a word of `diff`
abbrev pub mark_named : List ℕ → Mark
mark_named word = if bytes_eq word (codes "added") then Added else if bytes_eq word (codes "removed") then Removed else Changed

-- whether a register has what a field shows
abbrev pub is_there : List ℕ → Bool
is_there shown = not (bytes_eq shown (codes "-"))

-- whether identifiers with this outcome get an answer with servers of a registered site
abbrev pub is_registered : List ℕ → Bool
is_registered outcome = begins outcome (codes "registered ")

-- a step, by its first word
abbrev pub mark_step : List ℕ → Mark
mark_step word = if bytes_eq word (codes "wait") then Wait else Step

abbrev pub mark_of : Table → List (List ℕ) → Mark
mark_of Summary fields = Plain
mark_of Sites fields = mark_named (field fields 2)
mark_of Zones fields = mark_between (is_there (field fields 2)) (is_there (field fields 3))
mark_of Groups fields = mark_named (field fields 2)
mark_of Blocks fields = mark_between (is_registered (field fields 1)) (is_registered (field fields 2))
mark_of Caches fields = Plain
mark_of Steps fields = mark_step (field fields 0)

-- the class of a marked row
abbrev pub mark_class : Mark → List ℕ
mark_class Plain = codes "plain"
mark_class Added = codes "added"
mark_class Removed = codes "removed"
mark_class Changed = codes "changed"
mark_class Step = codes "step"
mark_class Wait = codes "wait"
