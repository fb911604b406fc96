-- The sections of a page: a title, and the rows of a table.
use Rattle.std.specs.Prelude.{ℕ, ◌-◌, ◌==◌, nat_lt, List, [], ◌++◌, length, take, if◌then◌else◌, codes, decimal}
use Rattle.std.specs.List.{flat_map}
use Rattle.ddt_report.specs.declared.tables.Table.{Table}
use Rattle.ddt_report.specs.declared.tables.Table.TheVariants.{Summary, Sites, Zones, Groups, Blocks, Caches, Steps}
use Rattle.ddt_report.specs.Html.{cell_text}
use Rattle.ddt_report.specs.Tables.{fields_in, mark_class, mark_of, rows_in}

unfoldable pub title_of : Table → List ℕ
title_of Summary = codes "Summary"
title_of Sites = codes "Sites that differ"
title_of Zones = codes "Zones that differ"
title_of Groups = codes "Groups that differ, or whose servers load another configuration"
title_of Blocks = codes "Blocks of identifiers that are answered otherwise"
title_of Caches = codes "What caches keep after the change"
title_of Steps = codes "Rollout, step by step"

-- the heads of the columns
unfoldable pub columns_of : Table → List ℕ
columns_of Summary = codes "<th></th><th>What</th><th colspan='3'>How many</th>"
columns_of Sites = codes "<th></th><th>EID-prefix</th><th>Change</th><th>ETRs before</th><th>ETRs after</th>"
columns_of Zones = codes "<th></th><th>EID-prefix</th><th>Group before</th><th>Group after</th>"
columns_of Groups = codes "<th></th><th>Group</th><th>Change</th><th>Before</th><th>After</th>"
columns_of Blocks = codes "<th>Block</th><th>Outcome before</th><th>Outcome after</th>"
columns_of Caches = codes "<th></th><th>What</th><th>For at most</th>"
columns_of Steps = codes "<th></th><th>Number or time</th><th>What</th><th>Group or locators</th>"

-- the command that lists all rows
unfoldable pub command_of : Table → List ℕ
command_of Steps = codes "ddtplan rollout"
command_of _ = codes "ddtplan diff"

-- the row of a line
unfoldable pub row_text : Table → List ℕ → List ℕ
row_text table line =
    codes "<tr class='" ++ mark_class (mark_of table (fields_in line)) ++ codes "'>"
    ++ flat_map cell_text (fields_in line) ++ codes "</tr>\n"

-- the line that says how many rows are left out
unfoldable pub left_out_line : Table → ℕ → List ℕ
left_out_line table count =
    codes "<p>" ++ decimal count ++ codes " more rows are left out: <code>" ++ command_of table
    ++ codes "</code> lists them.</p>\n"

-- the same of so many rows, if any are left out
abbrev pub left_out_text : Table → ℕ → List ℕ
left_out_text table rows = if nat_lt 1000 rows then left_out_line table (rows - 1000) else []

-- the front of a table, with the heads of its columns
unfoldable pub columns_line : Table → List ℕ
columns_line table = codes "<table><thead><tr>" ++ columns_of table ++ codes "</tr></thead>\n<tbody>\n"

unfoldable pub back_text : List ℕ
back_text = codes "</tbody>\n</table>\n"

-- a table of the first 1,000 rows
unfoldable pub table_text : Table → List (List ℕ) → List ℕ
table_text table rows =
    columns_line table ++ flat_map (row_text table) (take 1000 rows) ++ back_text
    ++ left_out_text table (length rows)

-- the same, or that there are no rows
abbrev pub rows_text : Table → List (List ℕ) → List ℕ
rows_text table rows = if length rows == 0 then codes "<p>None.</p>\n" else table_text table rows

-- the title of a section
unfoldable pub heading_text : List ℕ → List ℕ
heading_text title = codes "<h2>" ++ title ++ codes "</h2>\n"

-- a table's section, with its rows in a text of lines
unfoldable pub section_text : Table → List ℕ → List ℕ
section_text table text = heading_text (title_of table) ++ rows_text table (rows_in table text)
