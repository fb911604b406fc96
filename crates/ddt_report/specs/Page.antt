-- A page: its head, its sections, and its end.
use Rattle.std.specs.Prelude.{ℕ, List, ◌++◌, codes}
use Rattle.ddt_report.specs.declared.page.Report.{Report}
use Rattle.ddt_report.specs.declared.tables.Table.TheVariants.{Summary, Sites, Zones, Groups, Blocks, Caches, Steps}
use Rattle.ddt_report.specs.Head.{opening_text, style_text, title_text}
use Rattle.ddt_report.specs.Html.{escaped}
use Rattle.ddt_report.specs.Sections.{heading_text, section_text}

-- which registers are compared, and what the marks mean
unfoldable pub paths_text : List ℕ → List ℕ → List ℕ
paths_text before after =
    codes "<p>From <code>" ++ escaped before ++ codes "</code> to <code>" ++ escaped after ++ codes "</code>.</p>\n"
    ++ codes "<p class='legend'><span class='added'>added, or registered only now</span>"
    ++ codes "<span class='removed'>removed, or no longer registered</span>"
    ++ codes "<span class='changed'>changed</span></p>\n"

-- the picture, which is SVG
unfoldable pub figure_text : List ℕ → List ℕ
figure_text picture = codes "<figure>\n" ++ picture ++ codes "</figure>\n"

-- the title of its section
unfoldable pub picture_title : List ℕ
picture_title = codes "Zones before and after"

-- its section
unfoldable pub picture_text : List ℕ → List ℕ
picture_text picture = heading_text picture_title ++ figure_text picture

-- what differs in the rows
unfoldable pub causes_text : List ℕ → List ℕ
causes_text changes = section_text Sites changes ++ section_text Zones changes ++ section_text Groups changes

-- what that changes for those who ask
unfoldable pub effects_text : Report → List ℕ
effects_text r =
    section_text Blocks r.changes ++ section_text Steps r.steps ++ section_text Caches r.changes

unfoldable pub closing_text : List ℕ
closing_text = codes "</body>\n</html>\n"

unfoldable pub page_text : Report → List ℕ
page_text r =
    (opening_text ++ style_text ++ title_text) ++ paths_text r.before r.after ++ section_text Summary r.changes
    ++ picture_text r.picture ++ causes_text r.changes ++ effects_text r ++ closing_text
