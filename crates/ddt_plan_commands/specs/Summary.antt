-- The summary of what differs, as lines and as a JSON object.
use Rattle.std.specs.Prelude.{ℕ, nat_lt, ◌-◌, ◌^◌, Bool, true, false, List, [], ◌++◌, codes, decimal, length, if◌then◌else◌}
use Rattle.serde_json.specs.Data.{Data, number, unsigned, string, object, member, no_members}
use Rattle.serde_json.specs.Written.{compact_text}
use Rattle.ddt_lines.specs.Lines.{ended}
use Rattle.ddt_plan.specs.declared.items.ItemChanges.{ItemChanges}
use Rattle.ddt_plan_commands.specs.declared.arguments.Form.{Form}
use Rattle.ddt_plan_commands.specs.declared.arguments.Form.TheVariants.{Text, Json}
use Rattle.ddt_plan_commands.specs.declared.effects.Effects.{Effects}
use Rattle.ddt_plan_commands.specs.declared.extent.Extent.{Extent}
use Rattle.ddt_plan_commands.specs.declared.review.Review.{Review}
use Rattle.ddt_plan_commands.specs.declared.row_tally.RowTally.{RowTally}
use Rattle.ddt_plan_commands.specs.Review.{is_different, tally_of}

-- A number up to 2^128 - 2; one that is larger, and so was cut to 2^128 - 1, is said to be at least that.
unfoldable pub number_text : ℕ → List ℕ
number_text n = if nat_lt n (2 ^ 128 - 1) then decimal n else codes "at least 340282366920938463463374607431768211455"

-- the start of a line of the summary
unfoldable pub head_text : List ℕ → List ℕ
head_text word = codes "summary\t" ++ word

-- a field of a word and a number of blocks or addresses
unfoldable pub large_field : List ℕ → ℕ → List ℕ
large_field word n = codes "\t" ++ word ++ codes " " ++ number_text n

-- a field of a word and a number of rows
unfoldable pub count_field : List ℕ → ℕ → List ℕ
count_field word n = codes "\t" ++ word ++ codes " " ++ decimal n

-- So many blocks, and so many addresses of each family.
unfoldable pub extent_text : List ℕ → Extent → List ℕ
extent_text word e =
    head_text word ++ large_field (codes "blocks") e.blocks ++ large_field (codes "IPv4 addresses") e.ipv4
    ++ large_field (codes "IPv6 addresses") e.ipv6

-- So many that are gone, that are new and that differ.
unfoldable pub tally_text : List ℕ → RowTally → List ℕ
tally_text word t =
    head_text word ++ count_field (codes "lost") t.lost ++ count_field (codes "gained") t.gained
    ++ count_field (codes "changed") t.changed

-- how many groups' servers need another configuration
unfoldable pub reload_text : ℕ → List ℕ
reload_text groups = head_text (codes "groups to reload") ++ codes "\t" ++ decimal groups

-- The lines of the blocks that become holes, that lose their registration and that get other Map-Servers.
unfoldable pub extents_text : Effects → List ℕ
extents_text e =
    ended (extent_text (codes "become holes") e.holes) ++ ended (extent_text (codes "lose registration") e.unregistered)
    ++ ended (extent_text (codes "change servers") e.moved)

-- The lines of the sites and the zones.
unfoldable pub tallies_text : ItemChanges → List ℕ
tallies_text items =
    ended (tally_text (codes "sites") (tally_of items.sites.items))
    ++ ended (tally_text (codes "zones") (tally_of items.zones.items))

-- The lines of the summary: the blocks that become holes, that lose their registration and that get other Map-Servers;
-- then the sites, the zones, and the groups whose servers must reload.
abbrev pub summary_text : Review → List ℕ
summary_text v = extents_text v.effects ++ tallies_text v.items ++ ended (reload_text (length v.groups.items))

-- The numbers of an extent as JSON strings, since they may be larger than a reader's numbers.
abbrev pub extent_data : Extent → Data
extent_data e =
    object (member (codes "blocks") (string (number_text e.blocks)) (member (codes "ipv4") (string (number_text e.ipv4))
    (member (codes "ipv6") (string (number_text e.ipv6)) no_members)))

-- the numbers of a tally
abbrev pub tally_data : RowTally → Data
tally_data t =
    object (member (codes "changed") (number (unsigned t.changed)) (member (codes "gained") (number (unsigned t.gained))
    (member (codes "lost") (number (unsigned t.lost)) no_members)))

-- the members of the summary
abbrev pub numbers_data : Review → Data
numbers_data v =
    object (member (codes "become-holes") (extent_data v.effects.holes)
    (member (codes "change-servers") (extent_data v.effects.moved)
    (member (codes "groups-to-reload") (number (unsigned (length v.groups.items)))
    (member (codes "lose-registration") (extent_data v.effects.unregistered)
    (member (codes "sites") (tally_data (tally_of v.items.sites.items))
    (member (codes "zones") (tally_data (tally_of v.items.zones.items)) no_members))))))

-- The summary as one object, of the one member `summary`.
abbrev pub summary_data : Review → Data
summary_data v = object (member (codes "summary") (numbers_data v) no_members)

-- the summary in a form
abbrev pub summary_in : Form → Review → List ℕ
summary_in Text v = summary_text v
summary_in Json v = ended (compact_text (summary_data v))

-- The summary, if anything differs.
abbrev pub written_summary : Form → Review → List ℕ
written_summary form v = if is_different v then summary_in form v else []
