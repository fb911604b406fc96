-- The blocks of a file of openoverlayrouter, as its oor.conf shows them, and the comments in place of those that are
-- missing.
use Rattle.std.specs.Prelude.{ℕ, List, [], ◌∷◌, ◌++◌, codes, decimal, Result, Ok, Err}
use Rattle.std.specs.List.{flat_map}
use Rattle.ddt_path.specs.declared.locator.Locator.{Locator}
use Rattle.ddt_path.specs.declared.record.Role.{Role}
use Rattle.ddt_path.specs.declared.record.Role.TheVariants.{Node, Ms}
use Rattle.ddt_text.specs.Written.{written_locator, written_prefix}
use Rattle.ddt_config.specs.declared.child.Child.{Child}
use Rattle.ddt_config.specs.declared.site_entry.SiteEntry.{SiteEntry}
use Rattle.ddt_deploy.specs.declared.export.eid_prefix.EidPrefix.{EidPrefix}
use Rattle.ddt_deploy.specs.declared.export.nodes.Delegation.{Delegation}
use Rattle.ddt_deploy.specs.declared.export.row.Missing.{Missing}
use Rattle.ddt_deploy.specs.declared.export.row.Row.{Row}
use Rattle.ddt_deploy.specs.Export.Rows.{reason}

-- the line in which a block begins
unfoldable pub opening : List ℕ → List ℕ
opening name = codes "\n" ++ name ++ codes " {\n"

-- the line of its prefix
unfoldable pub eid_line : EidPrefix → List ℕ
eid_line e = codes "    eid-prefix = " ++ written_locator e.address ++ codes "/" ++ decimal e.len ++ codes "\n"

-- the line of its Instance ID
unfoldable pub iid_line : EidPrefix → List ℕ
iid_line e = codes "    iid = " ++ decimal e.iid ++ codes "\n"

-- the front of a block: its name, and the prefix that it is of
unfoldable pub front_text : List ℕ → EidPrefix → List ℕ
front_text name e = opening name ++ eid_line e ++ iid_line e

-- the line in which a block ends
unfoldable pub closing : List ℕ
closing = codes "}\n"

-- the line of a key that has one word
unfoldable pub word_line : List ℕ → List ℕ → List ℕ
word_line key word = codes "    " ++ key ++ codes " = " ++ word ++ codes "\n"

-- further locators, each after a comma
abbrev pub more_locators : List Locator → List ℕ
more_locators ls = flat_map (λ l. codes ", " ++ written_locator l) ls

-- locators with commas between them
abbrev pub listed_locators : List Locator → List ℕ
listed_locators [] = []
listed_locators (l ∷ ls) = written_locator l ++ more_locators ls

-- a list of locators at a key
unfoldable pub locators_text : List ℕ → List Locator → List ℕ
locators_text key ls = codes "    " ++ key ++ codes " = { " ++ listed_locators ls ++ codes " }\n"

-- the comment in place of what is missing
unfoldable pub missing_text : List ℕ → Missing → List ℕ
missing_text p why = codes "\n# " ++ written_prefix p ++ codes ": not written: " ++ reason why ++ codes "\n"

-- a prefix that a DDT node is in charge of
unfoldable pub authority_text : EidPrefix → List ℕ
authority_text e = front_text (codes "ddt-auth-site") e ++ closing

-- what the servers of a delegation are: DDT nodes or Map-Servers
unfoldable pub delegation_type : Role → List ℕ
delegation_type Node = codes "CHILD_DDT_NODE"
delegation_type Ms = codes "MAP_SERVER_DDT_NODE"

-- the line of what they are
unfoldable pub type_line : Role → List ℕ
type_line role = word_line (codes "delegation-type") (delegation_type role)

-- the line of their locators
unfoldable pub nodes_line : List Locator → List ℕ
nodes_line locators = locators_text (codes "deleg-nodes") locators

-- a delegation, by NODE-REFERRAL or MS-REFERRAL
unfoldable pub referral_text : EidPrefix → Child → List ℕ
referral_text e c = front_text (codes "ddt-deleg-site") e ++ type_line c.role ++ nodes_line c.locators ++ closing

-- A site of Map-Servers that have these locators. The register has no keys, so somebody has to fill them in.
unfoldable pub lisp_site_text : List Locator → EidPrefix → List ℕ
lisp_site_text peers e = front_text (codes "lisp-site") e
    ++ codes "    key-type = 1\n    key = FILL-IN\n    accept-more-specifics = false\n"
    ++ locators_text (codes "ddt-ms-peers") peers ++ codes "    ddt-ms-peers-complete = true\n}\n"

-- a block, or the comment in its place
abbrev pub block_or_comment : (EidPrefix → List ℕ) → List ℕ → Result EidPrefix Missing → List ℕ
block_or_comment block p (Ok e) = block e
block_or_comment block p (Err why) = missing_text p why

abbrev pub zone_text : Row (List ℕ) → List ℕ
zone_text r = block_or_comment authority_text r.entry r.written

abbrev pub delegation_text : Row Delegation → List ℕ
delegation_text r = block_or_comment (λ e. referral_text e r.entry.child) r.entry.child.prefix r.written

abbrev pub site_text : List Locator → Row SiteEntry → List ℕ
site_text peers r = block_or_comment (lisp_site_text peers) r.entry.prefix r.written
