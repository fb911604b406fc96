-- What a configuration holds, each with its prefix in openoverlayrouter (OOR), or with why it is missing there.
use Rattle.std.specs.Prelude.{◌≡◌, ℕ, Bool, true, false, List, [], map, codes, Result, Ok, Err, IfOk}
use Rattle.ddt_path.specs.declared.form.Form.TheVariants.{Block}
use Rattle.ddt_path.specs.Path.{path}
use Rattle.ddt_config.specs.declared.child.Child.{Child}
use Rattle.ddt_config.specs.declared.site_entry.SiteEntry.{SiteEntry}
use Rattle.ddt_config.specs.declared.authority.Content.{Content}
use Rattle.ddt_config.specs.declared.authority.Content.TheVariants.{Children, Sites}
use Rattle.ddt_config.specs.declared.authority.Authority.{Authority}
use Rattle.ddt_deploy.specs.declared.export.eid_prefix.EidPrefix.{EidPrefix}
use Rattle.ddt_deploy.specs.declared.export.row.Missing.{Missing}
use Rattle.ddt_deploy.specs.declared.export.row.Missing.TheVariants.{Range, InstanceId, WholeFamily, OwnZone, Inside, MapServerZone}
use Rattle.ddt_deploy.specs.declared.export.nodes.Delegation.{Delegation}

-- the path of a block
abbrev pub block_path : EidPrefix → List ℕ
block_path e = path (Block e.iid e.address e.len)

-- what is written in OOR's way is the same prefix
abbrev pub IsNamedBy : List ℕ → Result EidPrefix Missing → Type 0
IsNamedBy p written = IfOk written (λ e. block_path e ≡ p)

-- what is missing, in words
abbrev pub reason : Missing → List ℕ
reason Range = codes "OOR has no ranges of instances"
reason InstanceId = codes "OOR has no Instance ID above 16777215"
reason WholeFamily = codes "OOR can't delegate a whole family of an instance"
reason OwnZone = codes "it is a zone of this group, and what it delegates is here"
reason Inside = codes "OOR drops what is inside another one of these"
reason MapServerZone = codes "OOR's Map-Server has only sites"

-- whether a delegation or a site that is missing gets a wrong answer; one to the own group doesn't
abbrev pub is_loss : Missing → Bool
is_loss OwnZone = false
is_loss _ = true

abbrev pub is_lost : Result EidPrefix Missing → Bool
is_lost (Ok e) = false
is_lost (Err why) = is_loss why

-- a delegation that is made in a zone
abbrev pub delegation_in : List ℕ → Child → Delegation
delegation_in zone c = record { zone = zone; child = c }

-- the delegations that a zone holds, none where it holds sites
abbrev pub delegations_in : List ℕ → Content → List Delegation
delegations_in zone (Children cs) = map (delegation_in zone) cs
delegations_in zone (Sites ss) = []

abbrev pub delegations_of : Authority → List Delegation
delegations_of a = delegations_in a.prefix a.content

-- the sites that a zone holds, none where it holds delegations
abbrev pub sites_in : Content → List SiteEntry
sites_in (Children cs) = []
sites_in (Sites ss) = ss

abbrev pub sites_of : Authority → List SiteEntry
sites_of a = sites_in a.content
