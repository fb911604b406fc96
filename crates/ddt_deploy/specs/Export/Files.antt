-- The file of a group's servers: each zone, each delegation and each site has one block there, or one comment.
use Rattle.std.specs.Prelude.{◌≡◌, ℕ, Bool, not, List, ◌++◌, map, IsPermutation}
use Rattle.std.specs.List.{All, flat_map, list_all}
use Rattle.ddt_path.specs.declared.record.Role.{Role}
use Rattle.ddt_path.specs.declared.record.Role.TheVariants.{Node, Ms}
use Rattle.ddt_config.specs.declared.config.ServerConfig.{ServerConfig}
use Rattle.ddt_config.specs.declared.site_entry.SiteEntry.{SiteEntry}
use Rattle.ddt_deploy.specs.declared.export.eid_prefix.EidPrefix.{EidPrefix}
use Rattle.ddt_deploy.specs.declared.export.nodes.Delegation.{Delegation}
use Rattle.ddt_deploy.specs.declared.export.row.Row.{Row}
use Rattle.ddt_deploy.specs.Export.Rows.{IsNamedBy, delegations_of, is_lost, sites_of}
use Rattle.ddt_deploy.specs.Export.Blocks.{authority_text, delegation_text, site_text, zone_text}

-- these rows are of these entries, each once, and a block has its entry's prefix
pub record AreRowsOf {A : Type 0} (prefix : A → List ℕ) (entries : List A) (rows : List (Row A)) : Type 0 where
  pub each : IsPermutation entries (map (λ r. r.entry) rows)
  pub named : All (λ r. IsNamedBy (prefix r.entry) r.written) rows

-- whether none of the rows is lost
abbrev pub is_whole : {A : Type 0} → List (Row A) → Bool
is_whole rows = list_all (λ r. not (is_lost r.written)) rows

-- What a node's file holds after its head: its zones, the families of addresses in place of ranges of instances, and
-- its delegations.
abbrev pub IsNodeText : ServerConfig → List ℕ → Bool → Type 0
IsNodeText c text whole = (zones : List (Row (List ℕ))) × (families : List EidPrefix)
    × (delegations : List (Row Delegation)) × AreRowsOf (λ p. p) (map (λ a. a.prefix) c.authorities) zones
    × AreRowsOf (λ d. d.child.prefix) (flat_map delegations_of c.authorities) delegations
    × (text ≡ flat_map zone_text zones ++ flat_map authority_text families ++ flat_map delegation_text delegations)
    × (whole ≡ is_whole delegations)

-- what a Map-Server's file holds after its head: its zones, its sites, and the ETRs of these
abbrev pub IsMapServerText : ServerConfig → List ℕ → Bool → Type 0
IsMapServerText c text whole = (zones : List (Row (List ℕ))) × (sites : List (Row SiteEntry)) × (etrs : List ℕ)
    × AreRowsOf (λ p. p) (map (λ a. a.prefix) c.authorities) zones
    × AreRowsOf (λ s. s.prefix) (flat_map sites_of c.authorities) sites
    × (text ≡ flat_map zone_text zones ++ flat_map (site_text c.locators) sites ++ etrs)
    × (whole ≡ is_whole sites)

-- the same by what the servers are
abbrev pub IsGroupText : Role → ServerConfig → List ℕ → Bool → Type 0
IsGroupText Node = IsNodeText
IsGroupText Ms = IsMapServerText

-- a file of a configuration: a head, and what the configuration holds
abbrev pub IsFileOf : ServerConfig → List ℕ → Bool → Type 0
IsFileOf c text whole = (head : List ℕ) × (body : List ℕ) × (text ≡ head ++ body) × IsGroupText c.role c body whole
