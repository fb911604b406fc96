-- The content of an authority of a server.
use Rattle.std.specs.Prelude.{List, []}
use Rattle.ddt_config.specs.declared.site_entry.SiteEntry.{SiteEntry}
use Rattle.ddt_config.specs.declared.authority.Content.{Content}
use Rattle.ddt_config.specs.declared.authority.Content.TheVariants.{Children, Sites}
use Rattle.ddt_node.specs.declared.served_authority.ServedContent.{ServedContent}
use Rattle.ddt_node.specs.declared.served_authority.ServedContent.TheVariants as served

-- the same children, or the same sites
abbrev pub content_of : ServedContent → Content
content_of (served.Children cs) = Children cs
content_of (served.Sites ss) = Sites ss

-- the sites of an authority; that of a DDT node has none
abbrev pub sites_in : Content → List SiteEntry
sites_in (Children cs) = []
sites_in (Sites ss) = ss
