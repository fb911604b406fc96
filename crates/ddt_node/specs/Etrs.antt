-- A configuration in which a site has other ETRs. A registration changes this and nothing else.
use Rattle.std.specs.Prelude.{ℕ, Bool, true, if◌then◌else◌, List, map}
use Rattle.ddt_path.specs.declared.locator.Locator.{Locator}
use Rattle.ddt_path.specs.Covers.{is_same_path}
use Rattle.ddt_config.specs.declared.site_entry.SiteEntry.{SiteEntry}
use Rattle.ddt_config.specs.declared.authority.Content.{Content}
use Rattle.ddt_config.specs.declared.authority.Content.TheVariants.{Children, Sites}
use Rattle.ddt_config.specs.declared.authority.Authority.{Authority}
use Rattle.ddt_config.specs.Table.{Outline}
use Rattle.ddt_config.specs.Shaped.{have_own_prefixes}

-- a site of this prefix with these ETRs; any other as it is
abbrev pub site_with : List ℕ → List Locator → SiteEntry → SiteEntry
site_with p e s = record { prefix = s.prefix; etrs = if is_same_path s.prefix p then e else s.etrs }

-- the same for the content of an authority
abbrev pub content_with : List ℕ → List Locator → Content → Content
content_with p e (Children cs) = Children cs
content_with p e (Sites ss) = Sites (map (site_with p e) ss)

-- the same of an authority
abbrev pub authority_with : List ℕ → List Locator → Authority → Authority
authority_with p e a = record { prefix = a.prefix; content = content_with p e a.content }

-- The configuration in which the site of this prefix has these ETRs.
abbrev pub with_etrs : List ℕ → List Locator → Outline → Outline
with_etrs p e c = record {
  name = c.name;
  role = c.role;
  locators = c.locators;
  authorities = map (authority_with p e) c.authorities;
}

-- ---- what the places of sites rest on

-- no two sites have one prefix
abbrev pub has_own_sites : Content → Bool
has_own_sites (Children cs) = true
has_own_sites (Sites ss) = have_own_prefixes (λ s. s.prefix) ss

-- the same of an authority
abbrev pub holds_own_sites : Authority → Bool
holds_own_sites a = has_own_sites a.content
