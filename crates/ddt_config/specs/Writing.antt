-- How a configuration is written: one table, and what stands at each of its keys.
use Rattle.std.specs.Prelude.{ℕ, List, [], ◌∷◌, map}
use Rattle.std.specs.List.{All}
use Rattle.std.specs.Ordering.{nat_cmp, match_ordering}
use Rattle.std.specs.Cmp.Lexicographic.{slice_cmp}
use Rattle.toml.specs.Data.{Data, Items, no_items, item, Members, no_members, member, string, array, table}
use Rattle.ddt_path.specs.declared.locator.Locator.{Locator}
use Rattle.ddt_text.specs.Grammar.{SpellsLocator, SpellsPrefix}
use Rattle.ddt_text.specs.Written.{written_locator, written_prefix}
use Rattle.ddt_config.specs.declared.child.Child.{Child}
use Rattle.ddt_config.specs.declared.site_entry.SiteEntry.{SiteEntry}
use Rattle.ddt_config.specs.declared.authority.Content.{Content}
use Rattle.ddt_config.specs.declared.authority.Content.TheVariants.{Children, Sites}
use Rattle.ddt_config.specs.declared.authority.Authority.{Authority}
use Rattle.ddt_config.specs.declared.fault.Key.{Key}
use Rattle.ddt_config.specs.declared.fault.Key.TheVariants as key
use Rattle.ddt_config.specs.Table.{Outline, key_text, role_text}

-- ---- what is written

-- keys with their values, in the order of the keys' names, as TOML lists them
abbrev pub with_keys : List (Key × Data) → Members
with_keys [] = no_members
with_keys (e ∷ rest) = member (key_text e.0) e.1 (with_keys rest)

-- some values, as TOML keeps those of an array
abbrev pub items_of : List Data → Items
items_of [] = no_items
items_of (d ∷ ds) = item d (items_of ds)

-- an array of what is written for each of a list
abbrev pub written_each : {A : Type 0} → (A → Data) → List A → Data
written_each write xs = array (items_of (map write xs))

-- locators, as their texts
abbrev pub written_locators : List Locator → Data
written_locators ls = written_each (λ l. string (written_locator l)) ls

-- the table of a child: `kind`, `locators` and `prefix`
abbrev pub written_child : Child → Members
written_child c =
    with_keys (
    (key.Kind, string (role_text c.role))
    ∷ (key.Locators, written_locators c.locators)
    ∷ (key.Prefix, string (written_prefix c.prefix))
    ∷ [])

-- The table of a site; `etrs` is written also where it has none, as an empty array.
abbrev pub written_site : SiteEntry → Members
written_site s = with_keys ((key.Etrs, written_locators s.etrs) ∷ (key.Prefix, string (written_prefix s.prefix)) ∷ [])

-- an authority has its children or its sites, also where they are none, and no other list
abbrev pub written_content : List ℕ → Content → Members
written_content prefix (Children cs) =
    with_keys (
    (key.Child, written_each (λ c. table (written_child c)) cs)
    ∷ (key.Prefix, string (written_prefix prefix))
    ∷ [])
written_content prefix (Sites ss) =
    with_keys (
    (key.Prefix, string (written_prefix prefix))
    ∷ (key.Site, written_each (λ s. table (written_site s)) ss)
    ∷ [])

-- The table of an authority, under `authority`.
abbrev pub written_authority : Authority → Members
written_authority a = written_content a.prefix a.content

-- the table of a configuration: these four keys and no other
abbrev pub written_config : Outline → Members
written_config c =
    with_keys (
    (key.Authority, written_each (λ a. table (written_authority a)) c.authorities)
    ∷ (key.Kind, string (role_text c.role))
    ∷ (key.Locators, written_locators c.locators)
    ∷ (key.Name, string c.name)
    ∷ [])

-- ---- and that its texts spell what they are written for

-- Each locator is spelled by the text that is written for it.
abbrev pub AreLocatorsSpelled : List Locator → Type 0
AreLocatorsSpelled ls = All (λ l. SpellsLocator (written_locator l) l) ls

-- The texts written for a child spell its prefix and its locators.
abbrev pub IsChildSpelled : Child → Type 0
IsChildSpelled c = SpellsPrefix (written_prefix c.prefix) c.prefix × AreLocatorsSpelled c.locators

-- The texts written for a site spell its prefix and its ETRs' locators.
abbrev pub IsSiteSpelled : SiteEntry → Type 0
IsSiteSpelled s = SpellsPrefix (written_prefix s.prefix) s.prefix × AreLocatorsSpelled s.etrs

-- The texts written for the children, or for the sites, of an authority spell them.
abbrev pub IsContentSpelled : Content → Type 0
IsContentSpelled (Children cs) = All IsChildSpelled cs
IsContentSpelled (Sites ss) = All IsSiteSpelled ss

-- The texts written for an authority spell its prefix and what it holds.
abbrev pub IsAuthoritySpelled : Authority → Type 0
IsAuthoritySpelled a = SpellsPrefix (written_prefix a.prefix) a.prefix × IsContentSpelled a.content

-- ---- one step of the writers

-- the members with one more, in the order of the keys; a key that is there takes the value
abbrev pub inserted : List ℕ → Data → Members → Members
inserted k d no_members = member k d no_members
inserted k d (member l e ms) =
    match_ordering (slice_cmp nat_cmp k l) (member k d (member l e ms)) (member l d ms) (member l e (inserted k d ms))

-- the key of what an authority holds, and its value
abbrev pub content_key : Content → Key
content_key (Children cs) = key.Child
content_key (Sites ss) = key.Site

-- The array written at that key: a table for each child or site, in their order.
abbrev pub content_data : Content → Data
content_data (Children cs) = written_each (λ c. table (written_child c)) cs
content_data (Sites ss) = written_each (λ s. table (written_site s)) ss
