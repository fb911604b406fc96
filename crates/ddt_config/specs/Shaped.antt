-- The shape of a configuration: a server is in charge of some prefixes, and what it delegates or registers lies inside
-- one of them. An identifier lies in one child at most; sites may lie inside sites, and have distinct prefixes
-- (RFC 8111, section 4).
use Rattle.std.specs.Prelude.{ℕ, Bool, true, false, ◌&&◌, not, nat_le, List, [], ◌∷◌, length}
use Rattle.std.specs.List.{list_any, list_all}
use Rattle.ddt_path.specs.declared.locator.Locator.{Locator}
use Rattle.ddt_path.specs.declared.record.Role.{Role}
use Rattle.ddt_path.specs.declared.record.Role.TheVariants.{Node, Ms}
use Rattle.ddt_path.specs.Locators.{are_distinct, most_locators}
use Rattle.ddt_path.specs.Covers.{covers, overlaps, is_same_path, is_strictly_below}
use Rattle.ddt_config.specs.declared.child.Child.{Child}
use Rattle.ddt_config.specs.declared.site_entry.SiteEntry.{SiteEntry}
use Rattle.ddt_config.specs.declared.authority.Content.{Content}
use Rattle.ddt_config.specs.declared.authority.Content.TheVariants.{Children, Sites}
use Rattle.ddt_config.specs.declared.authority.Authority.{Authority}

-- at most 8 locators
abbrev pub fits : List Locator → Bool
fits locators = nat_le (length locators) most_locators

-- 1 to 8 of them
abbrev pub is_server_set : List Locator → Bool
is_server_set locators = nat_le 1 (length locators) && fits locators

-- no item clashes with a later one
abbrev pub no_two : {A : Type 0} → (A → A → Bool) → List A → Bool
no_two clash [] = true
no_two clash (a ∷ rest) = not (list_any (clash a) rest) && no_two clash rest

-- no two have one prefix
abbrev pub have_own_prefixes : {A : Type 0} → (A → List ℕ) → List A → Bool
have_own_prefixes prefix = no_two (λ a b. is_same_path (prefix a) (prefix b))

-- no two overlap
abbrev pub are_apart : {A : Type 0} → (A → List ℕ) → List A → Bool
are_apart prefix = no_two (λ a b. overlaps (prefix a) (prefix b))

-- each child is strictly below its authority, and has servers
abbrev pub is_child_of : List ℕ → Child → Bool
is_child_of authority c = is_strictly_below c.prefix authority && is_server_set c.locators

-- each site is covered by its authority, and may equal it
abbrev pub is_site_of : List ℕ → SiteEntry → Bool
is_site_of authority s = covers authority s.prefix && fits s.etrs

-- the authority of a DDT node holds children, that of a Map-Server sites
abbrev pub is_content_of : Role → List ℕ → Content → Bool
is_content_of Node authority (Children cs) = list_all (is_child_of authority) cs && are_apart (λ c. c.prefix) cs
is_content_of Ms authority (Sites ss) = list_all (is_site_of authority) ss && have_own_prefixes (λ s. s.prefix) ss
is_content_of Node authority (Sites ss) = false
is_content_of Ms authority (Children cs) = false

-- An authority holds what servers of this role may have there: children for DDT nodes, sites for Map-Servers, all
-- of them inside its prefix.
abbrev pub is_authority_of : Role → Authority → Bool
is_authority_of role a = is_content_of role a.prefix a.content

-- The shape of a configuration: the group has 1 to 8 locators, none of them twice, and no two authorities have the same
-- prefix. Each holds what the role allows; one may lie inside another, and there may be none.
abbrev pub is_shaped : Role → List Locator → List Authority → Bool
is_shaped role locators authorities =
    (is_server_set locators && are_distinct locators)
    && (have_own_prefixes (λ a. a.prefix) authorities && list_all (is_authority_of role) authorities)
