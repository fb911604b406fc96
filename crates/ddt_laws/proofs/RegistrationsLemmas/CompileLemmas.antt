-- The configurations of a register in which a site has other ETRs.
use Rattle.std.proofs.Common.{◌≡◌, ℕ, Bool, true, false, not, cond, List, [], ◌∷◌, ◌&&◌, map, find, Option, Some, None, refl, ap, ◌∙◌}
use Rattle.std.specs.Option.{option_map, option_map_or}
use Rattle.std.specs.List.{filter, list_any}
use Rattle.ddt_path.specs.declared.locator.Locator.{Locator}
use Rattle.ddt_path.specs.declared.record.Role.{Role}
use Rattle.ddt_path.specs.declared.record.Role.TheVariants.{Node, Ms}
use Rattle.ddt_path.specs.Covers.{covers, is_strictly_below}
use Rattle.ddt_path.specs.Names.{is_same_name}
use Rattle.ddt_register.specs.declared.zone.Zone.{Zone}
use Rattle.ddt_register.specs.declared.site.Site.{Site}
use Rattle.ddt_register.specs.declared.group.Group.{Group}
use Rattle.ddt_register.specs.declared.register.Register.{Register}
use Rattle.ddt_check.specs.Zones.{is_site_in, is_served_by, is_between, group_named}
use Rattle.ddt_compile.specs.GroupConfig.{entry_of, content_of, authority_of, group_config}
use Rattle.ddt_config.specs.declared.child.Child.{Child}
use Rattle.ddt_config.specs.declared.site_entry.SiteEntry.{SiteEntry}
use Rattle.ddt_config.specs.declared.authority.Content.{Content}
use Rattle.ddt_config.specs.declared.authority.Content.TheVariants.{Children, Sites}
use Rattle.ddt_config.specs.declared.authority.Authority.{Authority}
use Rattle.ddt_config.specs.Table.{Outline}
use Rattle.ddt_node.specs.Etrs.{site_with, content_with, authority_with, with_etrs}
use Rattle.ddt_laws.specs.Registrations.RegisterLemmas.{row_with}
use Rattle.ddt_laws.specs.Registrations.InForce.{HasEtrs}
use Rattle.ddt_laws.specs.Registrations.Statements.{EtrsAreCompiled}

one_row : (b : Bool) (p : List ℕ) (e : List Locator) (x : Site) (ys zs : List Site) → map entry_of ys ≡ map (site_with p e) (map entry_of zs)
    → map entry_of (cond b (row_with p e x ∷ ys) ys) ≡ map (site_with p e) (map entry_of (cond b (x ∷ zs) zs))
one_row true p e x ys zs h = ap (λ (ss : List SiteEntry). site_with p e (entry_of x) ∷ ss) h
one_row false p e x ys zs h = h

-- the referrals of a zone, by all zones and groups
abbrev children_by : List Zone → List Group → Zone → List Child
children_by zs gs z = map
    (λ c. record {
      prefix = c.prefix;
      role = c.kind;
      locators = option_map_or (λ g. g.locators) (find (λ g. is_same_name g.name c.group) gs) [];
    })
    (filter (λ c. is_strictly_below c.prefix z.prefix && not (list_any (is_between z c) zs)) zs)

module _ (p : List ℕ) (e : List Locator) where
  rows_kept : (z : Zone) (xs : List Site)
      → map entry_of (filter (is_site_in z) (map (row_with p e) xs)) ≡ map (site_with p e) (map entry_of (filter (is_site_in z) xs))
  rows_kept z [] = refl
  rows_kept z (x ∷ xs) =
      one_row (covers z.prefix x.prefix) p e x (filter (is_site_in z) (map (row_with p e) xs)) (filter (is_site_in z) xs) (rows_kept z xs)

  module _ (r s : Register) (h : HasEtrs p e r s) where
    content_compiled : (z : Zone) (role : Role) → content_of s z role ≡ content_with p e (content_of r z role)
    content_compiled z Node =
        ap (λ (zs : List Zone). Children (children_by zs s.groups z)) h.zones
        ∙ ap (λ (gs : List Group). Children (children_by r.zones gs z)) h.groups
    content_compiled z Ms =
        ap (λ (xs : List Site). Sites (map entry_of (filter (is_site_in z) xs))) h.sites
        ∙ ap (λ (ss : List SiteEntry). Sites ss) (rows_kept z r.sites)

    authority_compiled : (z : Zone) → authority_of s z ≡ authority_with p e (authority_of r z)
    authority_compiled z =
        ap (λ (c : Content). let a : Authority = record { prefix = z.prefix; content = c } in a) (content_compiled z z.kind)

    each_compiled : (zs : List Zone) → map (authority_of s) zs ≡ map (authority_with p e) (map (authority_of r) zs)
    each_compiled [] = refl
    each_compiled (z ∷ zs) =
        ap (λ (a : Authority). a ∷ map (authority_of s) zs) (authority_compiled z)
        ∙ ap (λ (all : List Authority). authority_with p e (authority_of r z) ∷ all) (each_compiled zs)

    group_compiled : (g : Group) → group_config s g ≡ with_etrs p e (group_config r g)
    group_compiled g =
        ap (λ (all : List Authority). let o : Outline = record { name = g.name; role = g.kind; locators = g.locators; authorities = all } in o)
        (ap (λ (zs : List Zone). map (authority_of s) (filter (is_served_by g) zs)) h.zones
        ∙ each_compiled (filter (is_served_by g) r.zones))

    option_compiled : (o : Option Group) → option_map (group_config s) o ≡ option_map (with_etrs p e) (option_map (group_config r) o)
    option_compiled None = refl
    option_compiled (Some g) = ap (λ (c : Outline). Some c) (group_compiled g)

pub compiled : EtrsAreCompiled
compiled p e r s h name =
    let found : group_named s name ≡ group_named r name = rw h.groups refl in
    ap (option_map (group_config s)) found ∙ option_compiled p e r s h (group_named r name)
