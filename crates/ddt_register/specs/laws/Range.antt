-- What the numbers of a register say: each prefix is one, each name is one, and each locator is one.
use Rattle.std.proofs.Common.{◌≡◌, Bool, true, List, [], ◌∷◌, map, refl, ◌∙◌}
use Rattle.std.specs.Prelude.{◌&&◌}
use Rattle.std.specs.List.{list_all}
use Rattle.std.proofs.lemmas.Bool.{and_parts, and_from}
use Rattle.std.proofs.lemmas.List.Folds.{list_all-map}
use Rattle.ddt_path.specs.Path.{is_prefix_path}
use Rattle.ddt_path.specs.Names.{is_name}
use Rattle.ddt_path.specs.laws.Member.{IsIn, holds_at}
use Rattle.ddt_register.specs.declared.zone.Zone.{Zone}
use Rattle.ddt_register.specs.declared.site.Site.{Site}
use Rattle.ddt_register.specs.declared.group.Group.{Group}
use Rattle.ddt_register.specs.declared.register.Register.{Register}
use Rattle.ddt_register.specs.Ranges.{is_zone_in_range, is_site_in_range, is_group_in_range, are_locators}

-- what passes one test passes another that follows from it
pub list_all-weaken : {A : Type 0} (p q : A → Bool) (items : List A) → ((a : A) → p a ≡ true → q a ≡ true) → list_all p items ≡ true → list_all q items ≡ true
list_all-weaken p q [] h e = refl
list_all-weaken p q (a ∷ items) h e =
    let s = and_parts (p a) (list_all p items) e in
    and_from (q a) (list_all q items) (h a s.0) (list_all-weaken p q items h s.1)

-- ---- the items of a register, by kind

pub zones_in_range : (r : Register) → list_all is_zone_in_range r.zones ≡ true
zones_in_range r = (and_parts (list_all is_zone_in_range r.zones) (list_all is_site_in_range r.sites && list_all is_group_in_range r.groups) r.in_range).0

pub sites_in_range : (r : Register) → list_all is_site_in_range r.sites ≡ true
sites_in_range r =
    (and_parts (list_all is_site_in_range r.sites) (list_all is_group_in_range r.groups)
    (and_parts (list_all is_zone_in_range r.zones) (list_all is_site_in_range r.sites && list_all is_group_in_range r.groups) r.in_range).1).0

pub groups_in_range : (r : Register) → list_all is_group_in_range r.groups ≡ true
groups_in_range r =
    (and_parts (list_all is_site_in_range r.sites) (list_all is_group_in_range r.groups)
    (and_parts (list_all is_zone_in_range r.zones) (list_all is_site_in_range r.sites && list_all is_group_in_range r.groups) r.in_range).1).1

-- ---- an item's parts

pub zone_prefix : (z : Zone) → is_zone_in_range z ≡ true → is_prefix_path z.prefix ≡ true
zone_prefix z e = (and_parts (is_prefix_path z.prefix) (is_name z.group) e).0

pub site_prefix : (s : Site) → is_site_in_range s ≡ true → is_prefix_path s.prefix ≡ true
site_prefix s e = (and_parts (is_prefix_path s.prefix) (are_locators s.etrs) e).0

pub group_locators : (g : Group) → is_group_in_range g ≡ true → are_locators g.locators ≡ true
group_locators g e = (and_parts (is_name g.name) (are_locators g.locators) e).1

-- ---- a member of a register

pub zone_at : (r : Register) (z : Zone) → IsIn z r.zones → is_zone_in_range z ≡ true
zone_at r z k = holds_at is_zone_in_range r.zones z (zones_in_range r) k

pub site_at : (r : Register) (s : Site) → IsIn s r.sites → is_site_in_range s ≡ true
site_at r s k = holds_at is_site_in_range r.sites s (sites_in_range r) k

pub group_at : (r : Register) (g : Group) → IsIn g r.groups → is_group_in_range g ≡ true
group_at r g k = holds_at is_group_in_range r.groups g (groups_in_range r) k

-- ---- the prefixes of a register

pub zone_prefixes : (r : Register) → list_all is_prefix_path (map (λ z. z.prefix) r.zones) ≡ true
zone_prefixes r =
    list_all-map is_prefix_path (λ (z : Zone). z.prefix) r.zones
    ∙ list_all-weaken is_zone_in_range (λ (z : Zone). is_prefix_path z.prefix) r.zones zone_prefix (zones_in_range r)

pub site_prefixes : (r : Register) → list_all is_prefix_path (map (λ s. s.prefix) r.sites) ≡ true
site_prefixes r =
    list_all-map is_prefix_path (λ (s : Site). s.prefix) r.sites
    ∙ list_all-weaken is_site_in_range (λ (s : Site). is_prefix_path s.prefix) r.sites site_prefix (sites_in_range r)
