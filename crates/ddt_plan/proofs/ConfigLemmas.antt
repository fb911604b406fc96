-- Which entries of a configuration have prefixes of their own: it has the shape that each configuration keeps.
use Rattle.std.proofs.Common.{◌≡◌, ℕ, Bool, true, List, [], ◌∷◌, refl, sym, ap₂, subst, ◌∙◌}
use Rattle.std.specs.Prelude.{◌&&◌, not}
use Rattle.std.specs.List.{list_any, list_all}
use Rattle.std.proofs.lemmas.Bool.{and_parts, and_from, not-true, not_from_false, false_from_ne_true, both_ways, false≢true, or_left}
use Rattle.ddt_path.specs.declared.locator.Locator.{Locator}
use Rattle.ddt_path.specs.declared.record.Role.{Role}
use Rattle.ddt_path.specs.declared.record.Role.TheVariants.{Node, Ms}
use Rattle.ddt_path.specs.Covers.{covers, overlaps, is_same_path}
use Rattle.ddt_path.specs.Locators.{are_distinct}
use Rattle.ddt_path.specs.laws.Cover.{covers_self, same_path}
use Rattle.ddt_path.specs.laws.Member.{all_of, holds_at, none_of, fails_at}
use Rattle.ddt_check.specs.Zones.{is_same_role}
use Rattle.ddt_config.specs.declared.child.Child.{Child}
use Rattle.ddt_config.specs.declared.site_entry.SiteEntry.{SiteEntry}
use Rattle.ddt_config.specs.declared.authority.Content.{Content}
use Rattle.ddt_config.specs.declared.authority.Content.TheVariants.{Children, Sites}
use Rattle.ddt_config.specs.declared.authority.Authority.{Authority}
use Rattle.ddt_config.specs.declared.config.ServerConfig.{ServerConfig}
use Rattle.ddt_config.specs.Table.{outline}
use Rattle.ddt_config.specs.Shaped.{have_own_prefixes, are_apart, is_server_set, is_child_of, is_site_of, is_content_of, is_authority_of, is_shaped}
use Rattle.ddt_plan.specs.Changes.{are_same_servers}
use Rattle.ddt_plan.specs.Entries.{holds_own_prefixes}
use Rattle.ddt_plan.specs.Groups.{are_alike, is_same_child, is_same_site, is_same_content, is_same_authority, is_same_config}

always : {A : Type 0} (xs : List A) → list_all (λ _. true) xs ≡ true
always xs = all_of (λ _. true) xs (λ x k. refl)

-- ---- what an authority holds

pub children_told : (a b : Content) (cs ds : List Child) → a ≡ Children cs → b ≡ Children ds → (r : Bool)
    → (have_own_prefixes (λ (c : Child). c.prefix) cs ≡ true → have_own_prefixes (λ (c : Child). c.prefix) ds ≡ true
    → list_all (λ _. true) cs ≡ true → list_all (λ _. true) ds ≡ true → r ≡ are_alike is_same_child cs ds)
    → holds_own_prefixes a ≡ true → holds_own_prefixes b ≡ true → r ≡ is_same_content a b
children_told a b cs ds e f r told own others =
    told (subst (λ z. holds_own_prefixes z ≡ true) e own) (subst (λ z. holds_own_prefixes z ≡ true) f others)
    (always cs) (always ds)
    ∙ sym (ap₂ is_same_content e f)

pub sites_told : (a b : Content) (ss ts : List SiteEntry) → a ≡ Sites ss → b ≡ Sites ts → (r : Bool)
    → (have_own_prefixes (λ (s : SiteEntry). s.prefix) ss ≡ true
    → have_own_prefixes (λ (s : SiteEntry). s.prefix) ts ≡ true → list_all (λ _. true) ss ≡ true
    → list_all (λ _. true) ts ≡ true → r ≡ are_alike is_same_site ss ts)
    → holds_own_prefixes a ≡ true → holds_own_prefixes b ≡ true → r ≡ is_same_content a b
sites_told a b ss ts e f r told own others =
    told (subst (λ z. holds_own_prefixes z ≡ true) e own) (subst (λ z. holds_own_prefixes z ≡ true) f others)
    (always ss) (always ts)
    ∙ sym (ap₂ is_same_content e f)

-- ---- the shape

one_overlaps : (p q : List ℕ) → is_same_path p q ≡ true → overlaps p q ≡ true
one_overlaps p q e = or_left (covers p q) (covers q p)
    (subst (λ (z : List ℕ). covers p z ≡ true) (same_path p q e) (covers_self p))

apart_own : (cs : List Child) → are_apart (λ (c : Child). c.prefix) cs ≡ true
    → have_own_prefixes (λ (c : Child). c.prefix) cs ≡ true
apart_own [] e = refl
apart_own (c ∷ cs) e =
    let p = and_parts (not (list_any (λ (d : Child). overlaps c.prefix d.prefix) cs))
    (are_apart (λ (d : Child). d.prefix) cs) e in
    let none = not-true (list_any (λ (d : Child). overlaps c.prefix d.prefix) cs) p.0 in
    and_from (not (list_any (λ (d : Child). is_same_path c.prefix d.prefix) cs))
    (have_own_prefixes (λ (d : Child). d.prefix) cs)
    (not_from_false (list_any (λ (d : Child). is_same_path c.prefix d.prefix) cs)
    (none_of (λ (d : Child). is_same_path c.prefix d.prefix) cs (λ d k.
    false_from_ne_true (is_same_path c.prefix d.prefix) (λ same.
    both_ways (overlaps c.prefix d.prefix) (fails_at (λ (y : Child). overlaps c.prefix y.prefix) cs d none k)
    (one_overlaps c.prefix d.prefix same)))))
    (apart_own cs p.1)

content_whole : (role : Role) (prefix : List ℕ) (content : Content) → is_content_of role prefix content ≡ true
    → holds_own_prefixes content ≡ true
content_whole Node prefix (Children cs) e =
    apart_own cs (and_parts (list_all (is_child_of prefix) cs) (are_apart (λ (c : Child). c.prefix) cs) e).1
content_whole Ms prefix (Sites ss) e =
    (and_parts (list_all (is_site_of prefix) ss) (have_own_prefixes (λ (s : SiteEntry). s.prefix) ss) e).1
content_whole Node prefix (Sites ss) e = absurd (false≢true e)
content_whole Ms prefix (Children cs) e = absurd (false≢true e)

shape_parts : (role : Role) (locators : List Locator) (authorities : List Authority)
    → is_shaped role locators authorities ≡ true
    → (have_own_prefixes (λ (a : Authority). a.prefix) authorities ≡ true)
    × (list_all (λ (a : Authority). holds_own_prefixes a.content) authorities ≡ true)
shape_parts role locators authorities e =
    let p = and_parts (is_server_set locators && are_distinct locators)
    (have_own_prefixes (λ (a : Authority). a.prefix) authorities && list_all (is_authority_of role) authorities)
    e in
    let q = and_parts (have_own_prefixes (λ (a : Authority). a.prefix) authorities)
    (list_all (is_authority_of role) authorities) p.1 in (
      q.0,
      all_of (λ (a : Authority). holds_own_prefixes a.content) authorities
          (λ a k. content_whole role a.prefix a.content (holds_at (is_authority_of role) authorities a q.1 k)),
    )

-- two configurations of one kind and the same locators
pub config_told : (c d : ServerConfig) (r : Bool) → is_same_role c.role d.role ≡ true
    → are_same_servers c.locators d.locators ≡ true
    → (have_own_prefixes (λ (a : Authority). a.prefix) c.authorities ≡ true
    → have_own_prefixes (λ (a : Authority). a.prefix) d.authorities ≡ true
    → list_all (λ (a : Authority). holds_own_prefixes a.content) c.authorities ≡ true
    → list_all (λ (a : Authority). holds_own_prefixes a.content) d.authorities ≡ true
    → r ≡ are_alike is_same_authority c.authorities d.authorities)
    → r ≡ is_same_config (outline c) (outline d)
config_told c d r role servers told =
    let p = shape_parts c.role c.locators c.authorities c.shaped in
    let q = shape_parts d.role d.locators d.authorities d.shaped in
    rw (role, servers) (told p.0 q.0 p.1 q.1)
