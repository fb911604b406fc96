-- Where the shape is right, no list of locators has more than 8.
use Rattle.std.proofs.Common.{◌≡◌, ℕ, Bool, true, List, [], ◌∷◌, ◌&&◌, refl}
use Rattle.std.specs.List.{list_all}
use Rattle.std.proofs.lemmas.Bool.{false≢true, and_parts}
use Rattle.ddt_path.specs.declared.locator.Locator.{Locator}
use Rattle.ddt_path.specs.declared.record.Role.{Role}
use Rattle.ddt_path.specs.declared.record.Role.TheVariants.{Node, Ms}
use Rattle.ddt_path.specs.Locators.{are_distinct}
use Rattle.ddt_config.specs.declared.child.Child.{Child}
use Rattle.ddt_config.specs.declared.site_entry.SiteEntry.{SiteEntry}
use Rattle.ddt_config.specs.declared.authority.Content.{Content}
use Rattle.ddt_config.specs.declared.authority.Content.TheVariants.{Children, Sites}
use Rattle.ddt_config.specs.declared.authority.Authority.{Authority}
use Rattle.ddt_config.specs.Shaped.{fits, is_server_set, have_own_prefixes, are_apart, is_child_of, is_site_of, is_content_of, is_authority_of, is_shaped}
use Rattle.ddt_config.specs.Reading.{content_fits, authority_fits}

all_imply : {A : Type 0} (p q : A → Bool) → ((a : A) → p a ≡ true → q a ≡ true) → (xs : List A) → list_all p xs ≡ true → list_all q xs ≡ true
all_imply p q h [] e = refl
all_imply p q h (a ∷ rest) e =
    let parts = and_parts (p a) (list_all p rest) e in
    rw (h a parts.0, all_imply p q h rest parts.1) refl

content_has_room : (role : Role) (authority : List ℕ) (content : Content) → is_content_of role authority content ≡ true → content_fits content ≡ true
content_has_room Node authority (Children cs) e = all_imply (is_child_of authority) (λ c. fits c.locators) (λ c h. (and_parts _ (fits c.locators) (and_parts _ (is_server_set c.locators) h).1).1) cs (and_parts _ (are_apart (λ (c : Child). c.prefix) cs) e).0
content_has_room Ms authority (Sites ss) e = all_imply (is_site_of authority) (λ s. fits s.etrs) (λ s h. (and_parts _ (fits s.etrs) h).1) ss (and_parts _ (have_own_prefixes (λ (s : SiteEntry). s.prefix) ss) e).0
content_has_room Node authority (Sites ss) e = absurd (false≢true e)
content_has_room Ms authority (Children cs) e = absurd (false≢true e)

pub are_authorities : (role : Role) (ls : List Locator) (zs : List Authority) → is_shaped role ls zs ≡ true → list_all (is_authority_of role) zs ≡ true
are_authorities role ls zs e =
    (and_parts (have_own_prefixes (λ (a : Authority). a.prefix) zs) (list_all (is_authority_of role) zs) (and_parts (is_server_set ls && are_distinct ls) _ e).1).1

pub authorities_fit : (role : Role) (ls : List Locator) (zs : List Authority) → is_shaped role ls zs ≡ true → list_all authority_fits zs ≡ true
authorities_fit role ls zs e = all_imply (is_authority_of role) authority_fits (λ a k. content_has_room role a.prefix a.content k) zs (are_authorities role ls zs e)
