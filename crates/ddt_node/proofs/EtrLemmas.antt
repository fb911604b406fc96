-- That other ETRs of a site change neither the shape of a configuration nor its index, and change one site alone.
use Rattle.std.proofs.Common.{◌≡◌, ℕ, ◌+◌, ◌<◌, ◌≤◌, ◌≢◌, below_more, get_or-set_other, get_or-set_same, Bool, true, false, List, [], ◌∷◌, ◌&&◌, ◌++◌, map, length, take, drop, get_or, set, cond, Some, None, refl, sym, ap, ◌∙◌, arith}
use Rattle.std.specs.List.{list_all}
use Rattle.std.specs.FinMap.{FinMap, get}
use Rattle.std.proofs.lemmas.Bool.{false≢true, and_parts, and_from}
use Rattle.std.proofs.lemmas.List.{append-nil, drop_all, take_all, length-map, length-set, same_lists, get_or-map, get_or_default}
use Rattle.ddt_path.specs.declared.locator.Locator.{Locator}
use Rattle.ddt_path.specs.declared.record.Role.{Role}
use Rattle.ddt_path.specs.declared.record.Role.TheVariants.{Node, Ms}
use Rattle.ddt_path.specs.Covers.{covers, is_same_path}
use Rattle.ddt_path.specs.Locators.{are_distinct}
use Rattle.ddt_trie.specs.PrefixMap.{path_cmp}
use Rattle.ddt_config.specs.declared.site_entry.SiteEntry.{SiteEntry}
use Rattle.ddt_config.specs.declared.authority.Content.{Content}
use Rattle.ddt_config.specs.declared.authority.Content.TheVariants.{Children, Sites}
use Rattle.ddt_config.specs.declared.authority.Authority.{Authority}
use Rattle.ddt_config.specs.Shaped.{fits, is_server_set, have_own_prefixes, is_site_of, is_content_of, is_authority_of, is_shaped}
use Rattle.ddt_config.specs.Entries.{prefixes_in}
use Rattle.ddt_node.specs.Places.{places, places_in, AreIndexed}
use Rattle.ddt_node.specs.Etrs.{site_with, content_with, authority_with, has_own_sites, holds_own_sites}
use Rattle.ddt_node.specs.laws.Changed.{map_kept, no_two_kept, all_kept, at_prefix, one_is_set, none_is_set}

-- ---- the index

prefixes_kept : (p : List ℕ) (e : List Locator) (content : Content) → prefixes_in (content_with p e content) ≡ prefixes_in content
prefixes_kept p e (Children cs) = refl
prefixes_kept p e (Sites ss) = map_kept (λ (s : SiteEntry). s.prefix) (site_with p e) (λ s. refl) ss

-- an index of authorities is one of these with other ETRs
pub index_kept : (p : List ℕ) (e : List Locator) (authorities : List Authority) (index : _) (contents : _)
    → AreIndexed authorities index contents → AreIndexed (map (authority_with p e) authorities) index contents
index_kept p e authorities index contents i = record {
  of_authorities = i.of_authorities ∙ ap places (sym (map_kept (λ (a : Authority). a.prefix) (authority_with p e) (λ a. refl) authorities));
  of_contents = i.of_contents ∙ sym (map_kept places_in (authority_with p e) (λ a. ap places (prefixes_kept p e a.content)) authorities);
}

-- ---- the shape

site_kept : (p : List ℕ) (e : List Locator) (authority : List ℕ) → fits e ≡ true → (s : SiteEntry) → is_site_of authority s ≡ true → is_site_of authority (site_with p e s) ≡ true
site_kept p e authority few s h =
    let parts = and_parts (covers authority s.prefix) (fits s.etrs) h in
    and_from (covers authority s.prefix) _ parts.0 (either (is_same_path s.prefix p)) where
      either : (same : Bool) → fits (cond same e s.etrs) ≡ true
      either true = few
      either false = (and_parts (covers authority s.prefix) (fits s.etrs) h).1

content_kept : (p : List ℕ) (e : List Locator) → fits e ≡ true → (role : Role) (authority : List ℕ) (content : Content) → is_content_of role authority content ≡ true → is_content_of role authority (content_with p e content) ≡ true
content_kept p e few Node authority (Children cs) h = h
content_kept p e few Ms authority (Sites ss) h =
    let parts = and_parts (list_all (is_site_of authority) ss) (have_own_prefixes (λ (s : SiteEntry). s.prefix) ss) h in
    and_from _ _ (all_kept (is_site_of authority) (site_with p e) (site_kept p e authority few) ss parts.0)
    (no_two_kept (λ (s t : SiteEntry). is_same_path s.prefix t.prefix) (site_with p e) (λ s t. refl) ss ∙ parts.1)
content_kept p e few Node authority (Sites ss) h = absurd (false≢true h)
content_kept p e few Ms authority (Children cs) h = absurd (false≢true h)

-- a configuration keeps its shape
pub shape_kept : (p : List ℕ) (e : List Locator) (role : Role) (ls : List Locator) (authorities : List Authority) → fits e ≡ true → is_shaped role ls authorities ≡ true
    → is_shaped role ls (map (authority_with p e) authorities) ≡ true
shape_kept p e role ls authorities few h =
    let own = have_own_prefixes (λ (a : Authority). a.prefix) authorities in
    let outer = and_parts (is_server_set ls && are_distinct ls) (own && list_all (is_authority_of role) authorities) h in
    let inner = and_parts own (list_all (is_authority_of role) authorities) outer.1 in
    and_from _ _ outer.0 (and_from _ _
    (no_two_kept (λ (a b : Authority). is_same_path a.prefix b.prefix) (authority_with p e) (λ a b. refl) authorities ∙ inner.0)
    (all_kept (is_authority_of role) (authority_with p e) (λ a. content_kept p e few role a.prefix a.content) authorities inner.1))

-- ---- the one site that changes

-- a site with other ETRs is one that is changed at its prefix
abbrev set_site : List Locator → SiteEntry → SiteEntry
set_site e s = record { prefix = s.prefix; etrs = e }

site_changed : (p : List ℕ) (e : List Locator) (s : SiteEntry) → at_prefix (λ (t : SiteEntry). t.prefix) p (set_site e) s ≡ site_with p e s
site_changed p e s = go (is_same_path s.prefix p)
  where
    go : (same : Bool) → cond same (set_site e s) s ≡ (let t : SiteEntry = record { prefix = s.prefix; etrs = cond same e s.etrs } in t)
    go true = refl
    go false = refl

sites_changed : (p : List ℕ) (e : List Locator) (ss : List SiteEntry) → map (at_prefix (λ (t : SiteEntry). t.prefix) p (set_site e)) ss ≡ map (site_with p e) ss
sites_changed p e [] = refl
sites_changed p e (s ∷ ss) =
    ap (λ (t : SiteEntry). t ∷ map (at_prefix (λ (u : SiteEntry). u.prefix) p (set_site e)) ss) (site_changed p e s)
    ∙ ap (λ (ts : List SiteEntry). site_with p e s ∷ ts) (sites_changed p e ss)

module _ (p : List ℕ) (e : List Locator) (ss : List SiteEntry) (m : FinMap path_cmp ℕ) (is : m ≡ places (map (λ (s : SiteEntry). s.prefix) ss)) where
  pub etrs_are_set : (v : ℕ) (now : List SiteEntry) (s : SiteEntry) → have_own_prefixes (λ (t : SiteEntry). t.prefix) ss ≡ true → get m p ≡ Some v
      → now ≡ ss → s ≡ get_or now v s → set now v (record { prefix = s.prefix; etrs = e }) ≡ map (site_with p e) ss
  etrs_are_set v now s own answer same read =
      one_is_set (λ (t : SiteEntry). t.prefix) p ss m is (set_site e) v now s own answer same read ∙ sites_changed p e ss

  pub no_etrs_are_set : get m p ≡ None → map (site_with p e) ss ≡ ss
  no_etrs_are_set answer = sym (sites_changed p e ss) ∙ none_is_set (λ (t : SiteEntry). t.prefix) p ss m is (set_site e) answer

-- ---- sites that have their own prefixes

own_in : (role : Role) (a : Authority) → is_authority_of role a ≡ true → holds_own_sites a ≡ true
own_in role a h = go role a.content h
  where
    go : (role : Role) (content : Content) → is_content_of role a.prefix content ≡ true → has_own_sites content ≡ true
    go role (Children cs) h = refl
    go Ms (Sites ss) h = (and_parts (list_all (is_site_of a.prefix) ss) _ h).1
    go Node (Sites ss) h = absurd (false≢true h)

pub own_sites : (role : Role) (ls : List Locator) (authorities : List Authority) → is_shaped role ls authorities ≡ true → list_all holds_own_sites authorities ≡ true
own_sites role ls authorities h = go authorities (and_parts (have_own_prefixes (λ (a : Authority). a.prefix) authorities) _ (and_parts (is_server_set ls && are_distinct ls) _ h).1).1
  where
    go : (as_ : List Authority) → list_all (is_authority_of role) as_ ≡ true → list_all holds_own_sites as_ ≡ true
    go [] all = refl
    go (a ∷ others) all = let parts = and_parts (is_authority_of role a) _ all in and_from _ _ (own_in role a parts.0) (go others parts.1)

-- ---- the loops

-- items up to an index are changed, the others aren't yet
pub record IsMappedSoFar {A : Type 0} (f : A → A) (was : List A) (i : ℕ) (now : List A) : Type 0 where
  pub len : length now ≡ length was
  pub done : (k : ℕ) → k < i → (d : A) → k < length was → get_or now k d ≡ f (get_or was k d)
  pub left : (k : ℕ) → i ≤ k → (d : A) → k < length was → get_or now k d ≡ get_or was k d

pub none_mapped : {A : Type 0} (f : A → A) (was : List A) → IsMappedSoFar f was 0 was
none_mapped f was = record { len = refl; done = λ k h d inside. absurd (omega arith); left = λ k h d inside. refl }

-- the item at the index is changed
pub one_mapped : {A : Type 0} (f : A → A) (was now : List A) (i : ℕ) (y d₀ : A) → i < length was → y ≡ f (get_or now i d₀)
    → IsMappedSoFar f was i now → IsMappedSoFar f was (i + 1) (set now i y)
one_mapped {A = A} f was now i y d₀ inside y_is m =
    let in_now : i < length now = omega (arith, m.len) in
    let is : (d : A) → y ≡ f (get_or now i d) = λ d. y_is ∙ ap f (get_or_default now i d₀ d in_now) in record {
      len = length-set now i y ∙ m.len;
      done = below_more (λ k. (d : A) → k < length was → get_or (set now i y) k d ≡ f (get_or was k d)) i
          (λ k below d in_was. let ne : k ≢ i = omega arith in get_or-set_other now i k y d ne ∙ m.done k below d in_was)
          (λ d in_was. get_or-set_same now i y d in_now ∙ is d ∙ ap f (m.left i (omega arith) d in_was));
      left = λ k above d in_was. let ne : k ≢ i = omega arith in get_or-set_other now i k y d ne ∙ m.left k (omega arith) d in_was;
    }

-- the authority at the index
pub authority_mapped : (p : List ℕ) (e : List Locator) (prefix_ : List ℕ) (old new : Content) (was now : List Authority) (i : ℕ) (d₀ : Authority) → i < length was
    → new ≡ content_with p e old → (let a : Authority = record { prefix = prefix_; content = old } in a) ≡ get_or now i d₀
    → IsMappedSoFar (authority_with p e) was i now
    → IsMappedSoFar (authority_with p e) was (i + 1) (set now i (record { prefix = prefix_; content = new }))
authority_mapped p e prefix_ old new was now i d₀ inside content_is there m =
    one_mapped (authority_with p e) was now i _ d₀ inside
    (ap (λ (c : Content). let a : Authority = record { prefix = prefix_; content = c } in a) content_is ∙ ap (authority_with p e) there) m

-- all are
pub all_mapped : {A : Type 0} (f : A → A) (was now : List A) (i : ℕ) → length now ≤ i → IsMappedSoFar f was i now → now ≡ map f was
all_mapped f was now i end m =
    same_lists now (map f was) (m.len ∙ sym (length-map was f))
    (λ k d inside. m.done k (omega (arith, m.len)) d (omega (arith, m.len)) ∙ sym (get_or-map f was k d d (omega (arith, m.len))))

-- a list that is written over a whole one of its length stands in its place
pub written_back : {A : Type 0} (n : ℕ) (was now : List A) → length was ≡ n → length now ≡ n → take n (now ++ drop (length now) was) ≡ now
written_back {A = A} n was now len_was len_now =
    let none : drop (length now) was ≡ [] = drop_all (length now) was (omega (arith, len_was, len_now)) in
    ap (λ (rest : List A). take n (now ++ rest)) none ∙ ap (take n) (append-nil now) ∙ take_all n now (omega (arith, len_now))
