-- The order of prefixes keeps the shape of a configuration, and alike configurations are one in that order.
use Rattle.std.proofs.Common.{◌≡◌, ℕ, Bool, true, List, [], ◌∷◌, map, IsPermutation, refl, sym, ap, ap₂, subst, ◌∙◌}
use Rattle.std.specs.Prelude.{◌&&◌, not}
use Rattle.std.specs.List.{list_any, list_all}
use Rattle.std.proofs.Math.Bool.{or_comm}
use Rattle.std.proofs.lemmas.Bool.{and_parts, and_from, not-true, not_from_false, false_from_ne_true, both_ways, false≢true, or_left}
use Rattle.std.proofs.lemmas.List.Sorted.{IsPermutation-sym}
use Rattle.ddt_path.specs.declared.locator.Locator.{Locator}
use Rattle.ddt_path.specs.declared.record.Role.{Role}
use Rattle.ddt_path.specs.declared.record.Role.TheVariants.{Node, Ms}
use Rattle.ddt_path.specs.Covers.{covers, overlaps, is_same_path}
use Rattle.ddt_path.specs.Locators.{are_distinct, is_same_locator}
use Rattle.ddt_path.specs.laws.Cover.{covers_self, same_path}
use Rattle.ddt_path.specs.laws.Locator.{same_locator}
use Rattle.ddt_path.specs.laws.Member.{IsIn, all_of, holds_at, none_of, fails_at, any_in, in_map, map_in, moved_in}
use Rattle.ddt_check.specs.Zones.{is_same_role}
use Rattle.ddt_config.specs.declared.child.Child.{Child}
use Rattle.ddt_config.specs.declared.site_entry.SiteEntry.{SiteEntry}
use Rattle.ddt_config.specs.declared.authority.Content.{Content}
use Rattle.ddt_config.specs.declared.authority.Content.TheVariants.{Children, Sites}
use Rattle.ddt_config.specs.declared.authority.Authority.{Authority}
use Rattle.ddt_config.specs.Shaped.{have_own_prefixes, are_apart, is_server_set, is_child_of, is_site_of, is_content_of, is_authority_of, is_shaped}
use Rattle.ddt_config.specs.laws.Neighbour.{no_two-IsPermutation, no_two-map}
use Rattle.ddt_plan.specs.Changes.{are_same_servers}
use Rattle.ddt_plan.specs.Entries.{holds_own_prefixes}
use Rattle.ddt_plan.specs.Groups.{are_alike, is_same_child, is_same_site, is_same_content, is_same_authority}
use Rattle.ddt_deploy.specs.Folders.Ordered.{by_prefix, ordered_content, ordered_authority}
use Rattle.ddt_deploy.specs.Folders.Laws.{OrderDoesNotMatter}
use Rattle.ddt_deploy.proofs.FoldersLemmas.OrderLemmas.{HaveSame, order_moves, own_moved, same_order}

-- ---- what the shape says

one_overlaps : (p q : List ℕ) → is_same_path p q ≡ true → overlaps p q ≡ true
one_overlaps p q e = or_left (covers p q) (covers q p)
    (subst (λ (z : List ℕ). covers p z ≡ true) (same_path p q e) (covers_self p))

apart_own : (cs : List Child) → are_apart (λ (c : Child). c.prefix) cs ≡ true
    → have_own_prefixes (λ (c : Child). c.prefix) cs ≡ true
apart_own [] e = refl
apart_own (c ∷ cs) e =
    let p = and_parts (not (list_any (λ (d : Child). overlaps c.prefix d.prefix) cs))
    (are_apart (λ (d : Child). d.prefix) cs) e in
    let none = not-true (list_any (λ (d : Child). overlaps c.prefix d.prefix) cs) p.0 in
    and_from (not (list_any (λ (d : Child). is_same_path c.prefix d.prefix) cs))
    (have_own_prefixes (λ (d : Child). d.prefix) cs)
    (not_from_false (list_any (λ (d : Child). is_same_path c.prefix d.prefix) cs)
    (none_of (λ (d : Child). is_same_path c.prefix d.prefix) cs (λ d k.
    false_from_ne_true (is_same_path c.prefix d.prefix) (λ same.
    both_ways (overlaps c.prefix d.prefix) (fails_at (λ (y : Child). overlaps c.prefix y.prefix) cs d none k)
    (one_overlaps c.prefix d.prefix same)))))
    (apart_own cs p.1)

content_own : (role : Role) (prefix : List ℕ) (content : Content) → is_content_of role prefix content ≡ true
    → holds_own_prefixes content ≡ true
content_own Node prefix (Children cs) e =
    apart_own cs (and_parts (list_all (is_child_of prefix) cs) (are_apart (λ (c : Child). c.prefix) cs) e).1
content_own Ms prefix (Sites ss) e =
    (and_parts (list_all (is_site_of prefix) ss) (have_own_prefixes (λ (s : SiteEntry). s.prefix) ss) e).1
content_own Node prefix (Sites ss) e = absurd (false≢true e)
content_own Ms prefix (Children cs) e = absurd (false≢true e)

pub record HasOwn (authorities : List Authority) : Type 0 where
  pub prefixes : have_own_prefixes (λ (a : Authority). a.prefix) authorities ≡ true
  pub contents : list_all (λ (a : Authority). holds_own_prefixes a.content) authorities ≡ true

module _ (role : Role) (locators : List Locator) (authorities : List Authority)
    (e : is_shaped role locators authorities ≡ true) where
  servers_fit : (is_server_set locators && are_distinct locators) ≡ true
  servers_fit = (and_parts (is_server_set locators && are_distinct locators)
      (have_own_prefixes (λ (a : Authority). a.prefix) authorities && list_all (is_authority_of role) authorities)
      e).0

  authorities_fit : (have_own_prefixes (λ (a : Authority). a.prefix) authorities ≡ true)
      × (list_all (is_authority_of role) authorities ≡ true)
  authorities_fit = and_parts (have_own_prefixes (λ (a : Authority). a.prefix) authorities)
      (list_all (is_authority_of role) authorities)
      (and_parts (is_server_set locators && are_distinct locators)
      (have_own_prefixes (λ (a : Authority). a.prefix) authorities && list_all (is_authority_of role) authorities) e).1

  pub has_own : HasOwn authorities
  has_own = record {
    prefixes = authorities_fit.0;
    contents = all_of (λ (a : Authority). holds_own_prefixes a.content) authorities
        (λ a k. content_own role a.prefix a.content (holds_at (is_authority_of role) authorities a authorities_fit.1 k));
  }

-- ---- the shape is kept

all_moved : {A : Type 0} (test : A → Bool) (xs ys : List A) → IsPermutation xs ys → list_all test xs ≡ true
    → list_all test ys ≡ true
all_moved test xs ys moved e =
    all_of test ys (λ y k. holds_at test xs y e (moved_in ys xs (IsPermutation-sym xs ys moved) y k))

content_kept : (role : Role) (prefix : List ℕ) (content : Content) → is_content_of role prefix content ≡ true
    → is_content_of role prefix (ordered_content content) ≡ true
content_kept Node prefix (Children cs) e =
    let key = λ (c : Child). c.prefix in
    let p = and_parts (list_all (is_child_of prefix) cs) (are_apart key cs) e in
    let moved = order_moves key cs in
    and_from (list_all (is_child_of prefix) (by_prefix key cs)) (are_apart key (by_prefix key cs))
    (all_moved (is_child_of prefix) cs (by_prefix key cs) moved p.0)
    (sym (no_two-IsPermutation (λ (a b : Child). overlaps a.prefix b.prefix)
    (λ a b. or_comm (covers a.prefix b.prefix) (covers b.prefix a.prefix)) cs (by_prefix key cs) moved) ∙ p.1)
content_kept Ms prefix (Sites ss) e =
    let key = λ (s : SiteEntry). s.prefix in
    let p = and_parts (list_all (is_site_of prefix) ss) (have_own_prefixes key ss) e in
    let moved = order_moves key ss in
    and_from (list_all (is_site_of prefix) (by_prefix key ss)) (have_own_prefixes key (by_prefix key ss))
    (all_moved (is_site_of prefix) ss (by_prefix key ss) moved p.0) (own_moved key ss (by_prefix key ss) moved p.1)
content_kept Node prefix (Sites ss) e = absurd (false≢true e)
content_kept Ms prefix (Children cs) e = absurd (false≢true e)

abbrev a_key : Authority → List ℕ
a_key a = a.prefix

own_each : (authorities : List Authority) → have_own_prefixes a_key authorities ≡ true
    → have_own_prefixes a_key (map ordered_authority authorities) ≡ true
own_each authorities own =
    no_two-map (λ (a b : Authority). is_same_path a.prefix b.prefix) ordered_authority authorities ∙ own

pub shape_kept : (role : Role) (locators : List Locator) (authorities : List Authority)
    → is_shaped role locators authorities ≡ true
    → is_shaped role locators (by_prefix a_key (map ordered_authority authorities)) ≡ true
shape_kept role locators authorities e =
    let each = map ordered_authority authorities in
    let moved = order_moves a_key each in
    let fit = authorities_fit role locators authorities e in
    and_from (is_server_set locators && are_distinct locators)
    (have_own_prefixes a_key (by_prefix a_key each) && list_all (is_authority_of role) (by_prefix a_key each))
    (servers_fit role locators authorities e)
    (and_from (have_own_prefixes a_key (by_prefix a_key each)) (list_all (is_authority_of role) (by_prefix a_key each))
    (own_moved a_key each (by_prefix a_key each) moved (own_each authorities fit.0))
    (all_moved (is_authority_of role) each (by_prefix a_key each) moved
    (all_of (is_authority_of role) each (λ z k.
    let f = in_map ordered_authority authorities z k in
    ap (is_authority_of role) f.2
    ∙ content_kept role f.0.prefix f.0.content (holds_at (is_authority_of role) authorities f.0 fit.1 f.1)))))

-- what the code makes of the authorities of a configuration, step by step
pub settled : (role : Role) (locators : List Locator) (authorities each sorted : List Authority)
    → is_shaped role locators authorities ≡ true
    → (list_all (λ (a : Authority). holds_own_prefixes a.content) authorities ≡ true
    → each ≡ map ordered_authority authorities)
    → (have_own_prefixes (λ (a : Authority). a.prefix) each ≡ true → sorted ≡ by_prefix (λ (a : Authority). a.prefix) each)
    → sorted ≡ by_prefix (λ (a : Authority). a.prefix) (map ordered_authority authorities)
settled role locators authorities each sorted shaped made is =
    let own = has_own role locators authorities shaped in
    let e = made own.contents in
    is (subst (λ (zs : List Authority). have_own_prefixes a_key zs ≡ true) (sym e) (own_each authorities own.prefixes))
    ∙ ap (by_prefix a_key) e

-- ---- alike ones

same_servers : (s t : List Locator) → are_same_servers s t ≡ true → s ≡ t
same_servers [] [] e = refl
same_servers [] (l ∷ t) e = absurd (false≢true e)
same_servers (k ∷ s) [] e = absurd (false≢true e)
same_servers (k ∷ s) (l ∷ t) e =
    let p = and_parts (is_same_locator k l) (are_same_servers s t) e in
    ap₂ (λ (m : Locator) (u : List Locator). m ∷ u) (same_locator k l p.0) (same_servers s t p.1)

same_role : (a b : Role) → is_same_role a b ≡ true → a ≡ b
same_role Node Node e = refl
same_role Ms Ms e = refl
same_role Node Ms e = absurd (false≢true e)
same_role Ms Node e = absurd (false≢true e)

same_child : (c d : Child) → is_same_child c d ≡ true → c ≡ d
same_child c d e =
    let p = and_parts (is_same_path c.prefix d.prefix)
    (is_same_role c.role d.role && are_same_servers c.locators d.locators) e in
    let q = and_parts (is_same_role c.role d.role) (are_same_servers c.locators d.locators) p.1 in
    λ i. record {
      prefix = same_path c.prefix d.prefix p.0 i;
      role = same_role c.role d.role q.0 i;
      locators = same_servers c.locators d.locators q.1 i;
    }

same_site : (s t : SiteEntry) → is_same_site s t ≡ true → s ≡ t
same_site s t e =
    let p = and_parts (is_same_path s.prefix t.prefix) (are_same_servers s.etrs t.etrs) e in
    λ i. record { prefix = same_path s.prefix t.prefix p.0 i; etrs = same_servers s.etrs t.etrs p.1 i }

module _ {A B : Type 0} (same : A → A → Bool) (f : A → B) (xs ys : List A)
    (e : are_alike same xs ys ≡ true)
    (one : (x y : A) → IsIn x xs → IsIn y ys → same x y ≡ true → f x ≡ f y) where
  sides : (list_all (λ x. list_any (λ y. same x y) ys) xs ≡ true)
      × (list_all (λ y. list_any (λ x. same x y) xs) ys ≡ true)
  sides = and_parts (list_all (λ x. list_any (λ y. same x y) ys) xs) (list_all (λ y. list_any (λ x. same x y) xs) ys) e

  have_same : HaveSame (map f xs) (map f ys)
  have_same = record {
    there = λ z k.
        let x = in_map f xs z k in
        let y = any_in (λ w. same x.0 w) ys (holds_at (λ v. list_any (λ w. same v w) ys) xs x.0 sides.0 x.1) in
        subst (λ (w : B). IsIn w (map f ys)) (sym (x.2 ∙ one x.0 y.0 x.1 y.1 y.2)) (map_in f ys y.0 y.1);
    back = λ z k.
        let y = in_map f ys z k in
        let x = any_in (λ v. same v y.0) xs (holds_at (λ w. list_any (λ v. same v w) xs) ys y.0 sides.1 y.1) in
        subst (λ (w : B). IsIn w (map f xs)) (one x.0 y.0 x.1 y.1 x.2 ∙ sym y.2) (map_in f xs x.0 x.1);
  }

map_itself : {A : Type 0} (xs : List A) → map (λ (x : A). x) xs ≡ xs
map_itself [] = refl
map_itself (x ∷ xs) = ap (λ (zs : List _). x ∷ zs) (map_itself xs)

alike_items : {A : Type 0} (same : A → A → Bool) → ((x y : A) → same x y ≡ true → x ≡ y) → (xs ys : List A)
    → are_alike same xs ys ≡ true → HaveSame xs ys
alike_items {A} same one xs ys e =
    subst (λ (zs : List A). HaveSame zs ys) (map_itself xs)
    (subst (λ (zs : List A). HaveSame (map (λ (x : A). x) xs) zs) (map_itself ys)
    (have_same same (λ (x : A). x) xs ys e (λ x y j k s. one x y s)))

one_content : (a b : Content) → holds_own_prefixes a ≡ true → holds_own_prefixes b ≡ true
    → is_same_content a b ≡ true → ordered_content a ≡ ordered_content b
one_content (Children cs) (Children ds) own others e = ap (λ (zs : List Child). Children zs)
    (same_order (λ (c : Child). c.prefix) cs ds own others (alike_items is_same_child same_child cs ds e))
one_content (Sites ss) (Sites ts) own others e = ap (λ (zs : List SiteEntry). Sites zs)
    (same_order (λ (s : SiteEntry). s.prefix) ss ts own others (alike_items is_same_site same_site ss ts e))
one_content (Children cs) (Sites ts) own others e = absurd (false≢true e)
one_content (Sites ss) (Children ds) own others e = absurd (false≢true e)

one_authority : (a b : Authority) → holds_own_prefixes a.content ≡ true → holds_own_prefixes b.content ≡ true
    → is_same_authority a b ≡ true → ordered_authority a ≡ ordered_authority b
one_authority a b own others e =
    let p = and_parts (is_same_path a.prefix b.prefix) (is_same_content a.content b.content) e in
    let content = one_content a.content b.content own others p.1 in
    λ i. record { prefix = same_path a.prefix b.prefix p.0 i; content = content i }

pub order_does_not_matter : OrderDoesNotMatter
order_does_not_matter c d s t name e =
    let p = and_parts (is_same_role c.role d.role)
    (are_same_servers c.locators d.locators && are_alike is_same_authority c.authorities d.authorities) e in
    let q = and_parts (are_same_servers c.locators d.locators)
    (are_alike is_same_authority c.authorities d.authorities) p.1 in
    let own = has_own c.role c.locators c.authorities s in
    let others = has_own d.role d.locators d.authorities t in
    let whole = λ (a : Authority). holds_own_prefixes a.content in
    let authorities = same_order a_key (map ordered_authority c.authorities) (map ordered_authority d.authorities)
    (own_each c.authorities own.prefixes) (own_each d.authorities others.prefixes)
    (have_same is_same_authority ordered_authority c.authorities d.authorities q.1
    (λ a b j k same. one_authority a b (holds_at whole c.authorities a own.contents j)
    (holds_at whole d.authorities b others.contents k) same)) in
    λ i. record {
      name = name i;
      role = same_role c.role d.role p.0 i;
      locators = same_servers c.locators d.locators q.0 i;
      authorities = authorities i;
    }
