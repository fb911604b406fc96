-- Configurations that are alike answer each identifier the same.
use Rattle.std.proofs.Common.{◌≡◌, ℕ, Bool, true, false, cond, List, [], ◌∷◌, length, map, Option, Some, None, refl, sym, ap, subst, ◌∙◌}
use Rattle.std.specs.Prelude.{◌==◌, ◌&&◌}
use Rattle.std.specs.List.{list_all, filter}
use Rattle.std.specs.Option.{option_map_or}
use Rattle.std.proofs.lemmas.Bool.{and_parts, false≢true, or_left}
use Rattle.ddt_path.specs.declared.locator.Locator.{Locator}
use Rattle.ddt_path.specs.declared.matches.Preference.TheVariants.{Longest}
use Rattle.ddt_path.specs.declared.record.Outcome.TheVariants.{Registered, NotRegistered, Hole}
use Rattle.ddt_path.specs.declared.record.Role.{Role}
use Rattle.ddt_path.specs.declared.record.Role.TheVariants.{Node, Ms}
use Rattle.ddt_path.specs.Covers.{covers, overlaps, is_same_path, is_strictly_below}
use Rattle.ddt_path.specs.Locators.{is_same_locator, are_distinct}
use Rattle.ddt_path.specs.Free.{hole_of}
use Rattle.ddt_path.specs.Matching.{longest_match}
use Rattle.ddt_path.specs.Records.{record_of, not_authoritative}
use Rattle.ddt_path.specs.laws.Cover.{same_path, path_itself, covers_self}
use Rattle.ddt_path.specs.laws.Locator.{same_locator}
use Rattle.ddt_path.specs.laws.Matching.{best_member}
use Rattle.ddt_path.specs.laws.Member.{IsIn, holds_at}
use Rattle.ddt_check.specs.Zones.{is_same_role}
use Rattle.ddt_config.specs.declared.child.Child.{Child}
use Rattle.ddt_config.specs.declared.site_entry.SiteEntry.{SiteEntry}
use Rattle.ddt_config.specs.declared.authority.Content.{Content}
use Rattle.ddt_config.specs.declared.authority.Content.TheVariants.{Children, Sites}
use Rattle.ddt_config.specs.declared.authority.Authority.{Authority}
use Rattle.ddt_config.specs.Answer.{answer, answer_in, referral_to, site_outcome, strictly_below}
use Rattle.ddt_config.specs.Shaped.{have_own_prefixes, are_apart, is_server_set, is_child_of, is_site_of, is_content_of, is_authority_of, is_shaped}
use Rattle.ddt_config.specs.Table.{Outline}
use Rattle.ddt_config.specs.laws.Same.{same_child}
use Rattle.ddt_compile.specs.laws.Statements.{IsShapedConfig}
use Rattle.ddt_plan.specs.Changes.{are_same_servers}
use Rattle.ddt_plan.specs.Groups.{are_alike, is_same_child, is_same_site, is_same_content, is_same_authority, is_same_config}
use Rattle.ddt_organisations.proofs.SeamLemmas.MatchLemmas.{one_of_no_two, path_forth, path_back, match_alike, none_alike, same_hole, kept_forth, kept_back}

abbrev child_prefix : Child → List ℕ
child_prefix c = c.prefix

abbrev site_prefix : SiteEntry → List ℕ
site_prefix s = s.prefix

abbrev authority_prefix : Authority → List ℕ
authority_prefix a = a.prefix

-- ---- what is the same

pub same_servers : (s t : List Locator) → are_same_servers s t ≡ true → s ≡ t
same_servers [] [] e = refl
same_servers [] (l ∷ t) e = absurd (false≢true e)
same_servers (k ∷ s) [] e = absurd (false≢true e)
same_servers (k ∷ s) (l ∷ t) e =
    let p = and_parts (is_same_locator k l) (are_same_servers s t) e in
    ap (λ (m : Locator). m ∷ s) (same_locator k l p.0) ∙ ap (λ (u : List Locator). l ∷ u) (same_servers s t p.1)

same_role : (a b : Role) → is_same_role a b ≡ true → a ≡ b
same_role Node Node e = refl
same_role Ms Ms e = refl
same_role Node Ms e = absurd (false≢true e)
same_role Ms Node e = absurd (false≢true e)

one_child : (c d : Child) → is_same_child c d ≡ true → c ≡ d
one_child c d e =
    let p = and_parts (is_same_path c.prefix d.prefix) (is_same_role c.role d.role && are_same_servers c.locators d.locators) e in
    let q = and_parts (is_same_role c.role d.role) (are_same_servers c.locators d.locators) p.1 in
    same_child c d (same_path c.prefix d.prefix p.0) (same_role c.role d.role q.0) (same_servers c.locators d.locators q.1)

same_site_entry : (s t : SiteEntry) → s.prefix ≡ t.prefix → s.etrs ≡ t.etrs → s ≡ t
same_site_entry s t p e = λ i. record { prefix = p i; etrs = e i }

one_site : (s t : SiteEntry) → is_same_site s t ≡ true → s ≡ t
one_site s t e =
    let p = and_parts (is_same_path s.prefix t.prefix) (are_same_servers s.etrs t.etrs) e in
    same_site_entry s t (same_path s.prefix t.prefix p.0) (same_servers s.etrs t.etrs p.1)

one_authority : (a b : Authority) → is_same_authority a b ≡ true → a.prefix ≡ b.prefix
one_authority a b e = same_path a.prefix b.prefix (and_parts (is_same_path a.prefix b.prefix) (is_same_content a.content b.content) e).0

-- ---- what has a prefix of its own

same_overlaps : (p q : List ℕ) → p ≡ q → overlaps p q ≡ true
same_overlaps p q e = or_left (covers p q) (covers q p) (subst (λ (z : List ℕ). covers p z ≡ true) e (covers_self p))

own_child : (cs : List Child) → are_apart child_prefix cs ≡ true → (b c : Child) → IsIn b cs → IsIn c cs
    → b.prefix ≡ c.prefix → b ≡ c
own_child cs e b c j k same = one_of_no_two (λ (y z : Child). overlaps y.prefix z.prefix) cs e b c j k
    (same_overlaps b.prefix c.prefix same) (same_overlaps c.prefix b.prefix (sym same))

own_site : (ss : List SiteEntry) → have_own_prefixes site_prefix ss ≡ true → (b c : SiteEntry) → IsIn b ss → IsIn c ss
    → b.prefix ≡ c.prefix → b ≡ c
own_site ss e b c j k same = one_of_no_two (λ (y z : SiteEntry). is_same_path y.prefix z.prefix) ss e b c j k
    (path_itself b.prefix c.prefix same) (path_itself c.prefix b.prefix (sym same))

own_authority : (zs : List Authority) → have_own_prefixes authority_prefix zs ≡ true → (b c : Authority) → IsIn b zs
    → IsIn c zs → b.prefix ≡ c.prefix → b ≡ c
own_authority zs e b c j k same = one_of_no_two (λ (y z : Authority). is_same_path y.prefix z.prefix) zs e b c j k
    (path_itself b.prefix c.prefix same) (path_itself c.prefix b.prefix (sym same))

-- ---- in an authority

module _ (servers : List Locator) (authority x : List ℕ) where
  module _ (cs ds : List Child) (alike : are_alike is_same_child cs ds ≡ true) (apart : are_apart child_prefix ds ≡ true) where
    one_prefix : (c d : Child) → is_same_child c d ≡ true → c.prefix ≡ d.prefix
    one_prefix c d e = ap child_prefix (one_child c d e)

    children_case : (found : Option Child) → longest_match child_prefix cs x ≡ found
        → answer_in servers authority (Children cs) x ≡ answer_in servers authority (Children ds) x
    children_case (Some c) e =
        let d = match_alike child_prefix is_same_child one_prefix cs ds alike (own_child ds apart) x c e in
        rw (e, d.1) (ap referral_to (one_child c d.0 d.2))
    children_case None e =
        rw (e, none_alike child_prefix is_same_child one_prefix cs ds alike (own_child ds apart) x e)
        (ap (λ (q : List ℕ). record_of (Hole q))
        (same_hole (map child_prefix cs) (map child_prefix ds)
        (path_forth child_prefix is_same_child one_prefix cs ds alike)
        (path_back child_prefix is_same_child one_prefix cs ds alike) authority x))

    children_answer : answer_in servers authority (Children cs) x ≡ answer_in servers authority (Children ds) x
    children_answer = children_case (longest_match child_prefix cs x) refl

  module _ (ss ts : List SiteEntry) (alike : are_alike is_same_site ss ts ≡ true)
      (apart : have_own_prefixes site_prefix ts ≡ true) where
    one_site_prefix : (s t : SiteEntry) → is_same_site s t ≡ true → s.prefix ≡ t.prefix
    one_site_prefix s t e = ap site_prefix (one_site s t e)

    forth : (p : List ℕ) → IsIn p (map site_prefix ss) → IsIn p (map site_prefix ts)
    forth = path_forth site_prefix is_same_site one_site_prefix ss ts alike

    back : (p : List ℕ) → IsIn p (map site_prefix ts) → IsIn p (map site_prefix ss)
    back = path_back site_prefix is_same_site one_site_prefix ss ts alike

    part : (p : List ℕ) → hole_of p (strictly_below p (map site_prefix ss)) x
        ≡ hole_of p (strictly_below p (map site_prefix ts)) x
    part p =
        let below = (λ (q : List ℕ). is_strictly_below q p) in
        same_hole (filter below (map site_prefix ss)) (filter below (map site_prefix ts))
        (kept_forth (map site_prefix ss) (map site_prefix ts) forth back below)
        (kept_back (map site_prefix ss) (map site_prefix ts) forth back below) p x

    of_site : (s t : SiteEntry) → s ≡ t → site_outcome servers (map site_prefix ss) x s
        ≡ site_outcome servers (map site_prefix ts) x t
    of_site s t e =
        ap (λ (q : List ℕ). cond (length s.etrs == 0) (NotRegistered q servers) (Registered s.prefix servers)) (part s.prefix)
        ∙ ap (site_outcome servers (map site_prefix ts) x) e

    sites_case : (found : Option SiteEntry) → longest_match site_prefix ss x ≡ found
        → answer_in servers authority (Sites ss) x ≡ answer_in servers authority (Sites ts) x
    sites_case (Some s) e =
        let t = match_alike site_prefix is_same_site one_site_prefix ss ts alike (own_site ts apart) x s e in
        rw (e, t.1) (ap record_of (of_site s t.0 (one_site s t.0 t.2)))
    sites_case None e =
        rw (e, none_alike site_prefix is_same_site one_site_prefix ss ts alike (own_site ts apart) x e)
        (ap (λ (q : List ℕ). record_of (Hole q))
        (same_hole (map site_prefix ss) (map site_prefix ts) forth back authority x))

    sites_answer : answer_in servers authority (Sites ss) x ≡ answer_in servers authority (Sites ts) x
    sites_answer = sites_case (longest_match site_prefix ss x) refl

  content_answer : (role : Role) (prefix : List ℕ) (a b : Content) → is_same_content a b ≡ true
      → is_content_of role prefix b ≡ true → answer_in servers authority a x ≡ answer_in servers authority b x
  content_answer Node prefix (Children cs) (Children ds) e shaped =
      children_answer cs ds e (and_parts (list_all (is_child_of prefix) ds) (are_apart child_prefix ds) shaped).1
  content_answer Ms prefix (Sites ss) (Sites ts) e shaped =
      sites_answer ss ts e (and_parts (list_all (is_site_of prefix) ts) (have_own_prefixes site_prefix ts) shaped).1
  content_answer Ms prefix (Children cs) (Children ds) e shaped = absurd (false≢true shaped)
  content_answer Node prefix (Sites ss) (Sites ts) e shaped = absurd (false≢true shaped)
  content_answer role prefix (Children cs) (Sites ts) e shaped = absurd (false≢true e)
  content_answer role prefix (Sites ss) (Children ds) e shaped = absurd (false≢true e)

-- ---- of a configuration

module _ (c d : Outline) (alike : is_same_config c d ≡ true) (shaped : IsShapedConfig d) where
  parts : (are_same_servers c.locators d.locators ≡ true) × (are_alike is_same_authority c.authorities d.authorities ≡ true)
  parts =
      let p = and_parts (is_same_role c.role d.role)
      (are_same_servers c.locators d.locators && are_alike is_same_authority c.authorities d.authorities) alike in
      and_parts (are_same_servers c.locators d.locators) (are_alike is_same_authority c.authorities d.authorities) p.1

  pub locators_same : c.locators ≡ d.locators
  locators_same = same_servers c.locators d.locators parts.0

  shape : (have_own_prefixes authority_prefix d.authorities ≡ true) × (list_all (is_authority_of d.role) d.authorities ≡ true)
  shape =
      let p = and_parts (is_server_set d.locators && are_distinct d.locators)
      (have_own_prefixes authority_prefix d.authorities && list_all (is_authority_of d.role) d.authorities) shaped in
      and_parts (have_own_prefixes authority_prefix d.authorities) (list_all (is_authority_of d.role) d.authorities) p.1

  module _ (x : List ℕ) where
    answer_case : (found : Option Authority) → longest_match authority_prefix c.authorities x ≡ found
        → answer c x ≡ answer d x
    answer_case None e =
        rw (
          e,
          none_alike authority_prefix is_same_authority one_authority c.authorities d.authorities parts.1
              (own_authority d.authorities shape.0) x e,
        ) refl
    answer_case (Some a) e =
        let b = match_alike authority_prefix is_same_authority one_authority c.authorities d.authorities parts.1
        (own_authority d.authorities shape.0) x a e in
        let content = (and_parts (is_same_path a.prefix b.0.prefix) (is_same_content a.content b.0.content) b.2).1 in
        let there = best_member Longest authority_prefix x d.authorities b.0 b.1 in
        rw (e, b.1)
        (content_answer c.locators a.prefix x d.role b.0.prefix a.content b.0.content content
        (holds_at (is_authority_of d.role) d.authorities b.0 shape.1 there.0)
        ∙ ap (λ (p : List ℕ). answer_in c.locators p b.0.content x) (one_authority a b.0 b.2)
        ∙ ap (λ (ls : List Locator). answer_in ls b.0.prefix b.0.content x) locators_same)

    pub alike_answer : answer c x ≡ answer d x
    alike_answer = answer_case (longest_match authority_prefix c.authorities x) refl
