-- The configuration in force, where one site changes.
use Rattle.std.proofs.Common.{◌≡◌, ℕ, zero, suc, Bool, true, false, cond, List, [], ◌∷◌, map, Some, refl, sym, ap, ◌∙◌, inl, inr}
use Rattle.std.specs.Prelude.{not, slice_get}
use Rattle.std.specs.List.{list_any}
use Rattle.std.proofs.lemmas.Bool.{false≢true, false_from_ne_true, not-true, and_parts, cond-true, cond-false}
use Rattle.std.proofs.lemmas.Option.{none-some, same_Some}
use Rattle.ddt_path.specs.declared.locator.Locator.{Locator}
use Rattle.ddt_path.specs.Covers.{is_same_path}
use Rattle.ddt_path.specs.laws.Cover.{same_path, path_itself}
use Rattle.ddt_path.specs.laws.Member.{IsIn, in_any, in_get}
use Rattle.ddt_config.specs.declared.site_entry.SiteEntry.{SiteEntry}
use Rattle.ddt_config.specs.declared.authority.Content.{Content}
use Rattle.ddt_config.specs.declared.authority.Content.TheVariants.{Children, Sites}
use Rattle.ddt_config.specs.declared.authority.Authority.{Authority}
use Rattle.ddt_config.specs.Shaped.{have_own_prefixes}
use Rattle.ddt_config.specs.Table.{Outline}
use Rattle.ddt_node.specs.Etrs.{site_with, content_with, authority_with, with_etrs}
use Rattle.ddt_node.specs.laws.Changed.{at_prefix, all_stay}
use Rattle.ddt_registrar.specs.State.{Site}
use Rattle.ddt_registrar.specs.Taking.{etrs_in_force, in_force}

-- two ways to change each item that are one, change all items alike
each_alike : {A : Type 0} (f g h k : A → A) → ((a : A) → f (g a) ≡ h (k a)) → (xs : List A) → map f (map g xs) ≡ map h (map k xs)
each_alike f g h k e [] = refl
each_alike {A = A} f g h k e (x ∷ xs) =
    ap (λ (y : A). y ∷ map f (map g xs)) (e x) ∙ ap (λ (ys : List A). h (k x) ∷ ys) (each_alike f g h k e xs)

pub each_once : {A : Type 0} (f g h : A → A) → ((a : A) → f (g a) ≡ h a) → (xs : List A) → map f (map g xs) ≡ map h xs
each_once f g h e [] = refl
each_once {A = A} f g h e (x ∷ xs) =
    ap (λ (y : A). y ∷ map f (map g xs)) (e x) ∙ ap (λ (ys : List A). h x ∷ ys) (each_once f g h e xs)

-- ---- the later ETRs of a site count

module _ (p : List ℕ) (e d : List Locator) where
  chosen_over : (b : Bool) (x : List Locator) → cond b e (cond b d x) ≡ cond b e x
  chosen_over true x = refl
  chosen_over false x = refl

  site_over : (s : SiteEntry) → site_with p e (site_with p d s) ≡ site_with p e s
  site_over s =
      ap (λ (ls : List Locator). let r : SiteEntry = record { prefix = s.prefix; etrs = ls } in r)
      (chosen_over (is_same_path s.prefix p) s.etrs)

  content_over : (c : Content) → content_with p e (content_with p d c) ≡ content_with p e c
  content_over (Children cs) = refl
  content_over (Sites ss) =
      ap (λ (xs : List SiteEntry). Sites xs) (each_once (site_with p e) (site_with p d) (site_with p e) site_over ss)

  authority_over : (a : Authority) → authority_with p e (authority_with p d a) ≡ authority_with p e a
  authority_over a =
      ap (λ (c : Content). let r : Authority = record { prefix = a.prefix; content = c } in r) (content_over a.content)

  -- of ETRs that a site has one after the other, the later ones count
  pub later_count : (c : Outline) → with_etrs p e (with_etrs p d c) ≡ with_etrs p e c
  later_count c =
      ap (λ (all : List Authority). let o : Outline = record { name = c.name; role = c.role; locators = c.locators; authorities = all } in o)
      (each_once (authority_with p e) (authority_with p d) (authority_with p e) authority_over c.authorities)

-- ---- of two sites the order doesn't count

-- no site has two prefixes
not_both : (p q s : List ℕ) → is_same_path q p ≡ false → is_same_path s q ≡ true → is_same_path s p ≡ true → ⊥
not_both p q s apart a b = false≢true (sym apart ∙ (ap (λ (x : List ℕ). is_same_path x p) (sym (same_path s q a)) ∙ b))

module _ (p q : List ℕ) (e d : List Locator) (apart : is_same_path q p ≡ false) where
  chosen_both : (b c : Bool) (x : List Locator) → (b ≡ true → c ≡ true → ⊥) → cond b d (cond c e x) ≡ cond c e (cond b d x)
  chosen_both true true x h = absurd (h refl refl)
  chosen_both true false x h = refl
  chosen_both false true x h = refl
  chosen_both false false x h = refl

  site_both : (s : SiteEntry) → site_with q d (site_with p e s) ≡ site_with p e (site_with q d s)
  site_both s =
      ap (λ (ls : List Locator). let r : SiteEntry = record { prefix = s.prefix; etrs = ls } in r)
      (chosen_both (is_same_path s.prefix q) (is_same_path s.prefix p) s.etrs (not_both p q s.prefix apart))

  content_both : (c : Content) → content_with q d (content_with p e c) ≡ content_with p e (content_with q d c)
  content_both (Children cs) = refl
  content_both (Sites ss) =
      ap (λ (xs : List SiteEntry). Sites xs)
      (each_alike (site_with q d) (site_with p e) (site_with p e) (site_with q d) site_both ss)

  authority_both : (a : Authority) → authority_with q d (authority_with p e a) ≡ authority_with p e (authority_with q d a)
  authority_both a =
      ap (λ (c : Content). let r : Authority = record { prefix = a.prefix; content = c } in r) (content_both a.content)

  -- sites of different prefixes may have their ETRs in either order
  pub either_order : (c : Outline) → with_etrs q d (with_etrs p e c) ≡ with_etrs p e (with_etrs q d c)
  either_order c =
      ap (λ (all : List Authority). let o : Outline = record { name = c.name; role = c.role; locators = c.locators; authorities = all } in o)
      (each_alike (authority_with q d) (authority_with p e) (authority_with p e) (authority_with q d) authority_both c.authorities)

-- ---- all sites, one after the other

-- what no site has the prefix of may be set before them all
set_before : (p : List ℕ) (e : List Locator) (sites : List Site) → ((s : Site) → IsIn s sites → is_same_path s.prefix p ≡ false)
    → (c : Outline) → in_force sites (with_etrs p e c) ≡ with_etrs p e (in_force sites c)
set_before p e [] apart c = refl
set_before p e (s ∷ sites) apart c =
    ap (in_force sites) (either_order p s.prefix e (etrs_in_force s) (apart s (inl refl)) c)
    ∙ set_before p e sites (λ t k. apart t (inr k)) (with_etrs s.prefix (etrs_in_force s) c)

-- A site is the only one of its prefix: where it changes, the configuration in force changes by its ETRs alone. So one
-- call of `set_etrs` follows it.
pub one_site_is_set : (sites : List Site) (p : List ℕ) (f : Site → Site) (k : ℕ) (x : Site) → ((s : Site) → (f s).prefix ≡ s.prefix)
    → have_own_prefixes (λ (s : Site). s.prefix) sites ≡ true → slice_get sites k ≡ Some x → x.prefix ≡ p
    → (c : Outline) → in_force (map (at_prefix (λ (s : Site). s.prefix) p f) sites) c ≡ with_etrs p (etrs_in_force (f x)) (in_force sites c)
one_site_is_set [] p f k x kept own at has c = absurd (none-some x at)
one_site_is_set (a ∷ sites) p f zero x kept own at has c =
    let changed : Site → Site = at_prefix (λ (s : Site). s.prefix) p f in
    let is : a ≡ x = same_Some a x at in
    let of_p : a.prefix ≡ p = ap (λ (s : Site). s.prefix) is ∙ has in
    let front : changed a ≡ f x = cond-true (is_same_path a.prefix p) (f a) a (path_itself a.prefix p of_p) ∙ ap f is in
    let alone : list_any (λ (b : Site). is_same_path a.prefix b.prefix) sites ≡ false =
    not-true _ (and_parts (not (list_any (λ (b : Site). is_same_path a.prefix b.prefix) sites)) _ own).0 in
    let apart : (s : Site) → IsIn s sites → is_same_path s.prefix p ≡ false =
    λ s k. false_from_ne_true _ (λ h. false≢true (sym alone
    ∙ in_any (λ (b : Site). is_same_path a.prefix b.prefix) sites s k (path_itself a.prefix s.prefix (of_p ∙ sym (same_path s.prefix p h))))) in
    let e = etrs_in_force (f x) in
    ap (λ (ss : List Site). in_force ss (with_etrs (changed a).prefix (etrs_in_force (changed a)) c)) (all_stay (λ (s : Site). s.prefix) p f sites apart)
    ∙ ap (λ (s : Site). in_force sites (with_etrs s.prefix (etrs_in_force s) c)) front
    ∙ ap (λ (q : List ℕ). in_force sites (with_etrs q e c)) (kept x ∙ has)
    ∙ ap (in_force sites) (sym (later_count p e (etrs_in_force a) c))
    ∙ ap (λ (q : List ℕ). in_force sites (with_etrs p e (with_etrs q (etrs_in_force a) c))) (sym of_p)
    ∙ set_before p e sites apart (with_etrs a.prefix (etrs_in_force a) c)
one_site_is_set (a ∷ sites) p f (suc k) x kept own at has c =
    let changed : Site → Site = at_prefix (λ (s : Site). s.prefix) p f in
    let parts = and_parts (not (list_any (λ (b : Site). is_same_path a.prefix b.prefix) sites)) _ own in
    let alone : list_any (λ (b : Site). is_same_path a.prefix b.prefix) sites ≡ false = not-true _ parts.0 in
    let other : is_same_path a.prefix p ≡ false =
    false_from_ne_true _ (λ h. false≢true (sym alone
    ∙ in_any (λ (b : Site). is_same_path a.prefix b.prefix) sites x (in_get sites k x at) (path_itself a.prefix x.prefix (same_path a.prefix p h ∙ sym has)))) in
    ap (λ (s : Site). in_force (map changed sites) (with_etrs s.prefix (etrs_in_force s) c)) (cond-false (is_same_path a.prefix p) (f a) a other)
    ∙ one_site_is_set sites p f k x kept parts.1 at has (with_etrs a.prefix (etrs_in_force a) c)
