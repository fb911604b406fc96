-- The configuration of a group at a stage has the shape that a configuration keeps.
use Rattle.std.proofs.Common.{◌≡◌, Bool, true, false, cond, List, [], ◌∷◌, ◌++◌, refl, inl, inr, ◌∙◌}
use Rattle.std.specs.Prelude.{◌&&◌, not}
use Rattle.std.specs.List.{filter, list_any, list_all}
use Rattle.std.proofs.lemmas.Bool.{and_parts, and_from, not-true, not_from_false, false≢true}
use Rattle.std.proofs.lemmas.List.Folds.{list_any-append, list_all-append}
use Rattle.ddt_path.specs.declared.locator.Locator.{Locator}
use Rattle.ddt_path.specs.declared.record.Role.{Role}
use Rattle.ddt_path.specs.declared.record.Role.TheVariants.{Node, Ms}
use Rattle.ddt_path.specs.Covers.{is_same_path}
use Rattle.ddt_path.specs.laws.Filter.{in_filter}
use Rattle.ddt_path.specs.laws.Member.{IsIn, all_of, holds_at, none_of, fails_at}
use Rattle.ddt_check.specs.Zones.{is_same_role}
use Rattle.ddt_config.specs.declared.authority.Authority.{Authority}
use Rattle.ddt_config.specs.Shaped.{no_two, have_own_prefixes, is_authority_of, is_shaped}
use Rattle.ddt_deploy.specs.declared.rollout.stage.Stage.{Stage}
use Rattle.ddt_deploy.specs.Rollout.Between.{Waits, continues, is_in_force, authorities_in_force, has_zone, authorities_at, are_group_locators}

-- ---- what holds of a list holds of what is kept of it

pub all_filtered : {A : Type 0} (test keep : A → Bool) (xs : List A) → list_all test xs ≡ true → list_all test (filter keep xs) ≡ true
all_filtered test keep xs h = all_of test (filter keep xs) (λ x k. holds_at test xs x h (in_filter keep xs x k).0)

no_two_with : {A : Type 0} (clash : A → A → Bool) (keep : A → Bool) (x : A) (xs : List A) → list_any (clash x) xs ≡ false
    → no_two clash (filter keep xs) ≡ true → (b : Bool) → no_two clash (cond b (x ∷ filter keep xs) (filter keep xs)) ≡ true
no_two_with clash keep x xs none rest true =
    and_from (not (list_any (clash x) (filter keep xs))) (no_two clash (filter keep xs))
    (not_from_false (list_any (clash x) (filter keep xs))
    (none_of (clash x) (filter keep xs) (λ y k. fails_at (clash x) xs y none (in_filter keep xs y k).0))) rest
no_two_with clash keep x xs none rest false = rest

pub no_two_filtered : {A : Type 0} (clash : A → A → Bool) (keep : A → Bool) (xs : List A) → no_two clash xs ≡ true → no_two clash (filter keep xs) ≡ true
no_two_filtered clash keep [] h = refl
no_two_filtered clash keep (x ∷ xs) h =
    let p = and_parts (not (list_any (clash x) xs)) (no_two clash xs) h in
    no_two_with clash keep x xs (not-true (list_any (clash x) xs) p.0) (no_two_filtered clash keep xs p.1) (keep x)

pub no_two_joined : {A : Type 0} (clash : A → A → Bool) (xs ys : List A) → no_two clash xs ≡ true → no_two clash ys ≡ true
    → ((x : A) → IsIn x xs → list_any (clash x) ys ≡ false) → no_two clash (xs ++ ys) ≡ true
no_two_joined clash [] ys h k apart = k
no_two_joined clash (x ∷ xs) ys h k apart =
    let p = and_parts (not (list_any (clash x) xs)) (no_two clash xs) h in
    and_from (not (list_any (clash x) (xs ++ ys))) (no_two clash (xs ++ ys))
    (not_from_false (list_any (clash x) (xs ++ ys)) (list_any-append (clash x) xs ys
    ∙ rw (not-true (list_any (clash x) xs) p.0, apart x (inl refl)) refl))
    (no_two_joined clash xs ys p.1 k (λ y i. apart y (inr i)))

-- ---- the authorities of a stage

module _ (role : Role) (stage : Stage) (kept : Waits) (earlier later : List Authority) where
  abbrev own : List Authority → Type 0
  own xs = have_own_prefixes (λ (a : Authority). a.prefix) xs ≡ true

  abbrev fit : List Authority → Type 0
  fit xs = list_all (is_authority_of role) xs ≡ true

  abbrev left : Authority → Bool
  left a = not (has_zone (authorities_in_force stage later) a) && continues stage kept a

  pub own_at : own earlier → own later → own (authorities_at stage kept earlier later)
  own_at h k =
      let clash : Authority → Authority → Bool = λ a b. is_same_path a.prefix b.prefix in
      no_two_joined clash (filter left earlier) (authorities_in_force stage later) (no_two_filtered clash left earlier h)
      (no_two_filtered clash (is_in_force stage) later k)
      (λ a i. not-true (has_zone (authorities_in_force stage later) a)
      (and_parts (not (has_zone (authorities_in_force stage later) a)) (continues stage kept a) (in_filter left earlier a i).1).0)

  pub fit_at : fit earlier → fit later → fit (authorities_at stage kept earlier later)
  fit_at h k =
      list_all-append (is_authority_of role) (filter left earlier) (authorities_in_force stage later)
      ∙ and_from (list_all (is_authority_of role) (filter left earlier)) (list_all (is_authority_of role) (authorities_in_force stage later))
      (all_filtered (is_authority_of role) left earlier h) (all_filtered (is_authority_of role) (is_in_force stage) later k)

  pub shaped_at : (locators : List Locator) → are_group_locators locators ≡ true → own earlier → fit earlier → own later → fit later
      → is_shaped role locators (authorities_at stage kept earlier later) ≡ true
  shaped_at locators l h i k j =
      let all = authorities_at stage kept earlier later in
      and_from (are_group_locators locators) (have_own_prefixes (λ (a : Authority). a.prefix) all && list_all (is_authority_of role) all) l
      (and_from (have_own_prefixes (λ (a : Authority). a.prefix) all) (list_all (is_authority_of role) all) (own_at h k) (fit_at i j))

-- ---- the parts of a shape

pub shape_parts : (role : Role) (locators : List Locator) (xs : List Authority) → is_shaped role locators xs ≡ true
    → (are_group_locators locators ≡ true) × (have_own_prefixes (λ (a : Authority). a.prefix) xs ≡ true) × (list_all (is_authority_of role) xs ≡ true)
shape_parts role locators xs h =
    let p = and_parts (are_group_locators locators) (have_own_prefixes (λ (a : Authority). a.prefix) xs && list_all (is_authority_of role) xs) h in
    let q = and_parts (have_own_prefixes (λ (a : Authority). a.prefix) xs) (list_all (is_authority_of role) xs) p.1 in
    (p.0, q.0, q.1)

-- two roles that are the same are one
pub one_role : (a b : Role) → is_same_role a b ≡ true → a ≡ b
one_role Node Node h = refl
one_role Ms Ms h = refl
one_role Node Ms h = absurd (false≢true h)
one_role Ms Node h = absurd (false≢true h)
