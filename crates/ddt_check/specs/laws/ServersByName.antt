-- The locators by the names of the groups, as a loop over the groups puts in those of each new name.
use Rattle.std.proofs.Common.{◌≡◌, ℕ, ◌+◌, ◌<◌, Bool, true, false, cond, List, [], length, take, get_or, find, Option, Some, None, refl, sym, ap, subst, ◌∙◌, inl, inr}
use Rattle.std.specs.Prelude.{is_some, unwrap_or}
use Rattle.std.specs.Option.{option_map, option_map_or}
use Rattle.std.specs.Ordering.{nat_cmp}
use Rattle.std.specs.Cmp.Lexicographic.{slice_cmp, texts_ties}
use Rattle.std.specs.BTreeMap.{BTreeMap, get, Updates}
use Rattle.std.proofs.lemmas.Bool.{cond-true, cond-false, true≢false}
use Rattle.ddt_path.specs.declared.locator.Locator.{Locator}
use Rattle.ddt_register.specs.declared.group.Group.{Group}
use Rattle.ddt_register.specs.declared.register.Register.{Register}
use Rattle.ddt_path.specs.Names.{is_same_name}
use Rattle.ddt_check.specs.Zones.{group_named, locators_of}
use Rattle.ddt_path.specs.laws.Member.{found_now, found_before}
use Rattle.ddt_path.specs.laws.Cover.{same_path}

abbrev named : List ℕ → Group → Bool
named name g = is_same_name g.name name

abbrev servers : Option Group → Option (List Locator)
servers found = option_map (λ (g : Group). g.locators) found

module _ (groups : List Group) (i : ℕ) (g : Group) (lt : i < length groups) (is : g ≡ get_or groups i g) (old new : BTreeMap (List ℕ) (List Locator))
    (before : (name : List ℕ) → get (slice_cmp nat_cmp) old name ≡ servers (find (named name) (take i groups))) where
  none_found : (found : Option Group) → is_some (servers found) ≡ false → found ≡ None
  none_found None e = refl
  none_found (Some h) e = absurd (true≢false e)

  some_found : (found : Option Group) → is_some (servers found) ≡ true → is_some found ≡ true
  some_found None e = e
  some_found (Some h) e = refl

  other_name : (name : List ℕ) → named name g ≡ false → get (slice_cmp nat_cmp) old name ≡ servers (find (named name) (take (i + 1) groups))
  other_name name e = before name ∙ ap servers (sym (found_before (named name) groups i g lt is (find (named name) (take i groups)) refl (inl e)))

  -- a name that was put in
  pub name_put : (set : List Locator) → set ≡ g.locators → is_some (get (slice_cmp nat_cmp) old g.name) ≡ false → Updates (slice_cmp nat_cmp) old new g.name (Some set)
      → (name : List ℕ) → get (slice_cmp nat_cmp) new name ≡ servers (find (named name) (take (i + 1) groups))
  name_put set made absent updates name = updates.0 name ∙ ap (λ (b : Bool). cond b (Some set) (get (slice_cmp nat_cmp) old name)) (sym (texts_ties g.name name)) ∙ by_name (named name g) refl
    where
      by_name : (b : Bool) → named name g ≡ b → cond (named name g) (Some set) (get (slice_cmp nat_cmp) old name) ≡ servers (find (named name) (take (i + 1) groups))
      by_name true e =
          let unknown = subst (λ (n : List ℕ). is_some (get (slice_cmp nat_cmp) old n) ≡ false) (same_path g.name name e) absent in
          let none = none_found (find (named name) (take i groups)) (ap is_some (sym (before name)) ∙ unknown) in
          cond-true (named name g) (Some set) _ e ∙ ap (λ (ls : List Locator). Some ls) made ∙ ap servers (sym (found_now (named name) groups i g lt is none e))
      by_name false e = cond-false (named name g) (Some set) _ e ∙ other_name name e

  -- a name that was there
  pub name_kept : is_some (get (slice_cmp nat_cmp) old g.name) ≡ true → (name : List ℕ) → get (slice_cmp nat_cmp) old name ≡ servers (find (named name) (take (i + 1) groups))
  name_kept present name = by_name (named name g) refl
    where
      by_name : (b : Bool) → named name g ≡ b → get (slice_cmp nat_cmp) old name ≡ servers (find (named name) (take (i + 1) groups))
      by_name true e =
          let known = subst (λ (n : List ℕ). is_some (get (slice_cmp nat_cmp) old n) ≡ true) (same_path g.name name e) present in
          let some = some_found (find (named name) (take i groups)) (ap is_some (sym (before name)) ∙ known) in
          before name ∙ ap servers (sym (found_before (named name) groups i g lt is (find (named name) (take i groups)) refl (inr some)))
      by_name false e = other_name name e

-- the locators of a name, from the set at it
pub servers_or_none : (r : Register) (name : List ℕ) (set : Option (List Locator)) → set ≡ servers (group_named r name) → unwrap_or set [] ≡ locators_of r name
servers_or_none r name set e = ap (λ (s : Option (List Locator)). unwrap_or s []) e ∙ by_group (group_named r name)
  where
    by_group : (found : Option Group) → unwrap_or (servers found) [] ≡ option_map_or (λ (g : Group). g.locators) found []
    by_group None = refl
    by_group (Some g) = refl
