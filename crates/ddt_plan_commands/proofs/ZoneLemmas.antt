-- The servers of zones by their prefixes, as a loop over the zones puts in those of each new prefix.
use Rattle.std.proofs.Common.{◌≡◌, ◌∙◌, ℕ, ◌+◌, ◌<◌, Bool, true, false, cond, List, length, take, get_or, find, Option, Some, None, refl, sym, ap, subst, inl, inr}
use Rattle.std.specs.Prelude.{is_some}
use Rattle.std.specs.Option.{option_map}
use Rattle.std.specs.Ordering.{nat_cmp}
use Rattle.std.specs.Cmp.Lexicographic.{slice_cmp, texts_ties}
use Rattle.std.specs.BTreeMap.{BTreeMap, get, Updates}
use Rattle.std.proofs.lemmas.Bool.{cond-true, cond-false, true≢false}
use Rattle.ddt_path.specs.declared.locator.Locator.{Locator}
use Rattle.ddt_register.specs.declared.zone.Zone.{Zone}
use Rattle.ddt_register.specs.declared.register.Register.{Register}
use Rattle.ddt_path.specs.Covers.{is_same_path}
use Rattle.ddt_path.specs.laws.Cover.{same_path}
use Rattle.ddt_path.specs.laws.Member.{found_now, found_before}
use Rattle.ddt_check.specs.Zones.{locators_of}

abbrev at : List ℕ → Zone → Bool
at p z = is_same_path z.prefix p

module _ (r : Register) where
  abbrev servers : Option Zone → Option (List Locator)
  servers found = option_map (λ (z : Zone). locators_of r z.group) found

  none_found : (found : Option Zone) → is_some (servers found) ≡ false → found ≡ None
  none_found None e = refl
  none_found (Some z) e = absurd (true≢false e)

  some_found : (found : Option Zone) → is_some (servers found) ≡ true → is_some found ≡ true
  some_found None e = e
  some_found (Some z) e = refl

  module _ (zones : List Zone) (i : ℕ) (z : Zone) (lt : i < length zones) (is : z ≡ get_or zones i z) (old new : BTreeMap (List ℕ) (List Locator))
      (before : (p : List ℕ) → get (slice_cmp nat_cmp) old p ≡ servers (find (at p) (take i zones))) where
    other : (p : List ℕ) → at p z ≡ false → get (slice_cmp nat_cmp) old p ≡ servers (find (at p) (take (i + 1) zones))
    other p e = before p ∙ ap servers (sym (found_before (at p) zones i z lt is (find (at p) (take i zones)) refl (inl e)))

    put_by : (set : List Locator) → set ≡ locators_of r z.group → is_some (get (slice_cmp nat_cmp) old z.prefix) ≡ false → (p : List ℕ) (b : Bool) → at p z ≡ b
        → cond (at p z) (Some set) (get (slice_cmp nat_cmp) old p) ≡ servers (find (at p) (take (i + 1) zones))
    put_by set made absent p true e =
        let unknown = subst (λ (q : List ℕ). is_some (get (slice_cmp nat_cmp) old q) ≡ false) (same_path z.prefix p e) absent in
        let none = none_found (find (at p) (take i zones)) (ap is_some (sym (before p)) ∙ unknown) in
        cond-true (at p z) (Some set) _ e ∙ ap (λ (ls : List Locator). Some ls) made ∙ ap servers (sym (found_now (at p) zones i z lt is none e))
    put_by set made absent p false e = cond-false (at p z) (Some set) _ e ∙ other p e

    -- a prefix that was put in
    pub zone_put : (set : List Locator) → set ≡ locators_of r z.group → is_some (get (slice_cmp nat_cmp) old z.prefix) ≡ false
        → Updates (slice_cmp nat_cmp) old new z.prefix (Some set) → (p : List ℕ) → get (slice_cmp nat_cmp) new p ≡ servers (find (at p) (take (i + 1) zones))
    zone_put set made absent updates p =
        updates.0 p ∙ ap (λ (b : Bool). cond b (Some set) (get (slice_cmp nat_cmp) old p)) (sym (texts_ties z.prefix p)) ∙ put_by set made absent p (at p z) refl

    kept_by : is_some (get (slice_cmp nat_cmp) old z.prefix) ≡ true → (p : List ℕ) (b : Bool) → at p z ≡ b
        → get (slice_cmp nat_cmp) old p ≡ servers (find (at p) (take (i + 1) zones))
    kept_by present p true e =
        let known = subst (λ (q : List ℕ). is_some (get (slice_cmp nat_cmp) old q) ≡ true) (same_path z.prefix p e) present in
        let some = some_found (find (at p) (take i zones)) (ap is_some (sym (before p)) ∙ known) in
        before p ∙ ap servers (sym (found_before (at p) zones i z lt is (find (at p) (take i zones)) refl (inr some)))
    kept_by present p false e = other p e

    -- a prefix that was there
    pub zone_kept : is_some (get (slice_cmp nat_cmp) old z.prefix) ≡ true → (p : List ℕ) → get (slice_cmp nat_cmp) old p ≡ servers (find (at p) (take (i + 1) zones))
    zone_kept present p = kept_by present p (at p z) refl
