-- What is told of a row, from what is told of the item in it.
use Rattle.std.proofs.Common.{◌≡◌, ℕ, Bool, true, false, cond, ◌&&◌, ◌||◌, ◌==◌, List, map, find, Option, Some, None, refl, sym, ap, ◌∙◌, length, Bor}
use Rattle.std.specs.Prelude.{nat_lt, is_some, not}
use Rattle.std.specs.Bool.{then_some}
use Rattle.std.specs.List.{list_any}
use Rattle.std.specs.Option.{option_copied, option_map, option_map_or, option_and_then}
use Rattle.std.proofs.lemmas.Bool.{cond-true, cond-false}
use Rattle.ddt_register.specs.declared.zone.Zone.{Zone}
use Rattle.ddt_register.specs.declared.group.Group.{Group}
use Rattle.ddt_register.specs.declared.register.Register.{Register}
use Rattle.ddt_register.specs.Rows.{rise, first_row}
use Rattle.ddt_register.specs.laws.Rising.{zones_rise}
use Rattle.ddt_register.specs.laws.RowOrder.{rising_from_rise}
use Rattle.ddt_check.specs.declared.fault.Rule.{Rule}
use Rattle.ddt_check.specs.declared.fault.Rule.TheVariants as rules
use Rattle.ddt_check.specs.Zones.{is_ms}
use Rattle.ddt_check.specs.Rules.{broken, item_at, zone_at, is_root, is_wrong_root, earlier_zone, is_below_map_server, has_wrong_locators, share}
use Rattle.ddt_path.specs.Locators.{are_distinct, most_locators}
use Rattle.ddt_review.specs.declared.faults.broken.Broken.{Broken}
use Rattle.ddt_review.specs.declared.faults.first_items.RowAndKind.{RowAndKind}
use Rattle.ddt_review.specs.Faults.Broken.{zone_in, earlier_root, earlier_sharer, zone_above}
use Rattle.ddt_review.proofs.FaultsLemmas.AboveLemmas.{below_is_above}
use Rattle.ddt_review.specs.Faults.Told.{fault_if, told, row_of_zone, row_of_group}
use Rattle.ddt_review.proofs.FaultsLemmas.RowLemmas.{kept_before, any_found, some_mapped, first_before, is_before_first, item_found, item_missing, row_found}

-- a fault of equal parts
pub fault_same : (b c : Bool) (m n : ℕ) (rule : Rule) (o p : Option ℕ) → b ≡ c → m ≡ n → o ≡ p
    → fault_if b m rule o ≡ fault_if c n rule p
fault_same b c m n rule o p e f g =
    ap (λ (t : Bool). fault_if t m rule o) e
    ∙ ap (λ (k : ℕ). fault_if c k rule o) f
    ∙ ap (λ (q : Option ℕ). fault_if c n rule q) g

pub row_of_first_zone : (o : Option Zone)
    → option_map (λ (f : RowAndKind). f.row) (option_map row_of_zone o) ≡ option_map (λ (z : Zone). z.row) o
row_of_first_zone None = refl
row_of_first_zone (Some z) = refl

pub row_of_first_group : (o : Option Group)
    → option_map (λ (f : RowAndKind). f.row) (option_map row_of_group o) ≡ option_map (λ (g : Group). g.row) o
row_of_first_group None = refl
row_of_first_group (Some g) = refl

-- ---- an item in a row

module _ {A : Type 0} (row : A → ℕ) (xs : List A) (rises : rise 0 (map row xs) ≡ true) (n : ℕ) (rule : Rule)
    (test : A → Bool) (other : A → Option ℕ) where
  abbrev pub told_at : Option Broken
  told_at = fault_if (item_at row test xs n) n rule (option_and_then other (find (λ y. row y == n) xs))

  pub told_of : (x : A) → find (λ y. row y == n) xs ≡ Some x → fault_if (test x) (row x) rule (other x) ≡ told_at
  told_of x e = fault_same (test x) (item_at row test xs n) (row x) n rule (other x)
      (option_and_then other (find (λ y. row y == n) xs)) (sym (item_found row xs rises n x test e))
      (row_found row xs rises n x e) (sym (ap (option_and_then other) e))

  pub told_of_none : find (λ y. row y == n) xs ≡ None → None ≡ told_at
  told_of_none e = sym (cond-false (item_at row test xs n) _ None (item_missing row xs rises n test e))

no_other : {A : Type 0} (o : Option A) → None ≡ option_and_then (λ (x : A). let none : Option ℕ = None in none) o
no_other None = refl
no_other (Some x) = refl

-- where no rule has another row
module _ {A : Type 0} (row : A → ℕ) (xs : List A) (rises : rise 0 (map row xs) ≡ true) (n : ℕ) (rule : Rule)
    (test : A → Bool) where
  pub told_alone : (x : A) → find (λ y. row y == n) xs ≡ Some x
      → fault_if (test x) (row x) rule None ≡ fault_if (item_at row test xs n) n rule None
  told_alone x e = fault_same (test x) (item_at row test xs n) (row x) n rule None None
      (sym (item_found row xs rises n x test e)) (row_found row xs rises n x e) refl

  pub told_alone_none : find (λ y. row y == n) xs ≡ None → None ≡ fault_if (item_at row test xs n) n rule None
  told_alone_none e = sym (cond-false (item_at row test xs n) _ None (item_missing row xs rises n test e))

-- ---- the root

module _ (r : Register) (n : ℕ) where
  root_before : earlier_root r n ≡ kept_before n (first_row (λ (z : Zone). z.row) is_root r.zones)
  root_before = first_before (λ (z : Zone). z.row) is_root n r.zones
      (rising_from_rise (λ (z : Zone). z.row) r.zones 0 (zones_rise r))

  has_root : list_any is_root r.zones ≡ is_some (first_row (λ (z : Zone). z.row) is_root r.zones)
  has_root = any_found is_root r.zones ∙ sym (some_mapped (λ (z : Zone). z.row) (find is_root r.zones))

  pub no_root_told : None ≡ first_row (λ (z : Zone). z.row) is_root r.zones
      → fault_if (n == 0) n rules.NoRoot None ≡ told r n rules.NoRoot
  no_root_told none = fault_same (n == 0) (broken r rules.NoRoot n) n n rules.NoRoot None (earlier_root r n)
      (sym (cond-false (list_any is_root r.zones) _ _ (has_root ∙ ap is_some (sym none)))) refl
      (ap (kept_before n) none ∙ sym root_before)

  module _ (root : ℕ) (first : Some root ≡ first_row (λ (z : Zone). z.row) is_root r.zones) where
    broken_at : broken r rules.NoRoot n ≡ zone_at r n (is_wrong_root r)
    broken_at = cond-true (list_any is_root r.zones) _ _ (has_root ∙ ap is_some (sym first))

    pub other_root_none : zone_in r n ≡ None → None ≡ told r n rules.NoRoot
    other_root_none e = sym (cond-false (broken r rules.NoRoot n) _ None
        (broken_at ∙ item_missing (λ (z : Zone). z.row) r.zones (zones_rise r) n (is_wrong_root r) e))

    pub other_root_told : (z : Zone) → zone_in r n ≡ Some z → (earlier : Option ℕ)
        → earlier ≡ cond (nat_lt root n) (Some root) None
        → fault_if (is_root z && (is_ms z.kind || is_some earlier)) n rules.NoRoot earlier ≡ told r n rules.NoRoot
    other_root_told z e earlier is =
        let before : earlier ≡ earlier_root r n = is ∙ ap (kept_before n) first ∙ sym root_before in
        let row = row_found (λ (y : Zone). y.row) r.zones (zones_rise r) n z e in
        let some : is_some earlier ≡ earlier_zone r z is_root =
        ap is_some before
        ∙ some_mapped (λ (y : Zone). y.row) (find (λ (y : Zone). nat_lt y.row n && is_root y) r.zones)
        ∙ sym (any_found (λ (y : Zone). nat_lt y.row n && is_root y) r.zones)
        ∙ ap (λ (k : ℕ). list_any (λ (y : Zone). nat_lt y.row k && is_root y) r.zones) (sym row) in
        fault_same (is_root z && (is_ms z.kind || is_some earlier)) (broken r rules.NoRoot n) n n rules.NoRoot earlier
        (earlier_root r n) (ap (λ (b : Bool). is_root z && (is_ms z.kind || b)) some
        ∙ sym (broken_at ∙ item_found (λ (y : Zone). y.row) r.zones (zones_rise r) n z (is_wrong_root r) e)) refl before

-- ---- duplicates

pub told_duplicate : {A : Type 0} (row : A → ℕ) (test : A → Bool) (xs : List A) → rise 0 (map row xs) ≡ true → (n : ℕ)
    (rule : Rule) (first : Option ℕ) → first ≡ first_row row test xs
    → fault_if (option_map_or (λ f. nat_lt f n) first false) n rule first
    ≡ fault_if (list_any (λ y. nat_lt (row y) n && test y) xs) n rule (first_row row test xs)
told_duplicate row test xs rises n rule first e = fault_same (option_map_or (λ f. nat_lt f n) first false)
    (list_any (λ y. nat_lt (row y) n && test y) xs) n n rule first (first_row row test xs)
    (ap (λ (o : Option ℕ). option_map_or (λ f. nat_lt f n) o false) e
    ∙ is_before_first row test n xs (rising_from_rise row xs 0 rises)) refl e

-- ---- a zone above

pub told_above : (r : Register) (z : Zone) (v : Option RowAndKind) → v ≡ option_map row_of_zone (zone_above r z.prefix)
    → fault_if (is_some v) z.row rules.BelowMapServer (option_map (λ (f : RowAndKind). f.row) v)
    ≡ fault_if (is_below_map_server r z) z.row rules.BelowMapServer
    (option_map (λ (y : Zone). y.row) (zone_above r z.prefix))
told_above r z v e = fault_same (is_some v) (is_below_map_server r z) z.row z.row rules.BelowMapServer
    (option_map (λ (f : RowAndKind). f.row) v) (option_map (λ (y : Zone). y.row) (zone_above r z.prefix))
    (ap is_some e ∙ some_mapped row_of_zone (zone_above r z.prefix) ∙ sym (below_is_above r z)) refl
    (ap (option_map (λ (f : RowAndKind). f.row)) e ∙ row_of_first_zone (zone_above r z.prefix))

-- ---- locators

pub told_locators : (r : Register) (g : Group) (a b : Bool) (earlier : Option ℕ)
    → a ≡ (length g.locators == 0 || nat_lt most_locators (length g.locators)) → b ≡ not (are_distinct g.locators)
    → earlier ≡ earlier_sharer r g
    → fault_if (a || (b || is_some earlier)) g.row rules.Locators earlier
    ≡ fault_if (has_wrong_locators r g) g.row rules.Locators (earlier_sharer r g)
told_locators r g a b earlier e f h =
    let some : is_some earlier ≡ list_any (λ (k : Group). nat_lt k.row g.row && share k.locators g.locators) r.groups =
    ap is_some h
    ∙ some_mapped (λ (k : Group). k.row)
    (find (λ (k : Group). nat_lt k.row g.row && share k.locators g.locators) r.groups)
    ∙ sym (any_found (λ (k : Group). nat_lt k.row g.row && share k.locators g.locators) r.groups) in
    fault_same (a || (b || is_some earlier)) (has_wrong_locators r g) g.row g.row rules.Locators earlier
    (earlier_sharer r g) (ap (λ (t : Bool). t || (b || is_some earlier)) e
    ∙ ap (λ (t : Bool). (length g.locators == 0 || nat_lt most_locators (length g.locators))
    || (t || is_some earlier)) f
    ∙ ap (λ (t : Bool). (length g.locators == 0 || nat_lt most_locators (length g.locators))
    || (not (are_distinct g.locators) || t)) some) refl h

pub then_is : {V : Type 0} (b : Bool) (v : V) → then_some b v ≡ cond b (Some v) None
then_is true v = refl
then_is false v = refl

pub none_copied : {V : Type 0} (o : Option (Bor V)) (p : Option V) → option_copied o ≡ p → o ≡ None → p ≡ None
none_copied o p e f = sym e ∙ ap option_copied f
