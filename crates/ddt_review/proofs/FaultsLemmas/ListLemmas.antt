-- The list of all that is told, row by row.
use Rattle.std.proofs.Common.{◌≡◌, ◌⊎◌, ℕ, ◌+◌, ◌<◌, Bool, true, false, cond, ◌&&◌, ◌||◌, ◌==◌, List, [], ◌∷◌, ◌++◌, length, take, get_or, append_assoc, Option, Some, None, Ordering, Less, refl, sym, ap, ap₂, subst, ◌∙◌, arith, inl, inr}
use Rattle.std.specs.Prelude.{nat_lt}
use Rattle.std.specs.List.{list_any, filter_map, cons_option, AllByRecursion}
use Rattle.std.specs.List.Sorted.{IsStrictlySortedBy}
use Rattle.std.specs.Ordering.{nat_cmp, ordering_then}
use Rattle.std.proofs.lemmas.Bool.{cond-true, and_parts, eq-eqb, eqb-true, lt-ltb, le-ltb}
use Rattle.std.proofs.lemmas.Bool.Decides.{nat_tests}
use Rattle.std.proofs.lemmas.Option.{none-some, same_Some}
use Rattle.std.proofs.lemmas.List.{take_more}
use Rattle.std.proofs.lemmas.List.Elements.{filter_map-append}
use Rattle.std.proofs.lemmas.List.Folds.{list_any-append}
use Rattle.ddt_path.specs.laws.FormOrder.{less, equal}
use Rattle.ddt_path.specs.laws.Member.{IsIn, in_contained, iff_same, any_in, in_any}
use Rattle.ddt_register.specs.declared.zone.Zone.{Zone}
use Rattle.ddt_register.specs.declared.site.Site.{Site}
use Rattle.ddt_register.specs.declared.group.Group.{Group}
use Rattle.ddt_register.specs.declared.register.Register.{Register}
use Rattle.ddt_register.specs.laws.RowOrder.{Rising}
use Rattle.ddt_check.specs.declared.fault.Rule.{Rule}
use Rattle.ddt_check.specs.declared.fault.Rule.TheVariants.{NoRoot}
use Rattle.ddt_check.specs.laws.RuleOrder.{same_rule, each_rule, rules_rise}
use Rattle.ddt_check.specs.Rules.{all_rules, broken, rule_number, item_at, zone_at, site_at, group_at, is_root, is_wrong_root}
use Rattle.ddt_review.specs.declared.faults.broken.Broken.{Broken}
use Rattle.ddt_review.specs.Faults.Broken.{other_row, is_told, place_cmp, AreBroken}
use Rattle.ddt_review.specs.Faults.Told.{fault_if, told}

-- what holds of each member, by recursion
each_by_recursion : {A : Type 0} (P : A → Type 0) (xs : List A) → ((x : A) → IsIn x xs → P x) → AllByRecursion P xs
each_by_recursion P [] h = tt
each_by_recursion P (x ∷ xs) h = (h x (inl refl), each_by_recursion P xs (λ y k. h y (inr k)))

by_recursion_each : {A : Type 0} (P : A → Type 0) (xs : List A) → AllByRecursion P xs → (x : A) → IsIn x xs → P x
by_recursion_each P [] h x k = absurd k
by_recursion_each P (y ∷ xs) h x (inl same) = subst P (sym same) h.0
by_recursion_each P (y ∷ xs) h x (inr later) = by_recursion_each P xs h.1 x later

-- ---- what is told of one row

-- what is kept of a list by a function
module _ {A B : Type 0} (f : A → Option B) where
  kept_case : (x : A) (xs : List A) (y : B) (o : Option B) → f x ≡ o
      → (IsIn y (filter_map f xs) → (z : A) × IsIn z xs × (f z ≡ Some y)) → IsIn y (cons_option o (filter_map f xs))
      → (z : A) × IsIn z (x ∷ xs) × (f z ≡ Some y)
  kept_case x xs y None e ih k = let p = ih k in (p.0, inr p.1, p.2)
  kept_case x xs y (Some w) e ih (inl one) = (x, inl refl, e ∙ ap (λ (v : B). Some v) (sym one))
  kept_case x xs y (Some w) e ih (inr later) = let p = ih later in (p.0, inr p.1, p.2)

  from_kept : (xs : List A) (y : B) → IsIn y (filter_map f xs) → (x : A) × IsIn x xs × (f x ≡ Some y)
  from_kept [] y k = absurd k
  from_kept (x ∷ xs) y k = kept_case x xs y (f x) refl (from_kept xs y) k

  kept_later : (o : Option B) (ys : List B) (y : B) → IsIn y ys → IsIn y (cons_option o ys)
  kept_later None ys y k = k
  kept_later (Some w) ys y k = inr k

  is_kept : (xs : List A) (x : A) (y : B) → IsIn x xs → f x ≡ Some y → IsIn y (filter_map f xs)
  is_kept [] x y k e = absurd k
  is_kept (w ∷ xs) x y (inl one) e = subst (λ (o : Option B). IsIn y (cons_option o (filter_map f xs)))
      (sym (ap f (sym one) ∙ e)) (inl refl)
  is_kept (w ∷ xs) x y (inr later) e = kept_later (f w) (filter_map f xs) y (is_kept xs x y later e)

-- a fault that is told is of that row and rule, with its other row, and the rule is broken there
pub record IsFault (r : Register) (row : ℕ) (rule : Rule) (b : Broken) : Type 0 where
  pub at : b.row ≡ row
  pub of : b.rule ≡ rule
  pub other : b.other ≡ other_row r rule row
  pub breaks : broken r rule row ≡ true

fault_case : (row : ℕ) (ρ : Rule) (other : Option ℕ) (b : Broken) (t : Bool) → fault_if t row ρ other ≡ Some b
    → (b.row ≡ row) × (b.rule ≡ ρ) × (b.other ≡ other) × (t ≡ true)
fault_case row ρ other b false e = absurd (none-some b e)
fault_case row ρ other b true e =
    let same : record { row = row; rule = ρ; other = other } ≡ b =
    same_Some (record { row = row; rule = ρ; other = other }) b e in (
      ap (λ (c : Broken). c.row) (sym same),
      ap (λ (c : Broken). c.rule) (sym same),
      ap (λ (c : Broken). c.other) (sym same),
      refl,
    )

module _ (r : Register) (row : ℕ) where
  told_is : (ρ : Rule) (b : Broken) → told r row ρ ≡ Some b → IsFault r row ρ b
  told_is ρ b e =
      let p = fault_case row ρ (other_row r ρ row) b (broken r ρ row) e in
      record { at = p.0; of = p.1; other = p.2; breaks = p.3 }

  abbrev pub told_in : List Rule → List Broken
  told_in ρs = filter_map (told r row) ρs

  -- a rule is told of the row if and only if it is broken there
  told_exact : (ρ : Rule) (n : ℕ) → is_told (told_in all_rules) ρ n ≡ (row == n && broken r ρ n)
  told_exact ρ n = iff_same (is_told (told_in all_rules) ρ n) (row == n && broken r ρ n) (λ t.
      let b = any_in (λ (b : Broken). b.row == n && rule_number b.rule == rule_number ρ) (told_in all_rules) t in
      let p = and_parts (b.0.row == n) (rule_number b.0.rule == rule_number ρ) b.2 in
      let k = from_kept (told r row) all_rules b.0 b.1 in
      let f = told_is k.0 b.0 k.2 in
      let here : row ≡ n = sym f.at ∙ eqb-true b.0.row n p.0 in
      let same : k.0 ≡ ρ = sym f.of ∙ same_rule b.0.rule ρ (eqb-true (rule_number b.0.rule) (rule_number ρ) p.1) in
      let breaks : broken r ρ n ≡ true =
      ap₂ (broken r) (sym same) (sym here) ∙ f.breaks in
      ap (λ (c : Bool). c && broken r ρ n) (eq-eqb row n here) ∙ breaks) (λ t.
      let p = and_parts (row == n) (broken r ρ n) t in
      let here : row ≡ n = eqb-true row n p.0 in
      let breaks : broken r ρ row ≡ true = ap (broken r ρ) here ∙ p.1 in
      let b : Broken = record { row = row; rule = ρ; other = other_row r ρ row } in
      in_any (λ (c : Broken). c.row == n && rule_number c.rule == rule_number ρ) (told_in all_rules) b
      (is_kept (told r row) all_rules ρ b (each_rule ρ) (cond-true (broken r ρ row) (Some b) None breaks))
      (ap (λ (c : Bool). c && (rule_number ρ == rule_number ρ)) p.0 ∙ eq-eqb (rule_number ρ) (rule_number ρ) refl))

  -- in the order of the rules
  before : (a b : Broken) → a.row ≡ row → b.row ≡ row → rule_number a.rule < rule_number b.rule → place_cmp a b ≡ Less
  before a b e f lt =
      ap (λ (o : Ordering). ordering_then o (nat_cmp (rule_number a.rule) (rule_number b.rule)))
      (equal a.row b.row (e ∙ sym f)) ∙ less (rule_number a.rule) (rule_number b.rule) lt

  sorted_case : (ρ : Rule) (ρs : List Rule) (o : Option Broken) → told r row ρ ≡ o
      → ((σ : Rule) → IsIn σ ρs → rule_number ρ < rule_number σ) → IsStrictlySortedBy place_cmp (told_in ρs)
      → IsStrictlySortedBy place_cmp (cons_option o (told_in ρs))
  unfolding IsStrictlySortedBy
  sorted_case ρ ρs None e up sorted = sorted
  sorted_case ρ ρs (Some b) e up sorted = (
    each_by_recursion (λ c. place_cmp b c ≡ Less) (told_in ρs) (λ c k.
        let p = from_kept (told r row) ρs c k in
        let f = told_is ρ b e in
        let g = told_is p.0 c p.2 in
        let m : rule_number b.rule ≡ rule_number ρ = ap rule_number f.of in
        let n : rule_number c.rule ≡ rule_number p.0 = ap rule_number g.of in
        let lt = up p.0 p.1 in
        before b c f.at g.at (omega arith)),
    sorted,
  )

  told_sorted : (ρs : List Rule) → Rising rule_number ρs → IsStrictlySortedBy place_cmp (told_in ρs)
  unfolding IsStrictlySortedBy
  told_sorted [] up = tt
  told_sorted (ρ ∷ ρs) up = sorted_case ρ ρs (told r row ρ) refl up.0 (told_sorted ρs up.1)

  -- one more rule
  pub told_push : (k : ℕ) (d : Rule) (first old new : List Broken) (fault : Option Broken) → k < length all_rules
      → fault ≡ told r row (get_or all_rules k d) → old ≡ first ++ told_in (take k all_rules)
      → new ≡ old ++ cons_option fault []
      → new ≡ first ++ told_in (take (k + 1) all_rules)
  told_push k d first old new fault lt is before step =
      step
      ∙ ap₂ (λ (xs : List Broken) (o : Option Broken). xs ++ cons_option o []) before is
      ∙ append_assoc first (told_in (take k all_rules)) (cons_option (told r row (get_or all_rules k d)) [])
      ∙ ap (λ (xs : List Broken). first ++ xs)
      (sym (filter_map-append (told r row) (take k all_rules) (get_or all_rules k d ∷ [])))
      ∙ ap (λ (ρs : List Rule). first ++ told_in ρs) (sym (take_more all_rules k d lt))

-- ---- row by row

in_either : {A : Type 0} (xs ys : List A) (x : A) → IsIn x (xs ++ ys) → IsIn x xs ⊎ IsIn x ys
in_either [] ys x k = inr k
in_either (y ∷ xs) ys x (inl same) = inl (inl same)
in_either (y ∷ xs) ys x (inr later) = elim (in_either xs ys x later) [
  | inl here ↦ inl (inr here)
  | inr there ↦ inr there
]

sorted_append : (xs ys : List Broken) → IsStrictlySortedBy place_cmp xs → IsStrictlySortedBy place_cmp ys
    → ((x y : Broken) → IsIn x xs → IsIn y ys → place_cmp x y ≡ Less) → IsStrictlySortedBy place_cmp (xs ++ ys)
unfolding IsStrictlySortedBy
sorted_append [] ys s t h = t
sorted_append (x ∷ xs) ys s t h = (
  each_by_recursion (λ c. place_cmp x c ≡ Less) (xs ++ ys) (λ c k. elim (in_either xs ys c k) [
    | inl old ↦ by_recursion_each (λ c. place_cmp x c ≡ Less) xs s.0 c old
    | inr new ↦ h x c (inl refl) new
  ]),
  sorted_append xs ys s.1 t (λ a b j k. h a b (inr j) k),
)

-- the list holds what is told of the rows below this one
pub record AreToldBelow (r : Register) (row : ℕ) (list : List Broken) : Type 0 where
  pub exact : (ρ : Rule) (n : ℕ) → is_told list ρ n ≡ (nat_lt n row && broken r ρ n)
  pub ordered : IsStrictlySortedBy place_cmp list
  pub others : (b : Broken) → IsIn b list → (b.row < row) × (b.other ≡ other_row r b.rule b.row)

pub told_first : (r : Register) → AreToldBelow r 0 []
unfolding IsStrictlySortedBy
told_first r = record {
  exact = λ ρ n. ap (λ (b : Bool). b && broken r ρ n) (sym (le-ltb n 0 (omega arith)));
  ordered = tt;
  others = λ b k. absurd k;
}

one_more_row : (n row : ℕ) (b : Bool) → ((nat_lt n row && b) || (row == n && b)) ≡ (nat_lt n (row + 1) && b)
one_more_row n row true = grind (arith, nat_tests)
one_more_row n row false = grind (arith, nat_tests)

pub told_more : (r : Register) (row : ℕ) (list : List Broken) → AreToldBelow r row list
    → AreToldBelow r (row + 1) (list ++ filter_map (told r row) all_rules)
told_more r row list below =
    let new = filter_map (told r row) all_rules in
    record {
      exact = λ ρ n. list_any-append (λ (b : Broken). b.row == n && rule_number b.rule == rule_number ρ) list new
          ∙ ap₂ (λ (x y : Bool). x || y) (below.exact ρ n) (told_exact r row ρ n)
          ∙ one_more_row n row (broken r ρ n);
      ordered = sorted_append list new below.ordered (told_sorted r row all_rules rules_rise) (λ x y j k.
          let low = (below.others x j).0 in
          let p = from_kept (told r row) all_rules y k in
          let at : y.row ≡ row = (told_is r row p.0 y p.2).at in
          ap (λ (o : Ordering). ordering_then o (nat_cmp (rule_number x.rule) (rule_number y.rule)))
          (less x.row y.row (omega arith)));
      others = λ b k. elim (in_either list new b k) [
        | inl old ↦ let o = below.others b old in (let lt = o.0 in omega arith, o.1)
        | inr fresh ↦
            let p = from_kept (told r row) all_rules b fresh in
            let f = told_is r row p.0 b p.2 in
            (let at = f.at in omega arith, f.other ∙ ap₂ (other_row r) (sym f.of) (sym f.at))
      ];
    }

-- ---- no broken rule is behind the last row

low_item : {A : Type 0} (row : A → ℕ) (test : A → Bool) (xs : List A) (end n : ℕ)
    → ((x : A) → IsIn x xs → row x < end) → item_at row test xs n ≡ true → n < end
low_item row test xs end n low t =
    let f = any_in (λ x. row x == n && test x) xs t in
    let p = and_parts (row f.0 == n) (test f.0) f.2 in
    let at : row f.0 ≡ n = eqb-true (row f.0) n p.0 in
    let lt = low f.0 f.1 in
    omega arith

module _ (r : Register) (end : ℕ) (some : 0 < end) (zones : (z : Zone) → IsIn z r.zones → z.row < end)
    (sites : (s : Site) → IsIn s r.sites → s.row < end) (groups : (g : Group) → IsIn g r.groups → g.row < end) where
  zone_low : (test : Zone → Bool) (n : ℕ) → zone_at r n test ≡ true → n < end
  zone_low test n t = low_item (λ (z : Zone). z.row) test r.zones end n zones t

  site_low : (test : Site → Bool) (n : ℕ) → site_at r n test ≡ true → n < end
  site_low test n t = low_item (λ (s : Site). s.row) test r.sites end n sites t

  group_low : (test : Group → Bool) (n : ℕ) → group_at r n test ≡ true → n < end
  group_low test n t = low_item (λ (g : Group). g.row) test r.groups end n groups t

  root_low : (n : ℕ) (any : Bool) → cond any (zone_at r n (is_wrong_root r)) (n == 0) ≡ true → n < end
  root_low n true e = zone_low (is_wrong_root r) n e
  root_low n false e = let zero : n ≡ 0 = eqb-true n 0 e in omega arith

  pub broken_low : (ρ : Rule) (n : ℕ) → broken r ρ n ≡ true → n < end
  broken_low NoRoot n e = root_low n (list_any is_root r.zones) e
  broken_low ρ n e = search (zone_low, site_low, group_low)

low_case : (n end : ℕ) (b : Bool) → (b ≡ true → n < end) → (nat_lt n end && b) ≡ b
low_case n end true h = ap (λ (t : Bool). t && true) (lt-ltb n end (h refl))
low_case n end false h = go (nat_lt n end)
  where
    go : (t : Bool) → (t && false) ≡ false
    go true = refl
    go false = refl

pub told_all : (r : Register) (row : ℕ) (list : List Broken) → ((ρ : Rule) (n : ℕ) → broken r ρ n ≡ true → n < row)
    → AreToldBelow r row list → AreBroken r list
told_all r row list end below = record {
  exact = λ ρ n. below.exact ρ n ∙ low_case n row (broken r ρ n) (end ρ n);
  ordered = below.ordered;
  others = λ b k. (below.others b (in_contained list b k)).1;
}
