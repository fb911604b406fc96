-- Items in rows that rise: the one in a row, and the first of those before a row.
use Rattle.std.proofs.Common.{◌≡◌, ℕ, zero, suc, ◌-◌, ◌<◌, ◌≤◌, Bool, true, false, cond, ◌&&◌, ◌||◌, ◌==◌, List, [], ◌∷◌, length, get_or, map, find, Option, Some, None, refl, sym, ap, subst, ◌∙◌, arith, inl, inr, nat_le}
use Rattle.std.specs.Prelude.{nat_lt, is_some, slice_get}
use Rattle.std.specs.List.{list_any, Contains}
use Rattle.std.specs.List.Sorted.{IsPartitionedBy, IsPartitionPoint}
use Rattle.std.specs.Option.{option_map, option_map_or}
use Rattle.std.proofs.lemmas.Bool.{and_parts, cond-true, cond-false, eq-eqb, eqb-true, ne_eqb, lt-ltb, le-ltb, ltb-true, ltb-false, leb-true, cases_lt, both_ways}
use Rattle.std.proofs.lemmas.Option.{get_or_from_slice_get}
use Rattle.ddt_path.specs.laws.Member.{IsIn, in_at, in_get, contained, found_none, iff_same, any_in, in_any, found_in, found_passes, unfound}
use Rattle.ddt_register.specs.Rows.{rise, first_row}
use Rattle.ddt_register.specs.laws.Rising.{rise_parts}
use Rattle.ddt_register.specs.laws.RowOrder.{Rising, rising_from_rise, found_first}
use Rattle.ddt_check.specs.Rules.{item_at}

-- a row where it is before another
abbrev pub kept_before : ℕ → Option ℕ → Option ℕ
kept_before n None = None
kept_before n (Some m) = cond (nat_lt m n) (Some m) None

pub before_some : (n : ℕ) (o : Option ℕ) → is_some (kept_before n o) ≡ option_map_or (λ m. nat_lt m n) o false
before_some n None = refl
before_some n (Some m) = elim (nat_lt m n) as (λ b. is_some (cond b (Some m) None) ≡ b) [ true ↦ refl | false ↦ refl ]

any_case : {A : Type 0} (x : A) (found : Option A) (any b : Bool) → any ≡ is_some found
    → (b || any) ≡ is_some (cond b (Some x) found)
any_case x found any true e = refl
any_case x found any false e = e

pub any_found : {A : Type 0} (test : A → Bool) (xs : List A) → list_any test xs ≡ is_some (find test xs)
any_found test [] = refl
any_found test (x ∷ xs) = any_case x (find test xs) (list_any test xs) (test x) (any_found test xs)

pub some_mapped : {A B : Type 0} (f : A → B) (o : Option A) → is_some (option_map f o) ≡ is_some o
some_mapped f None = refl
some_mapped f (Some x) = refl

-- a row is at most 65,535
pub most_row : {A : Type 0} (row : A → ℕ) (xs : List A) (last : ℕ) (x : A) → rise last (map row xs) ≡ true → IsIn x xs
    → row x ≤ 65535
most_row row [] last x e h = absurd h
most_row row (y ∷ xs) last x e (inl same) =
    let p = and_parts (nat_lt last (row y) && nat_le (row y) 65535) (rise (row y) (map row xs)) e in
    let q : row x ≡ row y = ap row same in
    let le = leb-true (row y) 65535 (and_parts (nat_lt last (row y)) (nat_le (row y) 65535) p.0).1 in
    omega arith
most_row row (y ∷ xs) last x e (inr later) = most_row row xs (row y) x (rise_parts last (row y) (map row xs) e).1 later

-- ---- the first before a row

module _ {A : Type 0} (row : A → ℕ) (test : A → Bool) (n : ℕ) where
  abbrev pub is_earlier : A → Bool
  is_earlier y = nat_lt (row y) n && test y

  skipped : (xs : List A) → ((y : A) → IsIn y xs → n ≤ row y) → find is_earlier xs ≡ None
  skipped xs late = found_none is_earlier xs (λ y k. ap (λ (b : Bool). b && test y) (le-ltb (row y) n (late y k)))

  first_case : (x : A) (xs : List A) → ((y : A) → IsIn y xs → row x < row y)
      → first_row row is_earlier xs ≡ kept_before n (first_row row test xs) → (a b : Bool) → nat_lt (row x) n ≡ a
      → test x ≡ b
      → option_map row (cond (a && b) (Some x) (find is_earlier xs))
      ≡ kept_before n (option_map row (cond b (Some x) (find test xs)))
  first_case x xs up ih true true e t = sym (cond-true (nat_lt (row x) n) (Some (row x)) None e)
  first_case x xs up ih true false e t = ih
  first_case x xs up ih false true e t =
      let le = ltb-false (row x) n e in
      ap (option_map row) (skipped xs (λ y k. let lt = up y k in omega arith))
      ∙ sym (cond-false (nat_lt (row x) n) (Some (row x)) None e)
  first_case x xs up ih false false e t = ih

  pub first_before : (xs : List A) → Rising row xs
      → first_row row is_earlier xs ≡ kept_before n (first_row row test xs)
  first_before [] up = refl
  first_before (x ∷ xs) up = first_case x xs up.0 (first_before xs up.1) (nat_lt (row x) n) (test x) refl refl

  pub is_before_first : (xs : List A) → Rising row xs
      → option_map_or (λ m. nat_lt m n) (first_row row test xs) false ≡ list_any is_earlier xs
  is_before_first xs up =
      sym (before_some n (first_row row test xs))
      ∙ ap is_some (sym (first_before xs up))
      ∙ some_mapped row (find is_earlier xs)
      ∙ sym (any_found is_earlier xs)

-- ---- what stands in a row

module _ {A : Type 0} (row : A → ℕ) (xs : List A) (rises : rise 0 (map row xs) ≡ true) (n : ℕ) where
  in_rows : Rising row xs
  in_rows = rising_from_rise row xs 0 rises

  pub found_here : (x : A) → IsIn x xs → (row x == n) ≡ true → find (λ y. row y == n) xs ≡ Some x
  found_here x k e =
      let same = eqb-true (row x) n e in
      found_first row (λ y. row y == n) xs x in_rows k e (λ y j lt. ne_eqb (row y) n (λ q. absurd (omega arith)))

  pub item_found : (x : A) (test : A → Bool) → find (λ y. row y == n) xs ≡ Some x → item_at row test xs n ≡ test x
  item_found x test e =
      let k = found_in (λ y. row y == n) xs x e in
      let here = found_passes (λ y. row y == n) xs x e in
      iff_same (item_at row test xs n) (test x) (λ t.
      let f = any_in (λ y. row y == n && test y) xs t in
      let p = and_parts (row f.0 == n) (test f.0) f.2 in
      let q : Some f.0 ≡ Some x = sym (found_here f.0 f.1 p.0) ∙ e in
      let same : f.0 ≡ x = cc in
      ap test (sym same) ∙ p.1) (λ t. in_any (λ y. row y == n && test y) xs x k
      (ap (λ (b : Bool). b && test x) here ∙ t))

  pub item_missing : (test : A → Bool) → find (λ y. row y == n) xs ≡ None → item_at row test xs n ≡ false
  item_missing test e =
      any_found (λ y. row y == n && test y) xs
      ∙ ap is_some (found_none (λ y. row y == n && test y) xs (λ y k.
      ap (λ (b : Bool). b && test y) (unfound (λ z. row z == n) xs y e k)))

  pub row_found : (x : A) → find (λ y. row y == n) xs ≡ Some x → row x ≡ n
  row_found x e = eqb-true (row x) n (found_passes (λ y. row y == n) xs x e)

-- ---- found by halving

same_default : {A : Type 0} (ys : List A) (i : ℕ) (d e : A) → i < length ys → get_or ys i d ≡ get_or ys i e
same_default [] i d e lt = absurd (omega arith)
same_default (y ∷ ys) zero d e lt = refl
same_default (y ∷ ys) (suc i) d e lt = same_default ys i d e (omega arith)

rising_places : {A : Type 0} (row : A → ℕ) (xs : List A) → Rising row xs → (i j : ℕ) (d : A) → i < j → j < length xs
    → row (get_or xs i d) < row (get_or xs j d)
rising_places row [] up i j d below inside = absurd (omega arith)
rising_places row (x ∷ xs) up i zero d below inside = absurd (omega arith)
rising_places row (x ∷ xs) up zero (suc j) d below inside = up.0 (get_or xs j d) (in_at xs j (get_or xs j d)
    (omega arith) (same_default xs j d (get_or xs j d) (omega arith)))
rising_places row (x ∷ xs) up (suc i) (suc j) d below inside = rising_places row xs up.1 i j d (omega arith)
    (omega arith)

-- the last item stands in the highest row
pub last_is_highest : {A : Type 0} (row : A → ℕ) (xs : List A) → rise 0 (map row xs) ≡ true → (w : A)
    → slice_get xs (length xs - 1) ≡ Some w → (x : A) → Contains xs x → row x ≤ row w
last_is_highest row xs rises w last x (i, lt, at) =
    let end : get_or xs (length xs - 1) x ≡ w = get_or_from_slice_get xs (length xs - 1) w x last in
    let high : row (get_or xs (length xs - 1) x) ≡ row w = ap row end in
    let here : row (get_or xs i x) ≡ row x = ap row at in
    elim (cases_lt i (length xs - 1)) [
      | inl below ↦
          let up = rising_places row xs (rising_from_rise row xs 0 rises) i (length xs - 1) x below (omega arith) in
          omega arith
      | inr ge ↦
          let same : i ≡ length xs - 1 = omega arith in
          let one : row (get_or xs i x) ≡ row (get_or xs (length xs - 1) x) =
          ap (λ (k : ℕ). row (get_or xs k x)) same in
          omega arith
    ]

pub last_row_bound : {A : Type 0} (row : A → ℕ) (xs : List A) → rise 0 (map row xs) ≡ true → (w : A)
    → slice_get xs (length xs - 1) ≡ Some w → row w ≤ 65535
last_row_bound row xs rises w last = most_row row xs 0 w rises (in_get xs (length xs - 1) w last)

module _ {A : Type 0} (row : A → ℕ) (xs : List A) (rises : rise 0 (map row xs) ≡ true) (n : ℕ) where
  abbrev pub is_low : A → Bool
  is_low x = nat_lt (row x) n

  up_places : (i j : ℕ) (d : A) → i < j → j < length xs → row (get_or xs i d) < row (get_or xs j d)
  up_places = rising_places row xs (rising_from_rise row xs 0 rises)

  pub low_parted : IsPartitionedBy is_low xs
  low_parted i j d le inside low = elim (cases_lt i j) [
    | inl lt ↦
        let up = up_places i j d lt inside in
        let high = ltb-true (row (get_or xs j d)) n low in
        lt-ltb (row (get_or xs i d)) n (omega arith)
    | inr ge ↦
        let same : j ≡ i = omega arith in
        subst (λ (k : ℕ). is_low (get_or xs k d) ≡ true) same low
  ]

  module _ (at : ℕ) (point : IsPartitionPoint (λ y. is_low y ≡ true) (λ y. is_low y ≡ false) xs at) where
    pub none_past : length xs ≤ at → find (λ y. row y == n) xs ≡ None
    none_past past = found_none (λ y. row y == n) xs (λ y k.
        let c = contained xs y k in
        let low = point.0 c.0 y (omega arith) (omega (arith, c.1)) in
        let lt : row y < n = ltb-true (row y) n (ap is_low (sym c.2) ∙ low) in
        ne_eqb (row y) n (λ q. absurd (omega arith)))

    module _ (w : A) (inside : at < length xs) (is : w ≡ get_or xs at w) (apart : (row w == n) ≡ false) where
      high : n ≤ row w
      high = ltb-false (row w) n (ap is_low is ∙ point.1 at w (omega arith) inside)

      ahead : (y : A) (i : ℕ) → i < length xs → get_or xs i y ≡ y → at ≤ i → row y ≡ n → ⊥
      ahead y i lt at_i ge q = elim (cases_lt at i) [
        | inl past ↦
            let up = up_places at i y past lt in
            let here : row w ≡ row (get_or xs at y) = ap row (is ∙ same_default xs at w y inside) in
            let there : row (get_or xs i y) ≡ row y = ap row at_i in
            let floor : n ≤ row w = high in
            omega arith
        | inr le ↦
            let same : i ≡ at = omega arith in
            let one : row y ≡ row w =
            ap row (sym at_i ∙ ap (λ (k : ℕ). get_or xs k y) same ∙ sym (is ∙ same_default xs at w y inside)) in
            both_ways (row w == n) apart (eq-eqb (row w) n (omega arith))
      ]

      other : (y : A) (i : ℕ) → i < length xs → get_or xs i y ≡ y → (row y == n) ≡ false
      other y i lt at_i = elim (cases_lt i at) [
        | inl low ↦
            let below : row y < n = ltb-true (row y) n (ap is_low (sym at_i) ∙ point.0 i y (omega arith) low) in
            ne_eqb (row y) n (λ q. absurd (omega arith))
        | inr ge ↦ ne_eqb (row y) n (λ q. ahead y i lt at_i ge q)
      ]

      pub none_at : find (λ y. row y == n) xs ≡ None
      none_at = found_none (λ y. row y == n) xs (λ y k. let c = contained xs y k in other y c.0 c.1 c.2)
