-- Pairs of numbers as keys, and the cells of a column.
use Rattle.std.proofs.Common.{◌≡◌, ℕ, ◌+◌, true, false, cond, List, [], ◌∷◌, map, find, get_or, Option, Some, Ordering, Equal, refl, ap, ◌∙◌, arith}
use Rattle.std.specs.Option.{option_map}
use Rattle.std.specs.List.Sorted.{IsSortedByKey}
use Rattle.std.specs.Ordering.{nat_cmp, is_lt, ordering_then}
use Rattle.ddt_check.specs.Order.{IsInOrder}
use Rattle.ddt_path.specs.declared.locator.Locator.{Locator}
use Rattle.ddt_path.specs.Covers.{is_same_path}
use Rattle.ddt_register.specs.declared.group.Group.{Group}
use Rattle.ddt_register.specs.declared.register.Register.{Register}
use Rattle.ddt_register.specs.Rows.{rise}
use Rattle.ddt_register.specs.laws.Rising.{groups_rise}
use Rattle.ddt_register.specs.laws.RowOrder.{Rising, rising_from_rise}
use Rattle.ddt_check.specs.declared.rules.locators.Cell.{Cell}
use Rattle.ddt_check.specs.Columns.{key_list, column_key, locator_key, cell_of, cell_key, first_in}

regroup : (a b c : Ordering)
    → ordering_then (ordering_then a (ordering_then b Equal)) c ≡ ordering_then (ordering_then a b) c
regroup a b c = grind arith

-- sorted by pairs and rows
pub in_order_by_pairs : {A : Type 0} (pair : A → ℕ × ℕ) (row : A → ℕ) (xs : List A)
    → IsSortedByKey {K = (ℕ × ℕ) × ℕ} (λ x. (pair x, row x))
    (λ p q. ordering_then (ordering_then (nat_cmp p.0.0 q.0.0) (nat_cmp p.0.1 q.0.1)) (nat_cmp p.1 q.1)) xs
    → IsInOrder (λ x. key_list (pair x)) row xs
in_order_by_pairs pair row xs sorted = λ k d low lt.
    let a = get_or xs (k + 1) d in
    let b = get_or xs k d in
    ap is_lt (regroup (nat_cmp (pair a).0 (pair b).0) (nat_cmp (pair a).1 (pair b).1) (nat_cmp (row a) (row b))) ∙
    sorted k d low lt

-- ---- the cells of a column

abbrev pub empty : Cell
empty = record { number = 0; family = 0; row = 0 }

abbrev pub cell_row : Cell → ℕ
cell_row x = x.row

abbrev pub group_row : Group → ℕ
group_row g = g.row

cell_rows : (k : ℕ) (gs : List Group) → map cell_row (map (cell_of k) gs) ≡ map group_row gs
cell_rows k [] = refl
cell_rows k (g ∷ gs) = ap (λ (rows : List ℕ). g.row ∷ rows) (cell_rows k gs)

pub cells_up : (r : Register) (k : ℕ) → Rising cell_row (map (cell_of k) r.groups)
cells_up r k = rising_from_rise cell_row (map (cell_of k) r.groups) 0
    (ap (rise 0) (cell_rows k r.groups) ∙ groups_rise r)

-- the row of the first cell that has a locator is that of the first group that has it in the column
pub first_row_in : (r : Register) (k : ℕ) (l : Locator) (found : Option Cell)
    → find (λ (x : Cell). is_same_path (cell_key x) (locator_key l)) (map (cell_of k) r.groups) ≡ found
    → option_map cell_row found ≡ option_map group_row (first_in r k l)
first_row_in r k l found e = rw (← e) (go r.groups)
  where
    go : (gs : List Group) → option_map cell_row (find (λ x. is_same_path (cell_key x) (locator_key l)) (map (cell_of k) gs))
        ≡ option_map group_row (find (λ h. is_same_path (column_key k h) (locator_key l)) gs)
    go [] = refl
    go (g ∷ gs) = elim (is_same_path (column_key k g) (locator_key l)) as (λ b. option_map cell_row (cond b (Some (cell_of k g))
        (find (λ x. is_same_path (cell_key x) (locator_key l)) (map (cell_of k) gs)))
        ≡ option_map group_row (cond b (Some g) (find (λ h. is_same_path (column_key k h) (locator_key l)) gs))) [
          | true ↦ refl
          | false ↦ go gs
        ]
