-- The locators of groups by columns, as pairs of numbers that can be sorted, and the rows of groups that share one.
use Rattle.std.specs.Prelude.{ℕ, ◌+◌, ◌/◌, ◌%◌, ◌^◌, ◌<◌, ◌≡◌, slice_index_or, Bool, true, false, ◌==◌, ◌&&◌, ◌||◌, not, nat_lt, List, [], ◌∷◌, length, drop, find, slice_get, max, Option, None, Some}
use Rattle.std.specs.List.{list_any}
use Rattle.std.specs.Option.{option_map_or}
use Rattle.ddt_path.specs.declared.locator.Locator.{Locator}
use Rattle.ddt_path.specs.declared.locator.Locator.TheVariants.{V4, V6}
use Rattle.ddt_path.specs.Covers.{is_same_path}
use Rattle.ddt_path.specs.Locators.{are_distinct, most_locators}
use Rattle.ddt_register.specs.declared.group.Group.{Group}
use Rattle.ddt_register.specs.declared.register.Register.{Register}
use Rattle.ddt_check.specs.declared.rules.locators.Cell.{Cell}

-- a locator as its family and its number
abbrev pub locator_pair : Locator → ℕ × ℕ
locator_pair (V4 a) = (4, a)
locator_pair (V6 a) = (6, a)

-- The pair of a locator, and (0, 0) for none: no locator has that pair, since a family is 4 or 6.
abbrev pub pair_or_none : Option Locator → ℕ × ℕ
pair_or_none None = (0, 0)
pair_or_none (Some l) = locator_pair l

-- a group's locator in a column; the pair of zeros where it has none
abbrev pub column_pair : ℕ → Group → ℕ × ℕ
column_pair column g = pair_or_none (slice_get g.locators column)

-- A pair as a key of two numbers: keys compare by the family first, so IPv4 before IPv6, then by the address.
abbrev pub key_list : ℕ × ℕ → List ℕ
key_list p = p.0 ∷ p.1 ∷ []

-- What a group is found by in a column: the family and the number of its locator there, zeros where it has none.
abbrev pub column_key : ℕ → Group → List ℕ
column_key column g = key_list (column_pair column g)

-- The key of a locator that is looked for in a column: its family, 4 or 6, then the number of its address.
abbrev pub locator_key : Locator → List ℕ
locator_key l = key_list (locator_pair l)

-- what is kept of a group in a column, and its key
abbrev pub cell_of : ℕ → Group → Cell
cell_of column g = record {
  number = (column_pair column g).1;
  family = (column_pair column g).0;
  row = g.row;
}

-- The family and the number that a cell keeps: zeros where its group has no locator in the column.
abbrev pub cell_pair : Cell → ℕ × ℕ
cell_pair c = (c.family, c.number)

-- What the cells of a column are sorted by, ahead of their rows: the family, then the number.
abbrev pub cell_key : Cell → List ℕ
cell_key c = key_list (cell_pair c)

-- the place of the mark of a locator, by its number
abbrev pub slot_of : ℕ → ℕ
slot_of number = number % 262144 + number / 2 ^ 64 % 262144

-- the mark of each cell is set, where there is one
abbrev pub AreMarked : List Bool → List Cell → Type 0
AreMarked marks cells = (i : ℕ) (d : Cell) → i < length cells
    → slice_index_or marks (slot_of (slice_index_or cells i d).number) true ≡ true

-- the first group row that has the locator in the column
abbrev pub first_in : Register → ℕ → Locator → Option Group
first_in r column l = find (λ h. is_same_path (column_key column h) (locator_key l)) r.groups

-- whether a row is the later one of two groups in different rows
abbrev pub is_later_row : ℕ → ℕ → ℕ → Bool
is_later_row row other n = not (row == other) && max row other == n

-- whether another group has the locator in the column, and a row is the later one of the first such group and this one
abbrev pub meets_at : Register → ℕ → Group → Locator → ℕ → Bool
meets_at r column g l n = option_map_or (λ h. is_later_row h.row g.row n) (first_in r column l) false

-- the same of any of a group's locators from the column on
abbrev pub meets_in : Register → ℕ → Group → ℕ → Bool
meets_in r column g n = list_any (λ l. meets_at r column g l n) (drop column g.locators)

-- the same of any group
abbrev pub is_met : Register → ℕ → ℕ → Bool
is_met r column n = list_any (λ g. meets_in r column g n) r.groups

-- a group whose locators are none, or above 8, or repeat within it
abbrev pub is_wrong_alone : Group → Bool
is_wrong_alone g = (length g.locators == 0 || nat_lt most_locators (length g.locators)) || not (are_distinct g.locators)
