-- The marks of a column: a locator whose mark isn't set is none of the column's.
use Rattle.std.proofs.Common.{◌≡◌, ℕ, ◌<◌, Bool, true, false, List, map, get_or, IsPermutation, None}
use Rattle.std.specs.Option.{option_map}
use Rattle.std.proofs.lemmas.Bool.{both_ways, false_from_ne_true}
use Rattle.ddt_path.specs.declared.locator.Locator.{Locator}
use Rattle.ddt_path.specs.Covers.{is_same_path}
use Rattle.ddt_path.specs.laws.Cover.{same_path}
use Rattle.ddt_path.specs.laws.Member.{placed, found_none}
use Rattle.ddt_register.specs.declared.register.Register.{Register}
use Rattle.ddt_check.specs.declared.rules.locators.Cell.{Cell}
use Rattle.ddt_check.specs.Columns.{locator_pair, locator_key, cell_of, cell_key, slot_of, AreMarked, first_in}
use Rattle.ddt_check.proofs.ColumnLemmas.{group_row, first_row_in}

abbrev pub AreMarkedTo : List Bool → List Cell → ℕ → Type 0
AreMarkedTo marks cells n = (i : ℕ) (d : Cell) → i < n → get_or marks (slot_of (get_or cells i d).number) true ≡ true

-- a locator whose mark isn't set is none of the column's
pub none_in_column : (r : Register) (k : ℕ) (l : Locator) (cells : List Cell) (marks : List Bool)
    → IsPermutation (map (cell_of k) r.groups) cells → AreMarked marks cells
    → get_or marks (slot_of (locator_pair l).1) true ≡ false
    → None ≡ option_map group_row (first_in r k l)
none_in_column r k l cells marks moved marked unset =
    let zs = map (cell_of k) r.groups in
    first_row_in r k l None (found_none (λ (x : Cell). is_same_path (cell_key x) (locator_key l)) zs
    (λ x in_x. false_from_ne_true (is_same_path (cell_key x) (locator_key l)) (λ e.
    let p = placed zs cells moved x in_x x in
    let same : x.number ≡ (locator_pair l).1 = cc (same_path (cell_key x) (locator_key l) e) in
    both_ways (get_or marks (slot_of (locator_pair l).1) true) unset (rw (← p.2, same) at (marked p.0 x p.1)))))
