use Rattle.std.proofs.Common.{◌≡◌, ℕ, List, map, Some, sym, ap, subst, ◌∙◌, true, false, arith}
use Rattle.std.specs.List.Sorted.{IsPartitionPoint}
use Rattle.std.specs.Ordering.{nat_cmp, is_lt}
use Rattle.std.specs.Cmp.Lexicographic.{slice_cmp}
use Rattle.ddt_register.specs.declared.group.Group.{Group}
use Rattle.ddt_path.specs.Covers.{is_same_path}
use Rattle.ddt_register.specs.laws.RowOrder.{groups_up}
use Rattle.ddt_check.proofs.NameLemmas.{found_key, no_key}
use Rattle.ddt_check.proofs.ColumnLemmas.{group_row}
use Rattle.ddt_check.proofs.EntryKinds.{entry_group}
use Rattle.ddt_check.proofs.EntryLemmas.{inside_items, past_items}
use Rattle.std.proofs.lemmas.List.{get_or-map}
use Rattle.ddt_check.proofs.rules.zones.group_named.Goals as goal
use Rattle.ddt_check.proofs.rules.zones.group_named.Goals.{then-at-groups+else-eq, else-at-groups}

abbrev key : Group → List ℕ
key g = g.name

-- the place of a name among groups
abbrev IsPlaceOf : List Group → ℕ → List ℕ → Type 0
IsPlaceOf xs at name = IsPartitionPoint (λ (g : Group). is_lt (slice_cmp nat_cmp g.name name) ≡ true)
    (λ (g : Group). is_lt (slice_cmp nat_cmp g.name name) ≡ false) xs at

place_of_name : (xs : List Group) (at : ℕ) (n m : List ℕ) → n ≡ m → IsPlaceOf xs at n → IsPlaceOf xs at m
place_of_name xs at n m same place = subst (IsPlaceOf xs at) same place

pub returns-then-eq : goal.returns-then-eq
returns-then-eq c = λ r moved.
    let entries = c.args.groups.now in
    let xs = map entry_group entries in
    let at = c.place_of-at.result in
    let name = c.args.name in
    let point = place_of_name xs at c.of-sought.result.name name c.of-sought.ensures c.place_of-at.ensures in
    let g = c.index-groups-at.result in
    let d = entry_group g in
    let same = get_or-map entry_group entries at g d c.if-at-groups.true in
    let e = ap (λ (x : Group). is_same_path x.name name) same ∙ sym c.eq.ensures ∙ c.if-eq.true in
    ap Some (sym same) ∙ sym (found_key key group_row xs c.requires name r.groups (groups_up r) moved at point d
    (inside_items entry_group entries at c.if-at-groups.true) e)

pub returns : goal.returns
returns c = λ r moved.
    let entries = c.args.groups.now in
    let xs = map entry_group entries in
    let at = c.place_of-at.result in
    let name = c.args.name in
    let point = place_of_name xs at c.of-sought.result.name name c.of-sought.ensures c.place_of-at.ensures in
    sym (no_key key group_row xs c.requires name r.groups (groups_up r) moved at point (λ d lt.
    elim c.if-at-groups.branch [
      | then-at-groups+else-eq w ↦ ap (λ (x : Group). is_same_path x.name name)
          (get_or-map entry_group entries at w.index-groups-at.result d w.if-at-groups.true)
          ∙ sym w.eq.ensures ∙ w.if-eq.false
      | else-at-groups w ↦ absurd (omega (arith, past_items entry_group entries at w.if-at-groups.false))
    ]))
