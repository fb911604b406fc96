-- Sorted entries of groups: their numbers rise, so that the place of a name is found by them.
use Rattle.std.proofs.Common.{◌≡◌, ℕ, ◌+◌, ◌-◌, ◌/◌, ◌<◌, ◌≤◌, Bool, true, false, cond, List, length, map, get_or, inl, inr, refl, subst, arith}
use Rattle.std.specs.Prelude.{nat_lt}
use Rattle.std.specs.List.Sorted.{IsPartitionPoint}
use Rattle.std.specs.Ordering.{nat_cmp, is_lt}
use Rattle.std.specs.Cmp.Lexicographic.{slice_cmp}
use Rattle.std.proofs.lemmas.Bool.{both_ways, false_from_ne_true, cases_lt, and_parts, ltb-true, ltb-false}
use Rattle.std.proofs.lemmas.List.{get_or-map, get_or_default, length-map}
use Rattle.ddt_path.specs.Names.{is_name}
use Rattle.ddt_register.specs.Ranges.{are_locators}
use Rattle.ddt_register.specs.declared.group.Group.{Group}
use Rattle.ddt_register.specs.contracts.item.GroupItem.TheImpl as group_item
use Rattle.ddt_check.specs.declared.entries.SortEntry.{SortEntry}
use Rattle.ddt_check.specs.contracts.keyed.GroupKeyed.TheImpl as group_keyed
use Rattle.ddt_check.specs.Order.{AreGroupsInOrder}
use Rattle.ddt_check.specs.Fronts.{name_front}
use Rattle.ddt_check.specs.laws.Fronts.{names_by_front, groups_by_front}
use Rattle.ddt_check.specs.laws.Order.{far}
use Rattle.ddt_check.proofs.NameLemmas.{parted}
use Rattle.ddt_check.proofs.ColumnLemmas.{group_row}
use Rattle.ddt_check.proofs.EntryKinds.{entry_group}
use Rattle.ddt_check.proofs.EntryLemmas.{item_there, inside_items}

abbrev pub GroupEntry : Type 0
GroupEntry = SortEntry Group group_keyed.ghosts group_item.ghosts

abbrev pub name_of : Group → List ℕ
name_of g = g.name

-- all before a place have lower numbers than one that is looked for, and all from a later place on have not
pub record AreParted (xs : List GroupEntry) (front base size : ℕ) : Type 0 where
  pub within : base + size ≤ length xs
  pub lower : (k : ℕ) (d : GroupEntry) → k < base → (get_or xs k d).front < front
  pub others : (k : ℕ) (d : GroupEntry) → base + size ≤ k → k < length xs → front ≤ (get_or xs k d).front

module _ (xs : List GroupEntry) (sorted : AreGroupsInOrder (map entry_group xs)) where
  -- of two places the later has no lower number
  fronts_up : (i j : ℕ) (d : GroupEntry) → i ≤ j → j < length xs → (get_or xs i d).front ≤ (get_or xs j d).front
  fronts_up i j d le inside =
      let a = get_or xs i d in
      let b = get_or xs j d in
      let g = entry_group a in
      let h = entry_group b in
      elim (cases_lt b.front a.front) [
        | inr up ↦ up
        | inl down ↦
            let x : a.front ≡ name_front g.name = a.fronted in
            let y : b.front ≡ name_front h.name = b.fronted in
            let lower = groups_by_front h g b.in_range a.in_range (omega (arith, x, y, down)) in
            let up = (far name_of group_row (map entry_group xs) sorted i j g le
            (inside_items entry_group xs j inside)).0 in
            absurd (both_ways (is_lt (slice_cmp nat_cmp h.name g.name))
            (rw (get_or-map entry_group xs i d g (omega arith), get_or-map entry_group xs j d g inside) at up) lower)
      ]

  -- one step: the entry in the middle is lower, or it isn't
  module _ (front base size : ℕ) (so_far : AreParted xs front base size) (some : 0 < size) (d : GroupEntry) where
    parted_above : (get_or xs (base + (size - size / 2) - 1) d).front < front
        → AreParted xs front (base + (size - size / 2)) (size / 2)
    parted_above lt =
        let at = base + (size - size / 2) - 1 in
        let most : base + size ≤ length xs = so_far.within in
        let inside : at < length xs = omega arith in
        record {
          within = omega arith;
          lower = λ k e low.
              let up = fronts_up k at e (omega arith) inside in
              let here : (get_or xs at e).front < front = rw (get_or_default xs at e d inside) lt in
              omega arith;
          others = λ k e high last. so_far.others k e (omega arith) last;
        }

    parted_below : front ≤ (get_or xs (base + (size - size / 2) - 1) d).front → AreParted xs front base (size / 2)
    parted_below le =
        let at = base + (size - size / 2) - 1 in
        let most : base + size ≤ length xs = so_far.within in
        let inside : at < length xs = omega arith in
        record {
          within = omega arith;
          lower = so_far.lower;
          others = λ k e high last.
              let up = fronts_up at k e (omega arith) last in
              let here : front ≤ (get_or xs at e).front = rw (get_or_default xs at e d inside) le in
              omega arith;
        }

    pub parted_step : AreParted xs front
        (base + cond (nat_lt (get_or xs (base + (size - size / 2) - 1) d).front front) (size - size / 2) 0) (size / 2)
    parted_step = go (nat_lt (get_or xs (base + (size - size / 2) - 1) d).front front) refl
      where
        go : (lower : Bool) → nat_lt (get_or xs (base + (size - size / 2) - 1) d).front front ≡ lower
            → AreParted xs front (base + cond lower (size - size / 2) 0) (size / 2)
        go true e = parted_above (ltb-true (get_or xs (base + (size - size / 2) - 1) d).front front e)
        go false e =
            let there : base ≡ base + 0 = omega arith in
            subst (λ (b : ℕ). AreParted xs front b (size / 2)) there
            (parted_below (ltb-false (get_or xs (base + (size - size / 2) - 1) d).front front e))

  -- where those before a place have lower numbers than a name, and the group there doesn't stand before it
  module _ (name : List ℕ) (named : is_name name ≡ true) (at : ℕ) (most : at ≤ length xs) where
    pub place_by_fronts : ((k : ℕ) (d : GroupEntry) → k < at → (get_or xs k d).front < name_front name)
        → ((d : GroupEntry) → at < length xs
        → is_lt (slice_cmp nat_cmp (entry_group (get_or xs at d)).name name) ≡ false)
        → IsPartitionPoint (λ (g : Group). is_lt (slice_cmp nat_cmp g.name name) ≡ true)
        (λ (g : Group). is_lt (slice_cmp nat_cmp g.name name) ≡ false) (map entry_group xs) at
    place_by_fronts lower here = (
      λ k d low lt.
          let x = (item_there xs k (omega arith)).0 in
          let e = get_or xs k x in
          let g = entry_group e in
          let own : is_name g.name ≡ true = (and_parts (is_name g.name) (are_locators g.locators) e.in_range).0 in
          let f : e.front ≡ name_front g.name = e.fronted in
          rw (get_or-map entry_group xs k x d (omega arith))
          (names_by_front g.name name own named (omega (arith, f, lower k x lt))),
      λ k d low last.
          let inside : k < length xs = omega (arith, length-map xs entry_group) in
          let x = (item_there xs at (omega arith)).0 in
          let test = λ (g : Group). is_lt (slice_cmp nat_cmp g.name name) in
          false_from_ne_true (test (get_or (map entry_group xs) k d)) (λ e.
          both_ways (test (get_or (map entry_group xs) at d))
          (rw (get_or-map entry_group xs at x d (omega arith)) (here x (omega arith)))
          (parted name_of group_row (map entry_group xs) sorted name at k d low last e)),
    )
