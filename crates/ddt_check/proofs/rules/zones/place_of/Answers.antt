use Rattle.std.proofs.Common.{rules, ◌≡◌, map, sym, ◌∙◌, arith}
use Rattle.std.proofs.lemmas.List.{get_or_default}
use Rattle.std.proofs.lemmas.List.Sorted.{IsPartitionPoint-from_clause}
use Rattle.ddt_check.specs.Fronts.{name_front}
use Rattle.ddt_check.proofs.NameLemmas.{is_below, parted}
use Rattle.ddt_check.proofs.ColumnLemmas.{group_row}
use Rattle.ddt_check.proofs.EntryKinds.{entry_group}
use Rattle.ddt_check.proofs.EntryLemmas.{point_of_items}
use Rattle.ddt_check.proofs.FrontLemmas.{name_of, place_by_fronts}
use Rattle.ddt_check.proofs.rules.zones.place_of.Goals as goal
use Rattle.ddt_check.proofs.rules.zones.place_of.Goals.{else-at-groups-via-then-at-groups+else-is_before, else-at-groups-via-else-at-groups}

pub returns-then-is_before : goal.returns-then-is_before
returns-then-is_before c =
    let entries = c.args.groups.now in
    let xs = map entry_group entries in
    let name = c.args.sought.now.name in
    let at = c.partition_point.result in
    let test = is_below name_of group_row xs c.requires name in
    point_of_items entry_group test entries at c.partition_point.ensures.bound
    (λ p. IsPartitionPoint-from_clause (λ e. test (entry_group e)) entries at c.partition_point.ensures.partitioned
    p (λ a r q k. search rules)) (parted name_of group_row xs c.requires name)

pub returns : goal.returns
returns c =
    let entries = c.args.groups.now in
    let sought = c.args.sought.now in
    let at = c.lower_fronts-at.result in
    let f : sought.front ≡ name_front sought.name = sought.fronted in
    place_by_fronts entries c.requires sought.name sought.is_name at c.lower_fronts-at.ensures.bound
    (λ k d low. omega (arith, f, c.lower_fronts-at.ensures.parted.0 k d (omega arith) low))
    (λ d inside. elim c.else-at-groups.branch [
      | else-at-groups-via-then-at-groups+else-is_before w ↦
          rw (get_or_default entries at d w.index-groups-at.result inside, ← w.index-groups-at.is)
          (sym w.is_before.ensures ∙ w.if-is_before.false)
      | else-at-groups-via-else-at-groups w ↦ let past = w.if-at-groups.false in absurd (omega arith)
    ])
