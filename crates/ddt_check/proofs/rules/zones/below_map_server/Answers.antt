use Rattle.std.proofs.Common.{◌≡◌, Some, true, false, map, sym, ap, ◌∙◌, refl}
use Rattle.std.specs.Prelude.{◌&&◌}
use Rattle.std.specs.Option.{option_map, option_copied}
use Rattle.std.proofs.lemmas.List.Sorted.{list_any-IsPermutation}
use Rattle.ddt_path.specs.Covers.{is_strictly_below}
use Rattle.ddt_register.specs.declared.zone.Zone.{Zone}
use Rattle.ddt_check.specs.Zones.{is_ms}
use Rattle.ddt_check.specs.Rules.{is_below_map_server}
use Rattle.ddt_check.proofs.EntryKinds.{entry_zone, zone_row}
use Rattle.ddt_check.proofs.EntryLemmas.{item_is, inside_items, past_items}
use Rattle.ddt_check.proofs.LeastLemmas.{passes_at, least_if, least_of_all}
use Rattle.ddt_check.specs.laws.Below.{under_is, top_new, top_kept}
use Rattle.ddt_check.proofs.rules.zones.below_map_server.Goals as goal
use Rattle.ddt_check.proofs.rules.zones.below_map_server.Goals.{then-is_under, else-is_under, then-is_top, else-is_top}

pub loop-entry-preserved : goal.loop-entry-preserved
loop-entry-preserved c =
    let entries = c.args.entries.now in
    let item = entry_zone in
    let zones = map item entries in
    let i = c.loop-entry.entry-index in
    let w = c.entry-item.result.item.now in
    let lt = inside_items item entries i c.loop-entry-test.true in
    let is = item_is item entries i c.entry-item.result w c.loop-entry-test.true c.entry-item.is in
    let top = option_map (λ (z : Zone). z.prefix) (option_copied c.loop-entry.top) in
    let state = c.loop-entry.invariant.top in
    record {
      rows = λ r moved.
          let same : c.is_under.result ≡ is_below_map_server r w =
          c.is_under.ensures ∙ under_is zones c.requires i top w lt is state
          ∙ sym (list_any-IsPermutation (λ (y : Zone). is_ms y.kind && is_strictly_below w.prefix y.prefix) r.zones
          zones moved) in
          let rows = c.loop-entry.invariant.rows r moved in
          elim c.if-is_under.branch [
            | then-is_under v ↦ rw v.least-is (least_if zone_row (is_below_map_server r) zones i w c.loop-entry.least
                (Some v.lower.result) true lt is (sym v.if-is_under.true ∙ same) (ap Some v.lower.ensures) rows)
            | else-is_under v ↦ rw v.least-is (least_if zone_row (is_below_map_server r) zones i w c.loop-entry.least
                c.loop-entry.least false lt is (sym v.if-is_under.false ∙ same) refl rows)
          ];
      top = elim c.if-is_top.branch [
        | then-is_top v ↦ rw v.top-is (top_new zones c.requires i top w lt is state
            (sym c.is_top.ensures ∙ v.if-is_top.true))
        | else-is_top v ↦ rw v.top-is (top_kept zones c.requires i top w lt is state
            (sym c.is_top.ensures ∙ v.if-is_top.false))
      ];
    }

pub returns : goal.returns
returns c = λ r moved.
    let entries = c.args.entries.now in
    let item = entry_zone in
    least_of_all (passes_at zone_row (is_below_map_server r)) r.zones (map item entries) c.loop-entry.entry-index
    c.loop-entry.least moved (past_items item entries _ c.loop-entry-test.false) (c.loop-entry.invariant.rows r moved)
