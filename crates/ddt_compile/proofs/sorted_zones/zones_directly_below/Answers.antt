use Rattle.std.proofs.Common.{rules}
use Rattle.std.proofs.lemmas.List.Sorted.{answers_always}
use Rattle.ddt_register.specs.declared.zone.Zone.{Zone}
use Rattle.ddt_check.specs.Zones.{is_direct_child}
use Rattle.ddt_register.specs.laws.Rising.{zones_rise}
use Rattle.ddt_register.specs.laws.RowOrder.{rows_again}
use Rattle.ddt_compile.proofs.sorted_zones.zones_directly_below.Goals as goal

pub returns : goal.returns
returns c = λ r are.
    rows_again (λ (z : Zone). z.row) r.zones (is_direct_child r c.args.zone.now) c.args.sorted.now _ _ (zones_rise r) are.1 (c.in_ok-found.ensures r are)
    c.sort_unstable_by_key.ensures.permutation
    (c.sort_unstable_by_key.ensures.sorted (λ (z : Zone). z.row) (answers_always _ _ _ (λ f a r g h. search rules)))
