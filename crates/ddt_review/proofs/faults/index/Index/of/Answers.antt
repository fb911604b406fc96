use Rattle.std.proofs.Common.{◌≡◌, ◌≤◌, length, ap, ◌∙◌, arith}
use Rattle.std.specs.List.{filter}
use Rattle.ddt_register.specs.declared.zone.Zone.{Zone}
use Rattle.ddt_register.specs.laws.Count.{few_rows, filter_few}
use Rattle.ddt_register.specs.laws.Rising.{zones_rise}
use Rattle.ddt_review.proofs.FaultsLemmas.AboveLemmas.{ms_zone}
use Rattle.ddt_review.proofs.faults.index.Index.of.Goals as goal

pub first_zones-requires : goal.first_zones-requires
first_zones-requires c =
    let zones = c.args.register.now.zones in
    let most : length zones ≤ 65535 = few_rows (λ (z : Zone). z.row) zones (zones_rise c.args.register.now) in
    let same : length c.as_slice-zones.result.now ≡ length zones = ap length c.as_slice-zones.ensures in
    omega arith

pub first_zones-requires-2 : goal.first_zones-requires-2
first_zones-requires-2 c =
    let zones = c.args.register.now.zones in
    let most : length zones ≤ 65535 = few_rows (λ (z : Zone). z.row) zones (zones_rise c.args.register.now) in
    let few : length (filter ms_zone zones) ≤ length zones = filter_few ms_zone zones in
    let same : length c.deref.result.now ≡ length (filter ms_zone zones) =
    ap length (c.deref.ensures.value ∙ c.in_ok-map_servers.ensures ∙ ap (filter ms_zone) c.as_slice-zones.ensures) in
    omega arith
