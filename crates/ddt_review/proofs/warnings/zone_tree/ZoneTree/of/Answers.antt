use Rattle.std.proofs.Common.{◌≡◌, ◌≤◌, length, sym, ap, subst, ◌∙◌, arith}
use Rattle.ddt_register.specs.declared.zone.Zone.{Zone}
use Rattle.ddt_register.specs.declared.register.Register.{Register}
use Rattle.ddt_register.specs.laws.Count.{few_rows}
use Rattle.ddt_register.specs.laws.Rising.{zones_rise}
use Rattle.ddt_review.specs.Warnings.Found.{HaveOwnPrefixes}
use Rattle.ddt_review.proofs.WarningsLemmas.AboveLemmas.{zones_apart}
use Rattle.ddt_review.proofs.warnings.zone_tree.ZoneTree.of.Goals as goal

pub by_prefix-requires-clause-few : goal.by_prefix-requires-clause-few
by_prefix-requires-clause-few c =
    let r = c.args.accepted.now in
    let same : c.as_slice.result.now ≡ r.zones = c.as_slice.ensures ∙ ap (λ (s : Register). s.zones) c.register-register.ensures.register in
    let n : length c.as_slice.result.now ≡ length r.zones = ap length same in
    let few : length r.zones ≤ 65535 = few_rows (λ (z : Zone). z.row) r.zones (zones_rise r) in
    omega arith

pub by_prefix-requires-clause-apart : goal.by_prefix-requires-clause-apart
by_prefix-requires-clause-apart c =
    let r = c.args.accepted.now in
    let same : c.as_slice.result.now ≡ r.zones = c.as_slice.ensures ∙ ap (λ (s : Register). s.zones) c.register-register.ensures.register in
    subst (HaveOwnPrefixes (λ (z : Zone). z.prefix)) (sym same) (zones_apart r c.register-register.ensures.accepted)
