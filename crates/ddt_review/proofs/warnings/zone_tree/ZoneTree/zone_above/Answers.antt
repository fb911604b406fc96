use Rattle.std.proofs.Common.{ℕ, ◌-◌, take, sym, ap, ◌∙◌}
use Rattle.ddt_review.proofs.WarningsLemmas.AboveLemmas.{above_root, above_by_front, zones_apart}
use Rattle.ddt_review.proofs.warnings.zone_tree.ZoneTree.zone_above.Goals as goal

pub returns-then-len-eq0 : goal.returns-then-len-eq0
returns-then-len-eq0 c =
    sym (above_root c.args.self.now.register.now c.args.zone.now (sym c.len-len.ensures.digits ∙ c.if-len-eq0.true))

pub returns : goal.returns
returns c =
    let r = c.args.self.now.register.now in
    let z = c.args.zone.now in
    c.longest.ensures r.zones c.requires.kept (zones_apart r c.requires.accepted)
    ∙ above_by_front r c.requires.accepted z c.front.result (λ e. c.if-len-eq0.false (c.len-len.ensures.digits ∙ e))
    (c.front.ensures ∙ ap (λ (n : ℕ). take (n - 1) z.prefix) c.len-len.ensures.digits)
