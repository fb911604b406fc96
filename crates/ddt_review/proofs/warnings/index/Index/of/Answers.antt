use Rattle.std.proofs.Common.{◌≡◌, ◌≤◌, length, sym, ap, subst, ◌∙◌, arith}
use Rattle.ddt_register.specs.declared.site.Site.{Site}
use Rattle.ddt_register.specs.declared.register.Register.{Register}
use Rattle.ddt_register.specs.laws.Count.{few_rows}
use Rattle.ddt_register.specs.laws.Rising.{sites_rise}
use Rattle.ddt_review.specs.Warnings.Found.{HaveOwnPrefixes}
use Rattle.ddt_review.proofs.WarningsLemmas.AboveLemmas.{sites_apart}
use Rattle.ddt_review.proofs.warnings.index.Index.of.Goals as goal

pub by_prefix-requires-clause-few : goal.by_prefix-requires-clause-few
by_prefix-requires-clause-few c =
    let r = c.args.accepted.now in
    let same : c.as_slice.result.now ≡ r.sites = c.as_slice.ensures ∙ ap (λ (s : Register). s.sites) c.register-register.ensures.register in
    let n : length c.as_slice.result.now ≡ length r.sites = ap length same in
    let few : length r.sites ≤ 65535 = few_rows (λ (s : Site). s.row) r.sites (sites_rise r) in
    omega arith

pub by_prefix-requires-clause-apart : goal.by_prefix-requires-clause-apart
by_prefix-requires-clause-apart c =
    let r = c.args.accepted.now in
    let same : c.as_slice.result.now ≡ r.sites = c.as_slice.ensures ∙ ap (λ (s : Register). s.sites) c.register-register.ensures.register in
    subst (HaveOwnPrefixes (λ (s : Site). s.prefix)) (sym same) (sites_apart r c.register-register.ensures.accepted)
