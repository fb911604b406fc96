use Rattle.std.proofs.Common.{◌≡◌, ◌∙◌, ℕ, List, refl, ap, take}
use Rattle.std.specs.Ordering.{nat_cmp}
use Rattle.std.specs.Cmp.Lexicographic.{slice_cmp}
use Rattle.std.specs.BTreeMap.{get}
use Rattle.std.proofs.lemmas.List.{take_all}
use Rattle.ddt_path.specs.declared.locator.Locator.{Locator}
use Rattle.ddt_path.specs.laws.Member.{in_at}
use Rattle.ddt_check.specs.laws.Kept.{few_etrs}
use Rattle.ddt_register.specs.declared.site.Site.{Site}
use Rattle.ddt_register.specs.declared.register.Register.{Register}
use Rattle.ddt_plan.specs.Tables.{put_at}
use Rattle.ddt_plan.proofs.TableLemmas.{value_in, put_row}
use Rattle.ddt_plan.proofs.items.put_sites.Goals as goal

pub of_few-etrs-requires : goal.of_few-etrs-requires
of_few-etrs-requires c =
    let r = c.args.accepted.now in
    let s = c.site-item.result in
    let same = c.as_slice-site-items.ensures ∙ ap (λ (r : Register). r.sites) c.register.ensures.register in
    rw c.as_slice.ensures (few_etrs r c.register.ensures.accepted s
    (in_at r.sites c.loop-site.site-index s (rw same at c.loop-site-test.true) (rw same at c.site-item.is)))

pub loop-site-init : goal.loop-site-init
loop-site-init c = λ k. refl

pub loop-site-preserved : goal.loop-site-preserved
loop-site-preserved c =
    put_row (λ (s : Site). s.prefix) (λ (s : Site). s.etrs) c.args.which
    c.as_slice-site-items.result.now c.loop-site.site-index c.site-item.result c.loop-site-test.true c.site-item.is
    c.args.table c.loop-site.all c.put.new.table c.loop-site.invariant
    c.of_few-etrs.result (c.of_few-etrs.ensures ∙ c.as_slice.ensures)
    (c.in_ok-put.ensures).0 (c.in_ok-put.ensures).1 (c.in_ok-put.ensures).2

pub returns : goal.returns
returns c = λ k.
    let key : Site → List ℕ = λ s. s.prefix in
    let value : Site → List Locator = λ s. s.etrs in
    let rows : take c.loop-site.site-index c.as_slice-site-items.result.now ≡ c.args.accepted.now.sites =
    take_all c.loop-site.site-index c.as_slice-site-items.result.now c.loop-site-test.false
    ∙ c.as_slice-site-items.ensures ∙ ap (λ (r : Register). r.sites) c.register.ensures.register in
    c.loop-site.invariant k
    ∙ ap (λ (ss : List Site). put_at c.args.which (get (slice_cmp nat_cmp) c.args.table k) (value_in key value ss k)) rows
