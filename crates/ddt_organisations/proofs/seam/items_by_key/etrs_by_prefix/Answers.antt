use Rattle.std.proofs.Common.{ℕ, List, find, refl, sym, ap, ◌∙◌}
use Rattle.std.specs.Option.{option_map}
use Rattle.std.proofs.lemmas.List.{take_all}
use Rattle.ddt_path.specs.declared.locator.Locator.{Locator}
use Rattle.ddt_path.specs.Covers.{is_same_path}
use Rattle.ddt_path.specs.laws.Member.{in_at}
use Rattle.ddt_register.specs.declared.site.Site.{Site}
use Rattle.ddt_register.specs.declared.register.Register.{Register}
use Rattle.ddt_check.specs.laws.Kept.{few_etrs}
use Rattle.ddt_organisations.proofs.SeamLemmas.FirstLemmas.{key_put, key_kept}
use Rattle.ddt_organisations.proofs.seam.items_by_key.etrs_by_prefix.Goals as goal
use Rattle.ddt_organisations.proofs.seam.items_by_key.etrs_by_prefix.Goals.{then-not-contains_key+in_ok-insert, else-not-contains_key}

abbrev prefix : Site → List ℕ
prefix a = a.prefix

abbrev value : Site → List Locator
value = λ (s : Site). s.etrs

pub loop-site-preserved : goal.loop-site-preserved
loop-site-preserved c = λ k.
    let items = c.as_slice-site-items.result.now in
    let i = c.loop-site.site-index in
    let a = c.site-item.result in
    elim c.if-not-contains_key.branch [
      | then-not-contains_key+in_ok-insert w ↦
          rw w.known-is
          (key_put prefix value items i a c.loop-site-test.true c.site-item.is c.loop-site.known w.insert.new.self
          c.loop-site.invariant w.of_few.result (w.of_few.ensures ∙ w.as_slice.ensures)
          (sym c.contains_key.ensures ∙ w.if-not-contains_key.true) w.in_ok-insert.ensures.updates k)
      | else-not-contains_key w ↦
          rw w.known-is (key_kept prefix value items i a c.loop-site-test.true c.site-item.is c.loop-site.known
          c.loop-site.known c.loop-site.invariant
          (sym c.contains_key.ensures ∙ w.if-not-contains_key.false) k)
    ]

pub of_few-requires : goal.of_few-requires
of_few-requires c =
    let r = c.args.accepted.now in
    let s = c.site-item.result in
    let same = c.as_slice-site-items.ensures ∙ ap (λ (r : Register). r.sites) c.register.ensures.register in
    rw c.as_slice.ensures (few_etrs r c.register.ensures.accepted s
    (in_at r.sites c.loop-site.site-index s (rw same at c.loop-site-test.true) (rw same at c.site-item.is)))

pub returns : goal.returns
returns c = λ k.
    let same = c.as_slice-site-items.ensures ∙ ap (λ (r : Register). r.sites) c.register.ensures.register in
    c.loop-site.invariant k
    ∙ ap (λ (zs : List Site). option_map value (find (λ (a : Site). is_same_path a.prefix k) zs))
    (take_all c.loop-site.site-index c.as_slice-site-items.result.now c.loop-site-test.false ∙ same)
