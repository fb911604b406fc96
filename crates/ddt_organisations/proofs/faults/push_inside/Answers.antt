use Rattle.std.proofs.Common.{◌≡◌, List, ◌++◌, map, append-nil, sym, ap, ◌∙◌}
use Rattle.std.specs.List.{filter, list_any}
use Rattle.std.proofs.lemmas.List.{take_all}
use Rattle.ddt_path.specs.Covers.{is_strictly_below}
use Rattle.ddt_register.specs.declared.zone.Zone.{Zone}
use Rattle.ddt_organisations.specs.Meets.{seen, is_inside}
use Rattle.ddt_organisations.specs.Faults.{inside_at}
use Rattle.ddt_organisations.proofs.ToldLemmas.{told_more, untold_more}
use Rattle.ddt_organisations.proofs.faults.push_inside.Goals as goal
use Rattle.ddt_organisations.proofs.faults.push_inside.Goals.{then-have_inside+in_ok-push, else-have_inside}

pub loop-zone-init : goal.loop-zone-init
loop-zone-init c = sym (append-nil c.args.faults.now.items)

pub have_inside-requires : goal.have_inside-requires
have_inside-requires c = c.requires.rows

pub loop-zone-preserved : goal.loop-zone-preserved
loop-zone-preserved c =
    let test = is_inside (seen c.args.organisation.now) in
    let items = c.zones-zone-items.result.now in
    let i = c.loop-zone.zone-index in
    let z = c.zone-item.result in
    let first = c.args.faults.now.items in
    let old = c.loop-zone.faults.items in
    let is : c.have_inside.result ≡ test z =
    c.have_inside.ensures ∙ ap (list_any (λ (y : Zone). is_strictly_below z.prefix y.prefix)) c.requires.zones in
    elim c.if-have_inside.branch [
      | then-have_inside+in_ok-push w ↦
          told_more test items i z c.loop-zone-test.true c.zone-item.is (inside_at c.args.number) first
          c.if-have_inside.faults.items old c.loop-zone.invariant (sym is ∙ w.if-have_inside.true)
          (ap (λ v. v.items) w.faults-is ∙ w.in_ok-push.ensures.items)
      | else-have_inside w ↦
          ap (λ v. v.items) w.faults-is
          ∙ untold_more test items i z c.loop-zone-test.true c.zone-item.is (inside_at c.args.number) first old
          c.loop-zone.invariant (sym is ∙ w.if-have_inside.false)
    ]

pub returns : goal.returns
returns c =
    let test = is_inside (seen c.args.organisation.now) in
    c.loop-zone.invariant
    ∙ ap (λ (zones : List Zone). c.args.faults.now.items ++ map (inside_at c.args.number) (filter test zones))
    (take_all c.loop-zone.zone-index c.zones-zone-items.result.now c.loop-zone-test.false ∙ c.zones-zone-items.ensures)
