use Rattle.std.proofs.Common.{ℕ, List, find, refl, sym, ap, ◌∙◌}
use Rattle.std.specs.Option.{option_map}
use Rattle.std.proofs.lemmas.List.{take_all}
use Rattle.ddt_path.specs.Covers.{is_same_path}
use Rattle.ddt_register.specs.declared.zone.Zone.{Zone}
use Rattle.ddt_register.specs.declared.register.Register.{Register}
use Rattle.ddt_organisations.proofs.SeamLemmas.FirstLemmas.{option_itself, key_put, key_kept}
use Rattle.ddt_organisations.proofs.seam.items_by_key.zones_by_prefix.Goals as goal
use Rattle.ddt_organisations.proofs.seam.items_by_key.zones_by_prefix.Goals.{then-not-contains_key+in_ok-insert, else-not-contains_key}

abbrev prefix : Zone → List ℕ
prefix a = a.prefix

abbrev value : Zone → Zone
value = λ (z : Zone). z

pub loop-zone-preserved : goal.loop-zone-preserved
loop-zone-preserved c = λ k.
    let items = c.as_slice-zone-items.result.now in
    let i = c.loop-zone.zone-index in
    let a = c.zone-item.result in
    elim c.if-not-contains_key.branch [
      | then-not-contains_key+in_ok-insert w ↦
          rw w.known-is
          (key_put prefix value items i a c.loop-zone-test.true c.zone-item.is c.loop-zone.known w.insert.new.self
          c.loop-zone.invariant a refl
          (sym c.contains_key.ensures ∙ w.if-not-contains_key.true) w.in_ok-insert.ensures.updates k)
      | else-not-contains_key w ↦
          rw w.known-is (key_kept prefix value items i a c.loop-zone-test.true c.zone-item.is c.loop-zone.known
          c.loop-zone.known c.loop-zone.invariant
          (sym c.contains_key.ensures ∙ w.if-not-contains_key.false) k)
    ]

pub returns : goal.returns
returns c = λ k.
    let same = c.as_slice-zone-items.ensures ∙ ap (λ (r : Register). r.zones) c.register.ensures.register in
    c.loop-zone.invariant k
    ∙ ap (λ (zs : List Zone). option_map value (find (λ (a : Zone). is_same_path a.prefix k) zs))
    (take_all c.loop-zone.zone-index c.as_slice-zone-items.result.now c.loop-zone-test.false ∙ same)
    ∙ option_itself (find (λ (a : Zone). is_same_path a.prefix k) c.args.accepted.now.zones)
