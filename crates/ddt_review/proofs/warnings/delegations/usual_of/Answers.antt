use Rattle.std.proofs.Common.{ℕ, false, List, Option, ap, ◌∙◌}
use Rattle.std.specs.Prelude.{nat_lt}
use Rattle.std.specs.List.{count_by}
use Rattle.std.specs.Option.{option_map_or}
use Rattle.std.proofs.lemmas.List.{take_all}
use Rattle.ddt_register.specs.declared.zone.Zone.{Zone}
use Rattle.ddt_review.specs.Warnings.Warnings.{is_delegated, is_same_pair}
use Rattle.ddt_review.proofs.WarningsLemmas.DelegationLemmas.{seen_more, twice_more}
use Rattle.ddt_review.proofs.warnings.delegations.usual_of.Goals as goal

pub loop-zone-preserved : goal.loop-zone-preserved
loop-zone-preserved c =
    let r = c.args.tree.now.register.now in
    let zones = c.as_slice-zone-items.result.now in
    let i = c.loop-zone.zone-index in
    let x = c.zone-item.result in
    let here = λ (k : List ℕ × List ℕ).
    ap (λ (o : Option (List ℕ × List ℕ)). option_map_or (is_same_pair k) o false) c.delegation_of.ensures in
    record {
      seen = λ k. c.in_ok-note.ensures.seen k
          ∙ seen_more (is_delegated r k) zones i x c.loop-zone-test.true c.zone-item.is _ _ (c.loop-zone.invariant.seen k)
          (here k);
      usual = λ k. c.in_ok-note.ensures.usual k
          ∙ twice_more (is_delegated r k) zones i x c.loop-zone-test.true c.zone-item.is _ _ _
          (c.loop-zone.invariant.usual k) (c.loop-zone.invariant.seen k) (here k);
    }

pub returns : goal.returns
returns c = λ k.
    let r = c.args.tree.now.register.now in
    c.loop-zone.invariant.usual k
    ∙ ap (λ (zones : List Zone). nat_lt 1 (count_by (is_delegated r k) zones))
    (take_all c.loop-zone.zone-index c.as_slice-zone-items.result.now c.loop-zone-test.false ∙ c.as_slice-zone-items.ensures)
