use Rattle.std.proofs.Common.{◌+◌, ◌≤◌, ap, ◌∙◌, arith}
use Rattle.std.specs.FinMap.{get, len, get-empty, len-empty}
use Rattle.ddt_path.specs.Covers.{is_same_path}
use Rattle.ddt_register.specs.declared.zone.Zone.{Zone}
use Rattle.ddt_trie.specs.PrefixMap.{path_cmp}
use Rattle.ddt_trie.specs.Trie.{trie_content}
use Rattle.ddt_review.specs.declared.faults.first_items.RowAndKind.{RowAndKind}
use Rattle.ddt_review.specs.Faults.Told.{row_of_zone}
use Rattle.ddt_review.proofs.FaultsLemmas.FirstLemmas.{first_more}
use Rattle.ddt_review.proofs.faults.first_items.first_zones.Goals as goal

pub loop-zone-init : goal.loop-zone-init
loop-zone-init c = record {
  first = λ p. ap (λ m. get m p) c.empty-first.ensures ∙ get-empty path_cmp p;
  few = omega (arith, ap len c.empty-first.ensures, len-empty path_cmp RowAndKind);
}

pub put_zone-requires : goal.put_zone-requires
put_zone-requires c =
    let few = c.loop-zone.invariant.few in
    let lt = c.loop-zone-test.true in
    let most = c.requires in
    omega arith

pub loop-zone-preserved : goal.loop-zone-preserved
loop-zone-preserved c =
    let z = c.zone-item.result in
    let zones = c.args.zones.now in
    let i = c.loop-zone.zone-index in
    let old = trie_content c.loop-zone.first in
    let new = trie_content c.put_zone.new.first in
    let few : len old ≤ i = c.loop-zone.invariant.few in
    let more : len new ≤ len old + 1 = c.in_ok-put_zone.ensures.count in
    record {
      first = λ p. first_more row_of_zone (λ (y : Zone). is_same_path y.prefix p) zones i z c.loop-zone-test.true
          c.zone-item.is (get old p) (get new p) (c.loop-zone.invariant.first p) (c.in_ok-put_zone.ensures.first p);
      few = omega arith;
    }
