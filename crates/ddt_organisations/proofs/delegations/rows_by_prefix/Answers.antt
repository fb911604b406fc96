use Rattle.std.proofs.Common.{ℕ, ap, ◌∙◌, arith}
use Rattle.std.specs.Prelude.{is_some}
use Rattle.std.specs.List.{list_any}
use Rattle.std.specs.FinMap.{get, len, get-empty, len-empty}
use Rattle.std.proofs.lemmas.List.{take_all}
use Rattle.ddt_path.specs.Covers.{is_same_path}
use Rattle.ddt_register.specs.declared.zone.Zone.{Zone}
use Rattle.ddt_trie.specs.PrefixMap.{path_cmp}
use Rattle.ddt_trie.specs.Trie.{trie_content}
use Rattle.ddt_organisations.proofs.PrefixLemmas.{prefixes_more, few_more}
use Rattle.ddt_organisations.proofs.delegations.rows_by_prefix.Goals as goal

pub loop-zone-init : goal.loop-zone-init
loop-zone-init c = record {
  kept = λ p. ap (λ m. is_some (get m p)) c.empty-rows.ensures ∙ ap is_some (get-empty path_cmp p);
  few = omega (arith, ap len c.empty-rows.ensures, len-empty path_cmp ℕ);
}

pub insert-requires : goal.insert-requires
insert-requires c =
    let few = c.loop-zone.invariant.few in
    let lt = c.loop-zone-test.true in
    let most = c.requires in
    omega arith

pub loop-zone-preserved : goal.loop-zone-preserved
loop-zone-preserved c =
    let z = c.zone-item.result in
    let zones = c.args.zones.now in
    let i = c.loop-zone.zone-index in
    let old = trie_content c.loop-zone.rows in
    let is = c.in-Ok.ensures.inserted in
    record {
      kept = prefixes_more zones i z c.loop-zone-test.true c.zone-item.is old _ is c.loop-zone.invariant.kept;
      few = few_more zones i z c.loop-zone-test.true c.zone-item.is old _ is c.loop-zone.invariant.few;
    }

pub returns : goal.returns
returns c = λ p.
    c.loop-zone.invariant.kept p
    ∙ ap (list_any (λ (z : Zone). is_same_path z.prefix p))
    (take_all c.loop-zone.zone-index c.args.zones.now c.loop-zone-test.false)
