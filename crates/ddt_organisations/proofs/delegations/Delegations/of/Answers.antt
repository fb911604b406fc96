use Rattle.std.proofs.Common.{◌≡◌, length, ap, subst, ◌∙◌, arith}
use Rattle.std.specs.Prelude.{List}
use Rattle.ddt_register.specs.declared.zone.Zone.{Zone}
use Rattle.ddt_trie.specs.Trie.{trie_content}
use Rattle.ddt_organisations.specs.Meets.{seen, own_zones, is_delegated, delegated_zones}
use Rattle.ddt_organisations.specs.Found.{HasPrefixes}
use Rattle.ddt_organisations.proofs.PrefixLemmas.{few_kept}
use Rattle.ddt_organisations.proofs.delegations.Delegations.of.Goals as goal

pub rows_by_prefix-requires : goal.rows_by_prefix-requires
rows_by_prefix-requires c =
    let o = seen c.args.organisation.now in
    let same : length c.deref.result.now ≡ length (own_zones o) = ap length (c.deref.ensures.value ∙ c.in_ok-own.ensures) in
    let few = few_kept o.register (λ (z : Zone). o.runs z.group) in
    omega arith

pub delegated_zones-requires : goal.delegated_zones-requires
delegated_zones-requires c =
    subst (λ (zones : List Zone). HasPrefixes zones (trie_content c.in_ok-above.above))
    (c.deref.ensures.value ∙ c.in_ok-own.ensures) c.in_ok-above.ensures

pub rows_by_prefix-requires-2 : goal.rows_by_prefix-requires-2
rows_by_prefix-requires-2 c =
    let o = seen c.args.organisation.now in
    let same : length c.deref-2.result.now ≡ length (delegated_zones o) =
    ap length (c.deref-2.ensures.value ∙ c.in_ok-zones.ensures) in
    let few = few_kept o.register (is_delegated o) in
    omega arith

pub returns : goal.returns
returns c = record {
  zones = c.in_ok-zones.ensures;
  rows = subst (λ (zones : List Zone). HasPrefixes zones (trie_content c.in_ok-rows.rows)) c.deref-2.ensures.value
      c.in_ok-rows.ensures;
}
