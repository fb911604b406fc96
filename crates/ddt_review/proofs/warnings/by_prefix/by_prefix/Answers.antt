use Rattle.std.proofs.Common.{Bool, cond, Some, find, sym, ap, ◌∙◌, arith}
use denote.Ref.{Bor}
use Rattle.std.specs.Option.{option_copied}
use Rattle.std.specs.FinMap.{get, len, get-empty, get-insert, len-empty}
use Rattle.std.specs.Ordering.{eq_by_cmp}
use Rattle.std.specs.Cmp.Lexicographic.{texts_ties, nat_list_cmp_total}
use Rattle.std.proofs.lemmas.List.{take_all}
use Rattle.ddt_path.specs.Covers.{is_same_path}
use Rattle.ddt_path.specs.laws.Member.{in_at}
use Rattle.ddt_trie.specs.PrefixMap.{path_cmp}
use Rattle.ddt_trie.specs.Trie.{trie_content}
use Rattle.ddt_review.proofs.WarningsLemmas.KeptLemmas.{copied_cond, kept_more, few_more}
use Rattle.ddt_review.proofs.warnings.by_prefix.by_prefix.Goals as goal

pub loop-item-init : goal.loop-item-init
loop-item-init g c = record {
  kept = λ p. ap (λ m. option_copied (get m p)) c.empty-kept.ensures ∙ ap option_copied (get-empty path_cmp p);
  few = omega (arith, ap len c.empty-kept.ensures, len-empty path_cmp (Bor g.row.T.Denot));
}

pub insert-requires : goal.insert-requires
insert-requires g c =
    let few = c.loop-item.invariant.few in
    let lt = c.loop-item-test.true in
    omega (arith, c.requires.few)

pub loop-item-preserved : goal.loop-item-preserved
loop-item-preserved g c =
    let x = c.item-item.result in
    let items = c.args.items.now in
    let i = c.loop-item.item-index in
    let old = trie_content c.loop-item.kept in
    let is = c.in-Ok.ensures.inserted in
    let path = g.T.Prefixed.path in
    let q = c.prefix.result in
    record {
      kept = λ p. ap (λ m. option_copied (get m p)) is
          ∙ ap option_copied (get-insert nat_list_cmp_total old q _ p)
          ∙ copied_cond (eq_by_cmp path_cmp p q) _ (get old p)
          ∙ ap (λ (b : Bool). cond b (Some x) (option_copied (get old p)))
          (sym (texts_ties p q) ∙ ap (is_same_path p) c.prefix.ensures)
          ∙ ap (λ o. cond (is_same_path p (path x)) (Some x) o) (c.loop-item.invariant.kept p)
          ∙ kept_more path items c.requires.apart i x c.loop-item-test.true c.item-item.is
          (in_at items i x c.loop-item-test.true c.item-item.is) p;
      few = few_more old _ q _ i is c.loop-item.invariant.few;
    }

pub returns : goal.returns
returns g c = λ p. c.loop-item.invariant.kept p
    ∙ ap (find (λ a. is_same_path p (g.T.Prefixed.path a))) (take_all c.loop-item.item-index c.args.items.now c.loop-item-test.false)
