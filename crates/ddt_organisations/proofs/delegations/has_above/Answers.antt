use Rattle.std.proofs.Common.{ℕ, ◌-◌, take, sym, ap, ◌∙◌}
use Rattle.ddt_trie.specs.Trie.{trie_content}
use Rattle.ddt_organisations.proofs.PrefixLemmas.{none_above, found_above}
use Rattle.ddt_organisations.proofs.delegations.has_above.Goals as goal

pub returns-then-len-eq0 : goal.returns-then-len-eq0
returns-then-len-eq0 c = λ zones has.
    none_above zones c.args.prefix (sym c.len-len.ensures.digits ∙ c.if-len-eq0.true)

pub returns : goal.returns
returns c = λ zones has.
    let p = c.args.prefix in
    c.is_some.ensures
    ∙ found_above zones (trie_content c.args.rows.now) has p c.front.result
    (λ e. c.if-len-eq0.false (c.len-len.ensures.digits ∙ e))
    (c.front.ensures ∙ ap (λ (n : ℕ). take (n - 1) p) c.len-len.ensures.digits)
    c.longest_over.result c.longest_over.ensures.longest c.longest_over.ensures.covered
