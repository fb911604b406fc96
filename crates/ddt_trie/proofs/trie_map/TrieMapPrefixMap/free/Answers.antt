use Rattle.std.proofs.Common.{Some, sym, ap, ◌∙◌, arith}
use Rattle.ddt_trie.proofs.HoleLemmas.{counts_all, met_covers, covered_none, hole_not_covered, hole_free, hole_within}
use Rattle.ddt_trie.proofs.trie_map.TrieMapPrefixMap.free.Goals as goal

pub returns-in_err-len-clause-first : goal.returns-in_err-len-clause-first
returns-in_err-len-clause-first g c =
    let key = met_covers c.args.x c.args.self.now.paths (rw c.host.ensures.whole at c.in_err-len.ensures.none) in
    c.from_residual.ensures ∙ sym (covered_none (counts_all _ c.args.from) _ key.0 c.requires key.1 key.2 key.3)

pub returns-in_err-len-clause-none : goal.returns-in_err-len-clause-none
returns-in_err-len-clause-none g c =
    let key = met_covers c.args.x c.args.self.now.paths (rw c.host.ensures.whole at c.in_err-len.ensures.none) in
    rw c.from_residual.ensures (key.0, key.1, key.3)

pub cut-requires : goal.cut-requires
cut-requires g c =
    hole_within (rw c.host.ensures.whole at c.in_ok-len.ensures.found) c.requires (counts_all _ c.args.from)
    c.max.ensures c.len.ensures.digits

pub returns-clause-first : goal.returns-clause-first
returns-clause-first g c =
    ap Some c.cut.ensures
    ∙ sym (hole_free (rw c.host.ensures.whole at c.in_ok-len.ensures.found) c.requires (counts_all _ c.args.from)
    c.max.ensures c.len.ensures.digits)

pub returns-clause-covered : goal.returns-clause-covered
returns-clause-covered g c = λ key.
    absurd (hole_not_covered (rw c.host.ensures.whole at c.in_ok-len.ensures.found) key.0 key.1 (omega arith) key.2)
