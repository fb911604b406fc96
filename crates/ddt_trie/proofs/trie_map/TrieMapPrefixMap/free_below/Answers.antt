use Rattle.std.proofs.Common.{Some, sym, ap, ◌∙◌, arith}
use Rattle.ddt_path.specs.Path.{xeid_path}
use Rattle.ddt_path.specs.laws.Cover.{length-covered, fronts_overlap}
use Rattle.ddt_path.specs.laws.Front.{below_parts, longer_below}
use Rattle.ddt_trie.proofs.HoleLemmas.{counts_below, met_covers, covered_none, hole_not_covered, hole_free, hole_within}
use Rattle.ddt_trie.proofs.trie_map.TrieMapPrefixMap.free_below.Goals as goal

pub least_specific_hole-requires-clause-near : goal.least_specific_hole-requires-clause-near
least_specific_hole-requires-clause-near g c =
    rw c.host.ensures.whole
    (omega (arith, c.len.ensures.digits, length-covered c.args.from (xeid_path c.args.x) c.requires))

pub returns-in_err-len-clause-first : goal.returns-in_err-len-clause-first
returns-in_err-len-clause-first g c =
    let key = met_covers c.args.x c.args.self.now.paths (rw c.host.ensures.whole at c.in_err-len.ensures.none) in
    c.from_residual.ensures
    ∙ sym (covered_none (counts_below _ c.args.from _ c.len.ensures.digits) _ key.0 c.requires key.1 key.2 key.3)

pub returns-in_err-len-clause-none : goal.returns-in_err-len-clause-none
returns-in_err-len-clause-none g c =
    let key = met_covers c.args.x c.args.self.now.paths (rw c.host.ensures.whole at c.in_err-len.ensures.none) in
    let below = longer_below key.0 c.args.from (fronts_overlap key.0 c.args.from (xeid_path c.args.x) key.3 c.requires)
    (omega (arith, c.len.ensures.digits, key.2)) in
    rw c.from_residual.ensures (key.0, key.1, below, key.3)

pub cut-requires : goal.cut-requires
cut-requires g c =
    hole_within (rw c.host.ensures.whole at c.in_ok-len.ensures.found) c.requires
    (counts_below _ c.args.from _ c.len.ensures.digits) c.max.ensures c.len-2.ensures.digits

pub returns-clause-first : goal.returns-clause-first
returns-clause-first g c =
    ap Some c.cut.ensures
    ∙ sym (hole_free (rw c.host.ensures.whole at c.in_ok-len.ensures.found) c.requires
    (counts_below _ c.args.from _ c.len.ensures.digits) c.max.ensures c.len-2.ensures.digits)

pub returns-clause-covered : goal.returns-clause-covered
returns-clause-covered g c = λ key.
    absurd (hole_not_covered (rw c.host.ensures.whole at c.in_ok-len.ensures.found) key.0 key.1
    (omega (arith, c.len.ensures.digits, (below_parts key.0 c.args.from key.2).1)) key.3)
