use Rattle.std.proofs.Common.{◌<◌, arith}
use Rattle.ddt_trie.proofs.BranchLemmas.{turns_low, turns_high}
use Rattle.ddt_trie.proofs.tree.branch_of_xeid.Goals as goal

pub returns-then-digit-eq0 : goal.returns-then-digit-eq0
returns-then-digit-eq0 c =
    let lt : c.args.at < c.args.len = omega (arith, c.requires.within, c.if-at-len.false) in
    turns_low c.args.x c.args.len c.args.at c.digit.result c.requires.fits lt c.digit.ensures c.if-digit-eq0.true

pub returns-else-digit-eq0 : goal.returns-else-digit-eq0
returns-else-digit-eq0 c =
    let lt : c.args.at < c.args.len = omega (arith, c.requires.within, c.if-at-len.false) in
    turns_high c.args.x c.args.len c.args.at c.digit.result c.requires.fits lt c.digit.ensures c.if-digit-eq0.false
