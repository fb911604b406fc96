use Rattle.std.proofs.Common.{arith}
use Rattle.ddt_path.specs.Path.{xeid_path}
use Rattle.ddt_trie.proofs.HashTableLemmas.{all_below, fewer, found_longest}
use Rattle.ddt_trie.proofs.hash_table.PrefixTable.longest.Goals as goal

pub loop-at-init : goal.loop-at-init
loop-at-init g c m is p key inside =
    let k = all_below c.args.self.now m is (xeid_path c.args.x) p key inside in
    (k.0, omega (arith, k.1, c.len-at.ensures), k.2)

pub returns-in-Some-clause-longest : goal.returns-in-Some-clause-longest
returns-in-Some-clause-longest g c m is =
    found_longest c.args.self.now m is (xeid_path c.args.x) c.loop-at.at c.index.result.now c.in-Some.found.0 _
    (omega (arith, c.loop-at-test.true)) (omega (arith, c.loop-at.auto.at, c.len-at.ensures)) c.index.ensures
    c.in-Some.ensures.fits c.in-Some.ensures.front (c.in-Some.ensures.value m is) (c.loop-at.invariant m is)

pub loop-at-preserved : goal.loop-at-preserved
loop-at-preserved g c m is =
    fewer c.args.self.now m is (xeid_path c.args.x) c.loop-at.at c.index.result.now
    (omega (arith, c.loop-at-test.true)) (omega (arith, c.loop-at.auto.at, c.len-at.ensures)) c.index.ensures
    (c.in_default.ensures.none m is) (c.loop-at.invariant m is)
