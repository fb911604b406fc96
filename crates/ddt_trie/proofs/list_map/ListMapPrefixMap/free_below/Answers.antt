use Rattle.std.proofs.Common.{Some, ◌≡◌, ◌<◌, true, false, length, refl, sym, ap, ◌∙◌, arith}
use Rattle.ddt_path.specs.Path.{xeid_path}
use Rattle.ddt_path.specs.laws.Cover.{length-covered}
use Rattle.ddt_trie.specs.laws.Below.{tested_below, no_part_below, some_covers_below, uncovered_below}
use Rattle.ddt_trie.specs.laws.Key.{free_start, free_here, free_later, free_last, host_part, none_alone, none_where}
use Rattle.ddt_trie.proofs.list_map.ListMapPrefixMap.free_below.Goals as goal

pub loop-len-init : goal.loop-len-init
loop-len-init g c = record {
  told = free_start c.args.from _ _ _ c.len-len.ensures.digits;
  bound = omega (arith, c.len-len.ensures.digits, length-covered c.args.from (xeid_path c.args.x) c.requires);
}

pub returns-then-overlaps_none_below-clause-first : goal.returns-then-overlaps_none_below-clause-first
returns-then-overlaps_none_below-clause-first g c =
    let lt : c.loop-len.len < length (xeid_path c.args.x) =
    omega (arith, c.loop-len-test.true, c.path_len-len-end.ensures) in
    let t = rw c.cut-front.ensures at
    (tested_below _ _ c.args.from _ _ true c.deref.ensures.value c.overlaps_none_below.ensures c.if-overlaps_none_below.true) in
    ap Some c.cut-front.ensures ∙ sym (free_here c.args.from _ _ _ lt c.loop-len.invariant.told t)

pub returns-then-overlaps_none_below-clause-covered : goal.returns-then-overlaps_none_below-clause-covered
returns-then-overlaps_none_below-clause-covered g c = λ covered.
    let t = rw c.cut-front.ensures at
    (tested_below _ _ c.args.from _ _ true c.deref.ensures.value c.overlaps_none_below.ensures c.if-overlaps_none_below.true) in
    absurd (no_part_below c.args.self.now.entries.items c.args.from _ _ t covered)

pub loop-len-preserved : goal.loop-len-preserved
loop-len-preserved g c =
    let lt : c.loop-len.len < length (xeid_path c.args.x) =
    omega (arith, c.loop-len-test.true, c.path_len-len-end.ensures) in
    let t = rw c.cut-front.ensures at
    (tested_below _ _ c.args.from _ _ false c.deref.ensures.value c.overlaps_none_below.ensures c.if-overlaps_none_below.false) in
    record { told = free_later c.args.from _ _ _ lt c.loop-len.invariant.told t; bound = omega arith }

pub returns-clause-first : goal.returns-clause-first
returns-clause-first g c =
    let at : c.loop-len.len ≡ length (xeid_path c.args.x) =
    omega (arith, c.loop-len-test.false, c.path_len-len-end.ensures, c.loop-len.invariant.bound) in
    host_part _ _ _ _ c.then_some.ensures c.host.ensures.whole
    ∙ sym (free_last c.args.from _ _ _ _ at c.loop-len.invariant.told
    (tested_below _ _ c.args.from _ _ _ c.deref-2.ensures.value c.covers_none_below.ensures.overlaps refl))

pub returns-clause-none : goal.returns-clause-none
returns-clause-none g c =
    none_alone _ _ _ _ c.then_some.ensures
    (some_covers_below _ _ c.args.from _ _ c.deref-2.ensures.value c.covers_none_below.ensures.covers)

pub returns-clause-covered : goal.returns-clause-covered
returns-clause-covered g c =
    none_where _ _ _ _ c.then_some.ensures
    (uncovered_below _ _ c.args.from _ _ c.deref-2.ensures.value c.covers_none_below.ensures.covers)
