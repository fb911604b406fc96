use Rattle.std.proofs.Common.{Some, ◌≡◌, ◌<◌, true, false, length, refl, sym, ap, ◌∙◌, arith}
use Rattle.ddt_path.specs.Path.{xeid_path}
use Rattle.ddt_path.specs.laws.Cover.{length-covered}
use Rattle.ddt_trie.specs.laws.Pass.{uncovered}
use Rattle.ddt_trie.specs.laws.Key.{tested, some_covers, no_free_part, free_start, free_here, free_later, free_last, host_part, none_alone, none_where}
use Rattle.ddt_trie.proofs.list_map.ListMapPrefixMap.free.Goals as goal

pub loop-len-init : goal.loop-len-init
loop-len-init g c = record {
  told = free_start c.args.from _ _ _ c.len-len.ensures.digits;
  bound = omega (arith, c.len-len.ensures.digits, length-covered c.args.from (xeid_path c.args.x) c.requires);
}

pub returns-then-overlaps_none_of-clause-first : goal.returns-then-overlaps_none_of-clause-first
returns-then-overlaps_none_of-clause-first g c =
    let lt : c.loop-len.len < length (xeid_path c.args.x) =
    omega (arith, c.loop-len-test.true, c.path_len-len-end.ensures) in
    let t = rw c.cut-part.ensures at
    (tested _ _ _ _ true c.deref.ensures.value c.overlaps_none_of.ensures c.if-overlaps_none_of.true) in
    ap Some c.cut-part.ensures ∙ sym (free_here c.args.from _ _ _ lt c.loop-len.invariant.told t)

pub returns-then-overlaps_none_of-clause-covered : goal.returns-then-overlaps_none_of-clause-covered
returns-then-overlaps_none_of-clause-covered g c = λ covered.
    let t = rw c.cut-part.ensures at
    (tested _ _ _ _ true c.deref.ensures.value c.overlaps_none_of.ensures c.if-overlaps_none_of.true) in
    absurd (no_free_part c.args.self.now.entries.items _ _ t covered)

pub loop-len-preserved : goal.loop-len-preserved
loop-len-preserved g c =
    let lt : c.loop-len.len < length (xeid_path c.args.x) =
    omega (arith, c.loop-len-test.true, c.path_len-len-end.ensures) in
    let t = rw c.cut-part.ensures at
    (tested _ _ _ _ false c.deref.ensures.value c.overlaps_none_of.ensures c.if-overlaps_none_of.false) in
    record { told = free_later c.args.from _ _ _ lt c.loop-len.invariant.told t; bound = omega arith }

pub returns-clause-first : goal.returns-clause-first
returns-clause-first g c =
    let at : c.loop-len.len ≡ length (xeid_path c.args.x) =
    omega (arith, c.loop-len-test.false, c.path_len-len-end.ensures, c.loop-len.invariant.bound) in
    host_part _ _ _ _ c.then_some.ensures c.host.ensures.whole
    ∙ sym (free_last c.args.from _ _ _ _ at c.loop-len.invariant.told
    (tested _ _ _ _ _ c.deref-2.ensures.value c.covers_none.ensures.overlaps refl))

pub returns-clause-none : goal.returns-clause-none
returns-clause-none g c =
    none_alone _ _ _ _ c.then_some.ensures (some_covers _ _ _ _ c.deref-2.ensures.value c.covers_none.ensures.covers)

pub returns-clause-covered : goal.returns-clause-covered
returns-clause-covered g c =
    none_where _ _ _ _ c.then_some.ensures (uncovered _ _ _ _ c.deref-2.ensures.value c.covers_none.ensures.covers)
