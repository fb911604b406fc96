use Rattle.std.proofs.Common.{ℕ, List, ◌++◌, map, append-nil, sym, ap, ◌∙◌, rules}
use Rattle.std.specs.Map.Iter.{deref}
use Rattle.std.proofs.lemmas.Map.Iter.{rest_more, rest_all}
use Rattle.ddt_organisations.specs.Faults.{pair_with}
use Rattle.ddt_organisations.proofs.PairLemmas.{pair_more}
use Rattle.ddt_organisations.proofs.seam_pairs.push_pairs.Goals as goal

pub loop-other-init : goal.loop-other-init
loop-other-init c = ap (λ (l : List ℕ). c.args.pairs.now.items ++ map (pair_with c.args.number) l)
    (c.into_iter-other-iterator.ensures.into_iter_gives ∙ c.iter-other-items.ensures.rest)

pub loop-other-preserved : goal.loop-other-preserved
loop-other-preserved c =
    pair_more c.args.number c.in-Some.other.now _ c.loop-other.pairs.items c.push.new.self.items
    c.loop-other.other-iterator c.next.new.self
    (rest_more deref c.loop-other.other-iterator c.next.new.self c.next.result c.in-Some.other c.in-Some.is c.next.ensures.steps)
    c.loop-other.invariant (search rules)

pub returns : goal.returns
returns c =
    sym (append-nil c.loop-other.pairs.items)
    ∙ ap (λ (l : List ℕ). c.loop-other.pairs.items ++ map (pair_with c.args.number) l)
    (sym (rest_all deref c.loop-other.other-iterator c.next.new.self c.next.result c.in-None.is c.next.ensures.steps))
    ∙ c.loop-other.invariant
