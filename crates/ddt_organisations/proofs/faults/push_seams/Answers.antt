use Rattle.std.proofs.Common.{inl, refl, sym, subst, ◌∙◌}
use Rattle.std.specs.Ordering.{nat_cmp}
use Rattle.std.specs.BTreeSet.{contains}
use Rattle.std.specs.Map.Iter.{deref}
use Rattle.std.proofs.lemmas.Map.Iter.{rest_more, rest_all}
use Rattle.ddt_path.specs.laws.Member.{IsIn}
use Rattle.ddt_organisations.proofs.MeetingLemmas.{seams_first, seams_more, seams_all}
use Rattle.ddt_organisations.proofs.faults.push_seams.Goals as goal

pub loop-other-init : goal.loop-other-init
loop-other-init c = seams_first c.args.all.now c.args.number c.args.others.now c.args.faults.now.items
    c.into_iter-other-iterator.result (c.into_iter-other-iterator.ensures.into_iter_gives ∙ c.iter-other-items.ensures.rest)

pub push_seam-requires : goal.push_seam-requires
push_seam-requires c =
    let m = c.in-Some.other.now in
    c.requires m (c.loop-other.invariant.rest m (subst (IsIn m)
    (sym (rest_more deref c.loop-other.other-iterator c.next.new.self c.next.result c.in-Some.other c.in-Some.is c.next.ensures.steps))
    (inl refl)))

pub loop-other-preserved : goal.loop-other-preserved
loop-other-preserved c =
    seams_more c.args.all.now c.args.number (contains nat_cmp c.args.others.now) c.args.faults.now.items
    c.loop-other.other-iterator c.next.new.self c.loop-other.faults.items c.push_seam.new.faults.items
    c.loop-other.invariant c.in-Some.other.now
    (rest_more deref c.loop-other.other-iterator c.next.new.self c.next.result c.in-Some.other c.in-Some.is c.next.ensures.steps)
    c.in_ok-push_seam.ensures.more c.in_ok-push_seam.ensures.told

pub returns-clause-more : goal.returns-clause-more
returns-clause-more c = c.loop-other.invariant.more

pub returns-clause-told : goal.returns-clause-told
returns-clause-told c =
    seams_all c.args.all.now c.args.number (contains nat_cmp c.args.others.now) c.args.faults.now.items
    c.loop-other.other-iterator c.loop-other.other-iterator c.loop-other.faults.items c.loop-other.faults.items
    c.loop-other.invariant
    (rest_all deref c.loop-other.other-iterator c.next.new.self c.next.result c.in-None.is c.next.ensures.steps)
