use Rattle.std.specs.Ordering.{nat_cmp}
use Rattle.std.specs.Cmp.Lexicographic.{slice_cmp}
use Rattle.std.specs.BTreeMap.{get}
use Rattle.ddt_path.specs.Names.{is_same_name}
use Rattle.ddt_register.specs.declared.group.Group.{Group}
use Rattle.ddt_review.specs.Faults.Told.{row_of_group}
use Rattle.ddt_review.proofs.FaultsLemmas.FirstLemmas.{first_more, put_path}
use Rattle.ddt_review.proofs.faults.first_items.first_groups.Goals as goal

pub loop-group-preserved : goal.loop-group-preserved
loop-group-preserved c = λ name.
    let g = c.group-item.result in
    let old = get (slice_cmp nat_cmp) c.loop-group.first in
    let new = get (slice_cmp nat_cmp) c.put_first.new.map in
    first_more row_of_group (λ (h : Group). is_same_name h.name name) c.args.groups.now c.loop-group.group-index g
    c.loop-group-test.true c.group-item.is (old name) (new name) (c.loop-group.invariant name)
    (put_path old new g.name (row_of_group g) c.in_ok-put_first.ensures.here c.in_ok-put_first.ensures.elsewhere name)
