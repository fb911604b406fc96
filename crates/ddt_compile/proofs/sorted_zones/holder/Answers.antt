use Rattle.std.proofs.Common.{◌-◌, ◌<◌, length, arith}
use Rattle.ddt_path.specs.laws.Member.{in_contained, contained, in_at, moved_in}
use Rattle.std.proofs.lemmas.List.Sorted.{IsPermutation-sym}
use Rattle.ddt_check.specs.laws.Holder.{some_holder, holder_is}
use Rattle.ddt_compile.proofs.sorted_zones.holder.Goals as goal

pub returns-then-after-eq0 : goal.returns-then-after-eq0
returns-then-after-eq0 c = λ r are site.
    some_holder r are.0 c.args.site.now (in_contained r.sites c.args.site.now site) c.args.sorted.now are.2 are.1 c.count_up_to-after.result
    c.count_up_to-after.ensures.point c.if-after-eq0.true

pub returns : goal.returns
returns c = λ r are site.
    let xs = c.args.sorted.now in
    let after = c.count_up_to-after.result in
    let w = c.index-sorted-after.result in
    let inside : after - 1 < length xs = omega (arith, c.count_up_to-after.ensures.within) in
    let held = holder_is r are.0 c.args.site.now (in_contained r.sites c.args.site.now site) xs are.2 are.1 after
    c.count_up_to-after.ensures.point w (omega (arith, c.if-after-eq0.false)) inside c.index-sorted-after.is in
    (contained r.zones w (moved_in xs r.zones (IsPermutation-sym r.zones xs are.1) w (in_at xs (after - 1) w inside c.index-sorted-after.is)), held.0, held.1)
