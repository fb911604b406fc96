use Rattle.std.proofs.Common.{◌∙◌, sym, rules}
use Rattle.ddt_path.specs.laws.Cover.{below_is}
use Rattle.ddt_path.specs.laws.Front.{below_parts}
use Rattle.ddt_plan.specs.Differing.{IsInner}
use Rattle.ddt_plan.proofs.AgreeLemmas.{narrowed}
use Rattle.ddt_plan.proofs.JumpLemmas.{covers_keys, is_next, nothing_outside}
use Rattle.ddt_plan.proofs.SideLemmas.{is_divided, narrower}
use Rattle.ddt_plan.proofs.skip_unchanged.skip_unchanged.Goals as goal

pub inner_of-requires-clause-old : goal.inner_of-requires-clause-old
inner_of-requires-clause-old c = (
  c.args.before.now,
  is_divided c.args.before.now c.args.whole c.args.sides.now.before c.in-Divided-Divided.old c.requires.before c.in-Divided-Divided.is-0,
)

pub inner_of-requires-clause-new : goal.inner_of-requires-clause-new
inner_of-requires-clause-new c = (
  c.args.after.now,
  is_divided c.args.after.now c.args.whole c.args.sides.now.after c.in-Divided-Divided.new c.requires.after c.in-Divided-Divided.is-1,
)

pub side_inside-requires : goal.side_inside-requires
side_inside-requires c =
    let r = c.args.before.now in
    let q = c.args.whole in
    let old = c.in-Divided-Divided.old in
    let inner = c.in_ok-inner-in-Divided-Divided.inner in
    let d = is_divided r q c.args.sides.now.before old c.requires.before c.in-Divided-Divided.is-0 in
    let is : IsInner q old c.in-Divided-Divided.new inner = c.inner_of.ensures inner (search rules) in
    (q, d, is_next r q inner is.below (covers_keys r q inner old d is.old_zones is.old_sites) d.divided)

pub side_inside-requires-in-Divided-Divided : goal.side_inside-requires-in-Divided-Divided
side_inside-requires-in-Divided-Divided c =
    let s = c.args.after.now in
    let q = c.args.whole in
    let new = c.in-Divided-Divided.new in
    let inner = c.in_ok-inner-in-Divided-Divided.inner in
    let d = is_divided s q c.args.sides.now.after new c.requires.after c.in-Divided-Divided.is-1 in
    let is : IsInner q c.in-Divided-Divided.old new inner = c.inner_of.ensures inner (search rules) in
    (q, d, is_next s q inner is.below (covers_keys s q inner new d is.new_zones is.new_sites) d.divided)

pub returns-in_ok-inner-in-Divided-Divided-clause-sides : goal.returns-in_ok-inner-in-Divided-Divided-clause-sides
returns-in_ok-inner-in-Divided-Divided-clause-sides c =
    let r = c.args.before.now in
    let s = c.args.after.now in
    let q = c.args.whole in
    let inner = c.in_ok-inner-in-Divided-Divided.inner in
    let is : IsInner q c.in-Divided-Divided.old c.in-Divided-Divided.new inner = c.inner_of.ensures inner (search rules) in
    record {
      before = c.side_inside.ensures;
      after = c.side_inside-in-Divided-Divided.ensures;
      differing = narrowed r s q inner c.args.sides.now.differing.now c.items_below.result.now
          (narrower r q inner is.below) c.requires.differing c.items_below.ensures;
    }

pub returns-in_ok-inner-in-Divided-Divided-clause-longer : goal.returns-in_ok-inner-in-Divided-Divided-clause-longer
returns-in_ok-inner-in-Divided-Divided-clause-longer c =
    let q = c.args.whole in
    let inner = c.in_ok-inner-in-Divided-Divided.inner in
    let is : IsInner q c.in-Divided-Divided.old c.in-Divided-Divided.new inner = c.inner_of.ensures inner (search rules) in
    (below_parts inner q is.below).1

pub returns-in_ok-inner-in-Divided-Divided-clause-same : goal.returns-in_ok-inner-in-Divided-Divided-clause-same
returns-in_ok-inner-in-Divided-Divided-clause-same c = λ reading.
    let r = c.args.before.now in
    let s = c.args.after.now in
    let q = c.args.whole in
    let old = c.in-Divided-Divided.old in
    let new = c.in-Divided-Divided.new in
    let inner = c.in_ok-inner-in-Divided-Divided.inner in
    let is : IsInner q old new inner = c.inner_of.ensures inner (search rules) in
    let d = is_divided r q c.args.sides.now.before old c.requires.before c.in-Divided-Divided.is-0 in
    let e = is_divided s q c.args.sides.now.after new c.requires.after c.in-Divided-Divided.is-1 in
    nothing_outside reading r s q inner (record {
      old = c.register-earlier.ensures.accepted;
      new = c.register-later.ensures.accepted;
      zone = sym d.zone ∙ is.zone ∙ e.zone;
      site = sym d.site ∙ is.site ∙ e.site;
      inside = (below_is inner q is.below).0;
      old_all = covers_keys r q inner old d is.old_zones is.old_sites;
      new_all = covers_keys s q inner new e is.new_zones is.new_sites;
      old_divided = d.divided;
      new_divided = e.divided;
    })
