use Rattle.std.proofs.Common.{◌≡◌, ◌∙◌, ◌++◌, ◌-◌, ◌+◌, ◌<◌, List, ℕ, length, true, false, ap, sym, subst, arith, rules}
use Rattle.std.specs.Prelude.{Err, IfSome}
use Rattle.ddt_plan.specs.declared.change_list.Change.{Change}
use Rattle.ddt_plan.specs.Blocks.{keys_of}
use Rattle.ddt_plan.specs.Changes.{changes_at}
use Rattle.ddt_plan.specs.Differing.{AreSides}
use Rattle.ddt_plan.specs.Sinks.{HasGiven}
use Rattle.ddt_plan.proofs.HalfLemmas.{length-half}
use Rattle.ddt_plan.proofs.ListingLemmas.{both_are_paths}
use Rattle.ddt_plan.proofs.PieceLemmas.{keys_go_on}
use Rattle.ddt_plan.proofs.SideLemmas.{sides_divided, one_change, changes_split}
use Rattle.ddt_plan.proofs.WalkLemmas.{both_given, first_given}
use Rattle.ddt_plan.proofs.walk.+walk_both.Goals as goal

pub half-lower-requires : goal.half-lower-requires
half-lower-requires g t c =
    let r = c.args.before.now in
    let s = c.args.after.now in
    (keys_go_on (keys_of r ++ keys_of s) (both_are_paths r s) c.args.whole (sides_divided r s c.args.whole c.args.sides.now c.requires (sym c.both_settled.ensures ∙ c.in-None.is))).0 false

pub half-upper-requires : goal.half-upper-requires
half-upper-requires g t c =
    let r = c.args.before.now in
    let s = c.args.after.now in
    (keys_go_on (keys_of r ++ keys_of s) (both_are_paths r s) c.args.whole (sides_divided r s c.args.whole c.args.sides.now c.requires (sym c.both_settled.ensures ∙ c.in-None.is))).0 true

pub walk_both-requires : goal.walk_both-requires
walk_both-requires g t c κs within =
    let r = c.args.before.now in
    let s = c.args.after.now in
    let room : length c.args.whole < 161 = (keys_go_on (keys_of r ++ keys_of s) (both_are_paths r s) c.args.whole
    (sides_divided r s c.args.whole c.args.sides.now c.requires (sym c.both_settled.ensures ∙ c.in-None.is))).1 in
    let longer : length c.args.whole < length c.in-Some-skip_unchanged.inner =
    subst (λ o. IfSome o (λ at. length c.args.whole < length at.0)) c.in-Some-skip_unchanged.is
    c.skip_unchanged.ensures.longer in
    let less : 161 - length c.in-Some-skip_unchanged.inner < 161 - length c.args.whole = omega (arith, room, longer) in
    let sides : AreSides r s c.in-Some-skip_unchanged.inner c.in-Some-skip_unchanged.within =
    subst (λ o. IfSome o (λ at. AreSides r s at.0 at.1)) c.in-Some-skip_unchanged.is c.skip_unchanged.ensures.sides in
    search rules

pub walk_both-requires-in-None : goal.walk_both-requires-in-None
walk_both-requires-in-None g t c κs within =
    let r = c.args.before.now in
    let s = c.args.after.now in
    let room : length c.args.whole < 161 = (keys_go_on (keys_of r ++ keys_of s) (both_are_paths r s) c.args.whole
    (sides_divided r s c.args.whole c.args.sides.now c.requires (sym c.both_settled.ensures ∙ c.in-None.is))).1 in
    let longer : length c.half-lower.result ≡ length c.args.whole + 1 = ap (λ (q : List ℕ). length q) c.half-lower.ensures ∙ length-half false c.args.whole in
    let less : 161 - length c.half-lower.result < 161 - length c.args.whole = omega (arith, room, longer) in
    search rules

pub walk_both-requires-in-None-2 : goal.walk_both-requires-in-None-2
walk_both-requires-in-None-2 g t c κs within =
    let r = c.args.before.now in
    let s = c.args.after.now in
    let room : length c.args.whole < 161 = (keys_go_on (keys_of r ++ keys_of s) (both_are_paths r s) c.args.whole
    (sides_divided r s c.args.whole c.args.sides.now c.requires (sym c.both_settled.ensures ∙ c.in-None.is))).1 in
    let longer : length c.half-upper.result ≡ length c.args.whole + 1 = ap (λ (q : List ℕ). length q) c.half-upper.ensures ∙ length-half true c.args.whole in
    let less : 161 - length c.half-upper.result < 161 - length c.args.whole = omega (arith, room, longer) in
    search rules

pub returns-in-Some-clause-given : goal.returns-in-Some-clause-given
returns-in-Some-clause-given g t c =
    let r = c.args.before.now in
    let s = c.args.after.now in
    subst (λ (changes : List Change). HasGiven g.S.Sink.takes c.args.sink.now changes c.give_if_apart.result c.give_if_apart.new.sink)
    (one_change c.args.reading r s c.args.whole c.in-Some.earlier c.in-Some.later c.args.sides.now c.requires (sym c.both_settled.ensures ∙ c.in-Some.is)) c.give_if_apart.ensures.given

pub returns-in_err-walk_both-in-None-clause-given : goal.returns-in_err-walk_both-in-None-clause-given
returns-in_err-walk_both-in-None-clause-given g t c =
    let r = c.args.before.now in
    let s = c.args.after.now in
    let d = sides_divided r s c.args.whole c.args.sides.now c.requires (sym c.both_settled.ensures ∙ c.in-None.is) in
    let e : c.from_residual.result ≡ Err c.in_err-walk_both-in-None.field-0.0 = search rules in
    first_given g.S.Sink.takes (changes_at c.args.reading r s) (changes_split c.args.reading r s) (keys_of r ++ keys_of s) c.args.whole c.half-lower.result d
    (keys_go_on (keys_of r ++ keys_of s) (both_are_paths r s) c.args.whole d).1 c.half-lower.ensures
    c.args.sink.now c.walk_both-in-None.new.sink c.in_err-walk_both-in-None.field-0.0 c.from_residual.result e c.in_err-walk_both-in-None.ensures.given

pub returns-in_ok-walk_both-in-None-clause-given : goal.returns-in_ok-walk_both-in-None-clause-given
returns-in_ok-walk_both-in-None-clause-given g t c =
    let r = c.args.before.now in
    let s = c.args.after.now in
    let d = sides_divided r s c.args.whole c.args.sides.now c.requires (sym c.both_settled.ensures ∙ c.in-None.is) in
    both_given g.S.Sink.takes (changes_at c.args.reading r s) (changes_split c.args.reading r s) (keys_of r ++ keys_of s) c.args.whole c.half-lower.result c.half-upper.result d
    (keys_go_on (keys_of r ++ keys_of s) (both_are_paths r s) c.args.whole d).1 c.half-lower.ensures c.half-upper.ensures
    c.args.sink.now c.walk_both-in-None.new.sink c.walk_both-in-None-2.new.sink c.walk_both-in-None-2.result c.in_ok-walk_both-in-None.ensures.given c.walk_both-in-None-2.ensures.given
