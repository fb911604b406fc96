use Rattle.std.proofs.Common.{◌≡◌, ◌∙◌, ◌-◌, ◌+◌, ◌<◌, List, ℕ, length, map, true, false, ap, subst, arith, rules}
use Rattle.std.specs.Prelude.{Err}
use Rattle.std.proofs.lemmas.List.{map-append}
use Rattle.ddt_plan.specs.declared.block_list.Block.{Block}
use Rattle.ddt_plan.specs.Blocks.{keys_of}
use Rattle.ddt_plan.specs.Changes.{block_at}
use Rattle.ddt_plan.specs.Sinks.{HasGiven}
use Rattle.ddt_plan.proofs.HalfLemmas.{length-half}
use Rattle.ddt_plan.proofs.ListingLemmas.{keys_are_paths}
use Rattle.ddt_plan.proofs.PieceLemmas.{keys_go_on}
use Rattle.ddt_plan.proofs.SideLemmas.{is_settled, is_divided, one_block}
use Rattle.ddt_plan.proofs.WalkLemmas.{both_given, first_given}
use Rattle.ddt_plan.proofs.walk.+walk.Goals as goal

pub half-requires : goal.half-requires
half-requires g t c =
    let r = c.args.accepted.now in
    (keys_go_on (keys_of r) (keys_are_paths r) c.args.whole (is_divided r c.args.whole c.args.side.now c.in-Divided.division c.requires c.in-Divided.is).divided).0 false

pub half-requires-in-Divided : goal.half-requires-in-Divided
half-requires-in-Divided g t c =
    let r = c.args.accepted.now in
    (keys_go_on (keys_of r) (keys_are_paths r) c.args.whole (is_divided r c.args.whole c.args.side.now c.in-Divided.division c.requires c.in-Divided.is).divided).0 true

pub walk-requires : goal.walk-requires
walk-requires g t c κs within =
    let r = c.args.accepted.now in
    let room : length c.args.whole < 161 = (keys_go_on (keys_of r) (keys_are_paths r) c.args.whole (is_divided r c.args.whole c.args.side.now c.in-Divided.division c.requires c.in-Divided.is).divided).1 in
    let longer : length c.half.result ≡ length c.args.whole + 1 = ap (λ (q : List ℕ). length q) c.half.ensures ∙ length-half false c.args.whole in
    let less : 161 - length c.half.result < 161 - length c.args.whole = omega (arith, room, longer) in
    search rules

pub walk-requires-in-Divided : goal.walk-requires-in-Divided
walk-requires-in-Divided g t c κs within =
    let r = c.args.accepted.now in
    let room : length c.args.whole < 161 = (keys_go_on (keys_of r) (keys_are_paths r) c.args.whole (is_divided r c.args.whole c.args.side.now c.in-Divided.division c.requires c.in-Divided.is).divided).1 in
    let longer : length c.half-in-Divided.result ≡ length c.args.whole + 1 = ap (λ (q : List ℕ). length q) c.half-in-Divided.ensures ∙ length-half true c.args.whole in
    let less : 161 - length c.half-in-Divided.result < 161 - length c.args.whole = omega (arith, room, longer) in
    search rules

pub returns-in-Settled : goal.returns-in-Settled
returns-in-Settled g t c =
    let r = c.args.accepted.now in
    subst (λ (blocks : List Block). HasGiven g.S.Sink.takes c.args.sink.now blocks c.give.result c.give.new.sink)
    (one_block r c.args.whole c.in-Settled.outcome (is_settled r c.args.whole c.args.side.now c.in-Settled.outcome c.requires c.in-Settled.is)) c.give.ensures.given

pub returns-in_err-walk-in-Divided : goal.returns-in_err-walk-in-Divided
returns-in_err-walk-in-Divided g t c =
    let r = c.args.accepted.now in
    let d = (is_divided r c.args.whole c.args.side.now c.in-Divided.division c.requires c.in-Divided.is).divided in
    let e : c.from_residual.result ≡ Err c.in_err-walk-in-Divided.field-0.0 = search rules in
    first_given g.S.Sink.takes (map (block_at r)) (map-append (block_at r)) (keys_of r) c.args.whole c.half.result d
    (keys_go_on (keys_of r) (keys_are_paths r) c.args.whole d).1 c.half.ensures
    c.args.sink.now c.walk.new.sink c.in_err-walk-in-Divided.field-0.0 c.from_residual.result e c.in_err-walk-in-Divided.ensures

pub returns-in_ok-walk-in-Divided : goal.returns-in_ok-walk-in-Divided
returns-in_ok-walk-in-Divided g t c =
    let r = c.args.accepted.now in
    let d = (is_divided r c.args.whole c.args.side.now c.in-Divided.division c.requires c.in-Divided.is).divided in
    both_given g.S.Sink.takes (map (block_at r)) (map-append (block_at r)) (keys_of r) c.args.whole c.half.result c.half-in-Divided.result d
    (keys_go_on (keys_of r) (keys_are_paths r) c.args.whole d).1 c.half.ensures c.half-in-Divided.ensures
    c.args.sink.now c.walk.new.sink c.walk-in-Divided.new.sink c.walk-in-Divided.result c.in_ok-walk-in-Divided.ensures c.walk-in-Divided.ensures
