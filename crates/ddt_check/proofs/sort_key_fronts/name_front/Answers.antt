use Rattle.std.proofs.Common.{◌∙◌, arith}
use Rattle.ddt_check.specs.laws.Fronts.{front_next, front_room}
use Rattle.ddt_check.proofs.sort_key_fronts.name_front.Goals as goal

pub overflow_mul-front : goal.overflow_mul-front
overflow_mul-front c =
    let room = front_room c.loop-place.place c.loop-place.front 0 c.loop-place-test.true (omega arith)
    c.loop-place.invariant.fits in
    omega arith

pub overflow_add-front : goal.overflow_add-front
overflow_add-front c =
    let small = c.byte_at.type_inv in
    let same = c.from.ensures in
    let room = front_room c.loop-place.place c.loop-place.front c.from.result c.loop-place-test.true (omega arith)
    c.loop-place.invariant.fits in
    omega arith

pub loop-place-preserved : goal.loop-place-preserved
loop-place-preserved c =
    let small = c.byte_at.type_inv in
    let same = c.from.ensures in
    front_next c.as_bytes-bytes.result.now c.loop-place.place c.loop-place.front c.from.result c.loop-place-test.true
    (omega arith) (c.from.ensures ∙ c.byte_at.ensures) c.loop-place.invariant
