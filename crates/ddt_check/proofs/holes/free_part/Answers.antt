use Rattle.std.proofs.Common.{◌<◌, ◌≤◌, ◌∙◌, sym, ap, length, arith}
use Rattle.ddt_path.specs.Path.{xeid_path}
use Rattle.ddt_path.specs.Free.{overlaps_none}
use Rattle.ddt_check.specs.Assignment.{prefixes_inside}
use Rattle.ddt_path.specs.laws.Part.{first_part-found, first_part-next, first_part-end}
use Rattle.ddt_check.proofs.holes.free_part.Goals as goal

pub returns-then-overlaps_none : goal.returns-then-overlaps_none
returns-then-overlaps_none c =
    let test = overlaps_none (prefixes_inside c.args.register.now c.args.authority c.args.inside) in
    let x = xeid_path c.args.x in
    let short : c.loop-len.len < length x = omega (arith, c.path_len-longest.ensures) in
    let passes = ap test (sym c.cut-part.ensures) ∙ sym c.overlaps_none.ensures ∙ c.if-overlaps_none.true in
    c.cut-part.ensures ∙ sym (first_part-found test x c.loop-len.len short passes) ∙ c.loop-len.invariant

pub loop-len-preserved : goal.loop-len-preserved
loop-len-preserved c =
    let test = overlaps_none (prefixes_inside c.args.register.now c.args.authority c.args.inside) in
    let x = xeid_path c.args.x in
    let short : c.loop-len.len < length x = omega (arith, c.path_len-longest.ensures) in
    let fails = ap test (sym c.cut-part.ensures) ∙ sym c.overlaps_none.ensures ∙ c.if-overlaps_none.false in
    sym (first_part-next test x c.loop-len.len short fails) ∙ c.loop-len.invariant

pub returns : goal.returns
returns c =
    let test = overlaps_none (prefixes_inside c.args.register.now c.args.authority c.args.inside) in
    let x = xeid_path c.args.x in
    let end : length x ≤ c.loop-len.len = omega (arith, c.path_len-longest.ensures) in
    c.host.ensures.whole ∙ sym (first_part-end test x c.loop-len.len end) ∙ c.loop-len.invariant
