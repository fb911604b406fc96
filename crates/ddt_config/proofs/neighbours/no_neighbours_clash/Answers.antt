use Rattle.std.proofs.Common.{◌-◌, ◌<◌, length, sym, ap₂, ◌∙◌, arith}
use Rattle.std.proofs.lemmas.List.{get_or_read}
use Rattle.ddt_config.specs.Reading.{clashes}
use Rattle.ddt_config.specs.laws.Neighbour.{two_clash, none_clash}
use Rattle.ddt_config.proofs.neighbours.no_neighbours_clash.Goals as goal

pub returns-then-is_between : goal.returns-then-is_between
returns-then-is_between c =
    let prefixes = c.args.prefixes.now in
    let later = c.loop-later.later in
    let inside : later < length prefixes = c.loop-later-test.true in
    let first = c.index-prefixes-later.result in
    let second = get_or_read prefixes later c.index-prefixes-later-in-loop-later.result inside c.index-prefixes-later-in-loop-later.is first in
    let test = clashes c.args.clash in
    sym (two_clash test prefixes (later - 1) later first (omega arith) inside (sym (ap₂ test c.index-prefixes-later.is second) ∙ sym c.is_between.ensures ∙ c.if-is_between.true))

pub returns : goal.returns
returns c = sym (none_clash c.args.clash c.args.prefixes.now c.requires (λ k inside d. c.loop-later.invariant k (omega arith) d))
