use Rattle.std.proofs.Common.{◌≡◌, ◌++◌, ℕ, set, take, drop, map, ap, sym, ◌∙◌, arith}
use Rattle.ddt_map_server.specs.Keys.Keyrings.{with_key, given}
use Rattle.ddt_map_server.proofs.KeysLemmas.RingLemmas.{given-init, given-more, given-end}
use Rattle.ddt_map_server.proofs.keys.keyrings.add.Goals as goal

pub loop-at-init : goal.loop-at-init
loop-at-init c = given-init c.args.key.now c.args.keyrings.now c.args.own.now.start c.args.own.now.«end» c.requires

pub loop-at-preserved : goal.loop-at-preserved
loop-at-preserved c =
    let ring = c.index-keyrings-at.result in
    let added = c.in_ok-add.ensures ∙ ap (with_key c.args.key.now) (sym c.index-keyrings-at.is) in
    ap (set c.loop-at.keyrings c.loop-at.at) added
    ∙ given-more c.args.key.now c.args.keyrings.now c.args.own.now.start c.args.own.now.«end» c.requires c.loop-at.keyrings c.loop-at.at ring
    (omega arith) c.loop-at-test.true c.loop-at.invariant c.index-keyrings-at.is

pub returns : goal.returns
returns c =
    let rings = c.args.keyrings.now in
    let range = c.requires in
    let last : c.loop-at.at ≡ c.args.own.now.«end» = omega (arith, range.ordered) in
    c.loop-at.invariant ∙ ap (λ (n : ℕ). map (given c.args.key.now) (take n rings) ++ drop n rings) last
    ∙ given-end c.args.key.now rings c.args.own.now.start c.args.own.now.«end» c.requires
