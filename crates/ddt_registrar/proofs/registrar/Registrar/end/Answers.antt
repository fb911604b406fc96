use Rattle.std.proofs.Common.{◌+◌, ◌≤◌, List, length, sym, ap, subst, arith, inl, inr}
use Rattle.std.proofs.lemmas.Option.{slice_get_cases}
use Rattle.ddt_node.proofs.EtrLemmas.{IsMappedSoFar, one_mapped, all_mapped}
use Rattle.ddt_registrar.specs.State.{Site}
use Rattle.ddt_registrar.specs.Taking.{site_at}
use Rattle.ddt_registrar.proofs.registrar.Registrar.end.Goals as goal

pub loop-at-preserved : goal.loop-at-preserved
loop-at-preserved g c =
    let f = site_at c.args.now in
    let was : List Site = c.args.self.now in
    let now : List Site = c.loop-at.self in
    let at = c.loop-at.at in
    let len = ap (λ (sites : List Site). length sites) c.self.view_is in
    let so_far = c.loop-at.invariant in (
      elim (slice_get_cases now at).1 [
        | inl x ↦
            subst (λ (sites : List Site). IsMappedSoFar f was (at + 1) sites) (sym (c.end_at.ensures.ended x.0 x.2))
            (one_mapped f was now at (f x.0) x.0 (omega (arith, x.1, so_far.0.len)) (ap f (sym x.3)) so_far.0)
        | inr x ↦ absurd (omega (arith, x.0, c.loop-at-test.true, so_far.0.len, len))
      ],
      λ o before. c.end_at.ensures.follows o (so_far.1 o before),
    )

pub returns-clause-ended : goal.returns-clause-ended
returns-clause-ended g c =
    let len = ap (λ (sites : List Site). length sites) c.self.view_is in
    let past : length c.loop-at.self ≤ c.loop-at.at = omega (arith, c.loop-at-test.false, c.loop-at.invariant.0.len, len) in
    all_mapped (site_at c.args.now) c.args.self.now c.loop-at.self c.loop-at.at past c.loop-at.invariant.0
