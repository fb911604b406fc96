use Rattle.std.proofs.Common.{◌≡◌, ◌≤◌, ℕ, List, length, take, sym, ap, ◌∙◌, arith, rules}
use Rattle.std.specs.Prelude.{insert}
use Rattle.std.proofs.lemmas.List.{length-take}
use Rattle.ddt_foreign.specs.declared.order.Ranked.{Ranked}
use Rattle.ddt_registrar.proofs.RankLemmas.{kept_eight}
use Rattle.ddt_registrar.proofs.ranked_etrs.RankedEtrs.insert.Goals as goal

pub returns : goal.returns
returns c =
    let slots : List Ranked = c.self.inside.slots in
    let moved : List Ranked = c.move_last_to.new.etrs in
    let used : ℕ = c.self.inside.len in
    let at : ℕ = c.place-at.result in
    let nine : length slots ≡ 9 = search rules in
    let long = length-take used slots in
    let inside : at ≤ used = omega (arith, c.place-at.ensures.within, ap (λ (etrs : List Ranked). length etrs) c.self.view_is, long) in
    ap (λ (k : ℕ). take k moved) c.min-self-inside.ensures
    ∙ kept_eight slots moved used at c.args.one nine c.self.invariant inside c.move_last_to.ensures
    ∙ ap (λ (etrs : List Ranked). take 8 (insert etrs at c.args.one)) c.self.view_is
    ∙ ap (λ (k : ℕ). take 8 (insert c.args.self.now k c.args.one)) c.place-at.ensures.is
