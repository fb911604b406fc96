use Rattle.std.proofs.Common.{◌≡◌, ℕ, ◌==◌, List, ap, ◌∙◌, arith}
use Rattle.std.proofs.lemmas.List.Elements.{All-same}
use Rattle.ddt_review.specs.declared.warnings.kind.Kind.{Kind}
use Rattle.ddt_review.specs.declared.warnings.warning.Warning.{Warning}
use Rattle.ddt_review.specs.Warnings.Names.{kind_number}
use Rattle.ddt_review.specs.Warnings.Findings.{tells}
use Rattle.ddt_review.specs.Warnings.Index.{register_of, resolvers_of}
use Rattle.ddt_review.specs.Warnings.Named.{IsTrueWarning}
use Rattle.ddt_review.proofs.WarningsLemmas.TellLemmas.{told_none, told_now, untold_now, told_all, so_far}
use Rattle.ddt_review.proofs.WarningsLemmas.NamedLemmas.{true_more}
use Rattle.ddt_review.proofs.warnings.all_warnings.tell_item.Goals as goal
use Rattle.ddt_review.proofs.warnings.all_warnings.tell_item.Goals.{in-Some+in_ok-push, in_default}

pub loop-kind-init : goal.loop-kind-init
loop-kind-init g c = record {
  each = λ kind row. told_none _ _ _ (kind_number kind);
  named = λ h. h;
}

pub loop-kind-preserved : goal.loop-kind-preserved
loop-kind-preserved g c =
    let i = c.loop-kind.kind-index in
    let r = register_of c.args.index.now in
    let known = resolvers_of c.args.index.now in
    let has = λ (k : Kind). g.T.HasWarnings.has r known k c.args.item.now in
    let own = g.T.Item.row_of c.args.item.now in
    elim c.match-find.branch [
      | in-Some+in_ok-push w ↦ record {
        each = λ kind row.
            ap (λ v. tells v.items kind row) w.told-is
            ∙ ap (λ (ws : List Warning). tells ws kind row) w.in_ok-push.ensures.items
            ∙ told_now has (tells c.args.told.now.items kind row) (own == row) i _ c.loop-kind-test.true
            c.loop-kind.told.items _ kind row (c.loop-kind.invariant.each kind row)
            (ap (λ (n : ℕ). n == row) w.row.ensures) w.in-Some.ensures.found;
        named = λ h.
            true_more r known c.loop-kind.told.items _ _ own (ap (λ v. v.items) w.told-is ∙ w.in_ok-push.ensures.items)
            w.row.ensures w.in-Some.ensures.named (c.loop-kind.invariant.named h);
      }
      | in_default w ↦ record {
        each = λ kind row.
            ap (λ v. tells v.items kind row) w.told-is
            ∙ c.loop-kind.invariant.each kind row
            ∙ untold_now has (tells c.args.told.now.items kind row) (own == row) i _ c.loop-kind-test.true kind
            w.in_default.ensures.found;
        named = λ h.
            All-same (IsTrueWarning r known) _ c.loop-kind.told.items (ap (λ v. v.items) w.told-is)
            (c.loop-kind.invariant.named h);
      }
    ]

pub returns-clause-each : goal.returns-clause-each
returns-clause-each g c = λ kind row.
    let i = c.loop-kind.kind-index in
    let most = c.loop-kind.auto.kind-index-end in
    let least = c.loop-kind-test.false in
    let n : i ≡ 12 = omega arith in
    c.loop-kind.invariant.each kind row ∙ ap (so_far _ _ _ (kind_number kind)) n ∙ told_all _ _ _ kind
