use Rattle.std.proofs.Common.{◌≡◌, ℕ, ◌==◌}
use Rattle.std.specs.Prelude.{All}
use Rattle.ddt_review.specs.declared.warnings.kind.Kind.{Kind}
use Rattle.ddt_review.specs.Warnings.Names.{kind_number}
use Rattle.ddt_review.specs.Warnings.Findings.{tells}
use Rattle.ddt_review.specs.Warnings.Index.{register_of, resolvers_of}
use Rattle.ddt_review.specs.Warnings.Named.{IsTrueWarning}
use Rattle.ddt_review.proofs.WarningsLemmas.TellLemmas.{so_far}
use Rattle.ddt_review.proofs.warnings.all_warnings.tell_item.Given as goal

abbrev pub invariant-loop-kind : goal.invariant-loop-kind
invariant-loop-kind g l = record {
  each : (kind : Kind) (row : ℕ) → tells l.told.items kind row
      ≡ so_far (tells l.initial.told.items kind row) (g.T.Item.row_of l.item == row)
      (g.T.HasWarnings.has (register_of l.index) (resolvers_of l.index) kind l.item) (kind_number kind) l.kind-index;
  named : All (IsTrueWarning (register_of l.index) (resolvers_of l.index)) l.initial.told.items
      → All (IsTrueWarning (register_of l.index) (resolvers_of l.index)) l.told.items;
}
