use Rattle.std.proofs.Common.{◌≡◌, ℕ, ◌||◌, take}
use Rattle.std.specs.Prelude.{All}
use Rattle.ddt_check.specs.Rules.{item_at}
use Rattle.ddt_review.specs.declared.warnings.kind.Kind.{Kind}
use Rattle.ddt_review.specs.Warnings.Findings.{tells}
use Rattle.ddt_review.specs.Warnings.Index.{register_of, resolvers_of}
use Rattle.ddt_review.specs.Warnings.Named.{IsTrueWarning}
use Rattle.ddt_review.proofs.warnings.all_warnings.tell.Given as goal

abbrev pub invariant-loop-item : goal.invariant-loop-item
invariant-loop-item g l = record {
  each : (kind : Kind) (row : ℕ) → tells l.told.items kind row
      ≡ (tells l.initial.told.items kind row
      || item_at g.T.Item.row_of (g.T.HasWarnings.has (register_of l.index) (resolvers_of l.index) kind)
      (take l.item-index l.items) row);
  named : All (IsTrueWarning (register_of l.index) (resolvers_of l.index)) l.initial.told.items
      → All (IsTrueWarning (register_of l.index) (resolvers_of l.index)) l.told.items;
}
