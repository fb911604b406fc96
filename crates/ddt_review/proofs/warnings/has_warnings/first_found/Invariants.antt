use Rattle.std.proofs.Common.{◌≡◌, Bool, false, take}
use Rattle.std.specs.List.{list_any}
use Rattle.ddt_path.specs.declared.locator.Locator.{Locator}
use Rattle.ddt_review.specs.declared.warnings.kind.Kind.{Kind}
use Rattle.ddt_review.specs.Warnings.Found.{FindsAs}
use Rattle.ddt_review.proofs.warnings.has_warnings.first_found.Given as goal

abbrev pub invariant-loop-locator : goal.invariant-loop-locator
invariant-loop-locator g l = (has : Locator → Bool) (kind : Kind) → FindsAs g.F.Fn l.find has kind
    → list_any has (take l.locator-index l.locators) ≡ false
