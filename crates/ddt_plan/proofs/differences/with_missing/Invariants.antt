use Rattle.std.proofs.Common.{List, ℕ, take}
use Rattle.ddt_path.specs.laws.Member.{IsIn}
use Rattle.ddt_plan.specs.Differing.{AreMarkedAll}
use Rattle.ddt_plan.proofs.differences.with_missing.Given as goal

abbrev pub invariant-loop-item : goal.invariant-loop-item
invariant-loop-item g l =
    ((p : List ℕ) → IsIn p l.fn.known.items → IsIn p l.all.items)
    × AreMarkedAll g.T.Prefixed.path (take l.item-index l.items) l.others l.all.items
