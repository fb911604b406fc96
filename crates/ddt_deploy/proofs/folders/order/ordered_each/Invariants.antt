use Rattle.std.proofs.Common.{◌≡◌, true, map}
use Rattle.std.specs.List.{list_all}
use Rattle.ddt_plan.specs.Entries.{holds_own_prefixes}
use Rattle.ddt_deploy.specs.Folders.Ordered.{ordered_authority}
use Rattle.ddt_deploy.proofs.folders.order.ordered_each.Given as goal

abbrev pub invariant-loop-authority : goal.invariant-loop-authority
invariant-loop-authority l =
    list_all (λ a. holds_own_prefixes a.content) l.yielded ≡ true → l.ordered.items ≡ map ordered_authority l.yielded
