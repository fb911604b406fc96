use Rattle.std.proofs.Common.{◌≡◌, ◌++◌}
use Rattle.ddt_foreign.proofs.request.rlocs_of.Given as goal

abbrev pub invariant-loop-address : goal.invariant-loop-address
invariant-loop-address l = l.addresses.items ++ l.rest ≡ l.fn.rlocs
