use Rattle.std.proofs.Common.{◌≡◌}
use Rattle.std.specs.List.{list_any}
use Rattle.ddt_daemon.specs.Requests.{is_one}
use Rattle.ddt_daemon.proofs.admission.has_one.Given as goal

-- none of those before is one
abbrev pub invariant-loop-rloc : goal.invariant-loop-rloc
invariant-loop-rloc l = list_any (is_one l.own) l.fn.rlocs ≡ list_any (is_one l.own) l.rloc-iterator
