use Rattle.std.proofs.Common.{◌≡◌, take}
use Rattle.ddt_node.proofs.served_authority.served.Given as goal

abbrev pub invariant-loop-authority : goal.invariant-loop-authority
invariant-loop-authority l = l.served.items ≡ take l.authority-index l.authorities
