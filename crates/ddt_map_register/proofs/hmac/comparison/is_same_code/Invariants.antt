use Rattle.std.proofs.Common.{◌≡◌, ◌↔◌, take}
use Rattle.ddt_map_register.proofs.hmac.comparison.is_same_code.Given as goal

-- nothing differs so far if and only if the fronts are the same
abbrev pub invariant-loop-i : goal.invariant-loop-i
invariant-loop-i l = (l.difference ≡ 0) ↔ (take l.i l.first ≡ take l.i l.second)
