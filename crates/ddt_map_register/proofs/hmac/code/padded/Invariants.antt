use Rattle.std.proofs.Common.{◌≡◌, take, length}
use Rattle.ddt_map_register.specs.Hmac.Hmac.{xor_each}
use Rattle.ddt_map_register.proofs.hmac.code.padded.Given as goal

-- the bytes so far are xored
abbrev pub invariant-loop-i : goal.invariant-loop-i
invariant-loop-i l = (length l.out ≡ 64) × (take l.i l.out ≡ xor_each l.pad (take l.i l.block))
