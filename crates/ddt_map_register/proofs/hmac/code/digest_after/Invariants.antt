use Rattle.std.proofs.Common.{◌++◌, map, take}
use Rattle.std.specs.List.{concat}
use Rattle.ddt_map_register.proofs.hmac.code.digest_after.Given as goal

-- the hasher has taken the block and the parts so far
abbrev pub invariant-loop-part : goal.invariant-loop-part
invariant-loop-part g l = g.H.BlockHash.holds l.hasher (l.block ++ concat (map (λ part. part.now) (take l.part-index l.parts)))
