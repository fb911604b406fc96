use Rattle.std.proofs.Common.{ℕ}
use Rattle.std.proofs.lemmas.List.{take-replicate}
use Rattle.ddt_map_register.proofs.authentication.zeros.Goals as goal

pub returns : goal.returns
returns c = take-replicate {X = ℕ} c.args.len 20 0 c.requires
