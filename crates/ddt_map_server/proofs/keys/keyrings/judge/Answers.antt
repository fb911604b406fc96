use Rattle.std.proofs.Common.{◌∙◌}
use Rattle.ddt_map_server.proofs.KeysLemmas.RingLemmas.{judged-own}
use Rattle.ddt_map_server.proofs.keys.keyrings.judge.Goals as goal

pub returns : goal.returns
returns c = c.judge_own.ensures ∙ judged-own c.args.key.now c.args.keyrings.now c.args.own.now.start c.args.own.now.«end» c.requires
