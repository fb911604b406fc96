use Rattle.ddt_resolver.proofs.ReplyLemmas.{usable_taken}
use Rattle.ddt_resolver.proofs.laws.usable_is_taken.Goals as goal

pub returns : goal.returns
returns c = λ s new source bytes h t l rec o here tells about names from. usable_taken s o source bytes t l rec here tells about names from new h
