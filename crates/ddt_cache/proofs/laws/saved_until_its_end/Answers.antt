use Rattle.ddt_cache.proofs.LawLemmas.{saved_before, saved_after}
use Rattle.ddt_cache.proofs.laws.saved_until_its_end.Goals as goal

pub returns : goal.returns
returns c = record { before = saved_before; after = saved_after }
