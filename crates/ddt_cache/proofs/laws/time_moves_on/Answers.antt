use Rattle.ddt_cache.proofs.LawLemmas.{moved_together, moved_again, moved_back}
use Rattle.ddt_cache.proofs.laws.time_moves_on.Goals as goal

pub returns : goal.returns
returns c = record { together = moved_together; again = moved_again; back = moved_back }
