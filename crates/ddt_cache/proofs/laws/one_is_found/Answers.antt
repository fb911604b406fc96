use Rattle.ddt_cache.specs.laws.Known.{IsFound-unique}
use Rattle.ddt_cache.proofs.laws.one_is_found.Goals as goal

pub returns : goal.returns
returns c = IsFound-unique
