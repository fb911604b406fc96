use Rattle.ddt_map_register.proofs.HmacLemmas.Codes.{filled_front}
use Rattle.ddt_map_register.proofs.hmac.code.fill.Goals as goal

pub returns : goal.returns
returns c = filled_front _ _ c.copy_from_slice.ensures.after
