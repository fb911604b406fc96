use Rattle.std.proofs.Common.{sym}
use Rattle.ddt_config.proofs.RoomLemmas.{authorities_fit}
use Rattle.ddt_config.proofs.config.ServerConfig.of.Goals as goal

pub finish_each-requires : goal.finish_each-requires
finish_each-requires c =
    let shaped = sym (rw c.in_ok-require_shaped.ensures.right at c.is_shaped.ensures) in
    authorities_fit c.draft.inside.role c.as_slice-locators.result.now c.as_slice-authorities.result.now shaped
