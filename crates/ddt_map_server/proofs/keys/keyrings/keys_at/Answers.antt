use Rattle.ddt_path.specs.laws.Member.{in_at}
use Rattle.std.proofs.Common.{ap, ◌∙◌}
use Rattle.ddt_map_server.specs.Keys.Keyrings.{Ring}
use Rattle.ddt_map_server.proofs.KeysLemmas.RingLemmas.{there_bound, there_is}
use Rattle.ddt_map_server.proofs.keys.keyrings.keys_at.Goals as goal

pub bounds-keyrings-first_at : goal.bounds-keyrings-first_at
bounds-keyrings-first_at c = there_bound c.args.keyrings.now c.requires.ordered c.args.site c.first_at.result c.first_at.ensures.first c.requires.there

pub returns : goal.returns
returns c =
    let rings = c.args.keyrings.now in
    let ring = c.index-keyrings-first_at.result in
    let bound = there_bound rings c.requires.ordered c.args.site c.first_at.result c.first_at.ensures.first c.requires.there in (
      ring,
      in_at rings c.first_at.result ring bound c.index-keyrings-first_at.is,
      ap (λ (r : Ring). r.prefix) c.index-keyrings-first_at.is ∙ there_is rings c.requires.ordered c.args.site c.first_at.result c.first_at.ensures.first c.requires.there ring,
      c.keys.ensures,
    )
