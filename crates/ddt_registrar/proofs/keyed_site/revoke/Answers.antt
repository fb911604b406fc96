use Rattle.std.proofs.Common.{rules}
use Rattle.std.proofs.lemmas.Fn.{filter_same}
use Rattle.ddt_registrar.specs.Carried.{is_still_under}
use Rattle.ddt_registrar.proofs.keyed_site.revoke.Goals as goal

pub returns : goal.returns
returns c = filter_same _ (is_still_under c.args.before.now c.args.keys.now) _ (λ e b f' k. search rules) _ _ c.retain.ensures.filtered
