use Rattle.std.proofs.Common.{rules}
use Rattle.std.proofs.lemmas.Fn.{filter_same}
use Rattle.ddt_registrar.specs.Registration.{is_in_force}
use Rattle.ddt_registrar.proofs.keyed_site.end.Goals as goal

pub returns : goal.returns
returns c = filter_same _ (is_in_force c.args.now) _ (λ e b f' k. search rules) _ _ c.retain.ensures.filtered
