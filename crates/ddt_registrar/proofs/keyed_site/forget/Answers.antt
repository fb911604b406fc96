use Rattle.std.proofs.Common.{rules}
use Rattle.std.proofs.lemmas.Fn.{filter_same}
use Rattle.ddt_registrar.specs.Carried.{is_of_key}
use Rattle.ddt_registrar.proofs.keyed_site.forget.Goals as goal

pub returns : goal.returns
returns c = filter_same _ (is_of_key c.args.keys.now) _ (λ e b f' k. search rules) _ _ c.retain.ensures.filtered
