use Rattle.std.proofs.Common.{rules}
use Rattle.std.specs.Prelude.{not}
use Rattle.std.proofs.lemmas.Fn.{filter_same}
use Rattle.ddt_registrar.specs.Sender.{is_same_sender}
use Rattle.ddt_registrar.specs.State.{Registration}
use Rattle.ddt_registrar.proofs.received_register.withdraw.Goals as goal

pub returns : goal.returns
returns c = filter_same _ (λ (g : Registration). not (is_same_sender g.sender c.args.sender)) _ (λ e b f' k. search rules) _ _ c.retain.ensures.filtered
