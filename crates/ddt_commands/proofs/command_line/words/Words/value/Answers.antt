use Rattle.std.proofs.Common.{◌∙◌, ap, ℕ, List, Option, []}
use Rattle.std.specs.Prelude.{unwrap_or}
use Rattle.std.specs.Borrow.{Bor}
use Rattle.clap.specs.Words.{found_of}
use Rattle.clap.proofs.WalkLemmas.{first_value-rows}
use Rattle.ddt_commands.proofs.CommandLineLemmas.CallLemmas.{text_or}
use Rattle.ddt_commands.proofs.command_line.words.Words.value.Goals as goal

pub returns : goal.returns
returns c =
    ap (λ (s : Bor (List ℕ)). s.now) c.unwrap_or.ensures
    ∙ text_or c.get_str.result _
    ∙ ap (λ (o : Option (List ℕ)). unwrap_or o []) (c.get_str.ensures ∙ first_value-rows (found_of c.args.self.now.matches) c.args.name.now)
