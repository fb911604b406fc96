use Rattle.std.proofs.Common.{sym}
use Rattle.ddt_node.specs.Spelled.{no_text, of_text}
use Rattle.ddt_node.proofs.SpelledLemmas.{too_large}
use Rattle.ddt_node.proofs.configuration.config_in.Goals as goal

pub returns-in-Err-clause-refused : goal.returns-in-Err-clause-refused
returns-in-Err-clause-refused c = rw c.in-Err.ensures.none.0 (λ known. no_text c.in-Err.ensures.none.1)

pub returns-in-Err-from_toml-clause-refused : goal.returns-in-Err-from_toml-clause-refused
returns-in-Err-from_toml-clause-refused c =
    let read = c.in-Ok.ensures.text in
    λ known. of_text read.1 (rw (sym read.0) (c.in-Err-from_toml.ensures.refused known))

pub returns-in-Ok-from_toml-clause-refused : goal.returns-in-Ok-from_toml-clause-refused
returns-in-Ok-from_toml-clause-refused c =
    let read = c.in-Ok.ensures.text in
    too_large c.args.bytes.now c.in-Ok-from_toml.config c.with_room.result read.1 (rw (sym read.0) c.in-Ok-from_toml.ensures.found) c.with_room.ensures.full
