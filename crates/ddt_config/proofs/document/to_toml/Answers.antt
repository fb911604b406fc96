use Rattle.std.proofs.Common.{Err, sym, ap, ◌∙◌, true≢false}
use Rattle.ddt_config.specs.Table.{outline}
use Rattle.ddt_config.proofs.WriteLemmas.{read_again}
use Rattle.ddt_config.proofs.document.to_toml.Goals as goal

pub returns-in-Ok-clause-read_back : goal.returns-in-Ok-clause-read_back
returns-in-Ok-clause-read_back c =
    read_again (outline c.args.config.now) _ _ c.in_ok-table.ensures.shallow c.in-Ok.ensures.reads_back c.in_ok-table.ensures.read_back

pub unreachable-requires : goal.unreachable-requires
unreachable-requires c = true≢false (sym c.in_ok-table.ensures.dated ∙ c.in-Err-DateInvalid.ensures.dates.0 (ap Err c.in-Err-DateInvalid.field-0-is))
