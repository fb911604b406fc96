use Rattle.std.proofs.Common.{false, string_bytes, ap, subst, ◌∙◌}
use Rattle.toml.specs.Text.{IsDocumentText}
use Rattle.ddt_config.specs.Table.{outline}
use Rattle.ddt_config.specs.Digest.Sealed.{with_seal}
use Rattle.ddt_config.proofs.DigestLemmas.SealLemmas.{read_back}
use Rattle.ddt_config.proofs.digest.document.to_sealed_toml.Goals as goal

pub returns-in-Ok-clause-read_back : goal.returns-in-Ok-clause-read_back
returns-in-Ok-clause-read_back c =
    (read_back (outline c.args.config.now) c.in_ok-seal_of.field-0 _ _ _ c.in_ok-table.ensures.written c.in_ok-put_seal.ensures c.in_ok-table.ensures.shallow
    c.in_ok-table.ensures.read_back c.in-Ok.ensures.reads_back).1

pub returns-in-Ok-clause-sealed : goal.returns-in-Ok-clause-sealed
returns-in-Ok-clause-sealed c =
    let o = outline c.args.config.now in
    let s = c.in_ok-seal_of.field-0 in
    record {
      seal = s;
      is_own = c.in_ok-seal_of.ensures;
      is_text = subst (λ ms. IsDocumentText false ms (string_bytes c.in-Ok.text)) (c.in_ok-put_seal.ensures ∙ ap (with_seal s) c.in_ok-table.ensures.written) c.in-Ok.ensures.text;
      is_read = (read_back o s _ _ _ c.in_ok-table.ensures.written c.in_ok-put_seal.ensures c.in_ok-table.ensures.shallow c.in_ok-table.ensures.read_back c.in-Ok.ensures.reads_back).0;
    }
