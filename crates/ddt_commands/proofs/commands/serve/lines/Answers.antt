use Rattle.std.proofs.Common.{◌≡◌, Err, inl, inr, refl, rules, sym, ◌∙◌}
use Rattle.ddt_config.specs.Table.{outline}
use Rattle.ddt_commands.proofs.commands.serve.lines.Goals as goal

pub returns-in_err-config-clause-refused : goal.returns-in_err-config-clause-refused
returns-in_err-config-clause-refused g c =
    let asked = c.in-Ok.asked in
    let words = c.in-Ok.ensures in
    let e : c.from_residual.result ≡ Err c.in_err-config.field-0.0 = search rules in
    rw e (inr (
      asked.at,
      asked.turns,
      words.address,
      words.turns,
      inr (
        sym c.is_loopback.ensures ∙ c.if-not-is_loopback.false,
        (
          c.open_file.result,
          record { shown = asked.config; shows = words.path; says = record { met = c.open_file.ensures } },
          inl (refl, rw (sym words.path) c.in_err-config.ensures.refused),
        ),
      ),
    ))

pub returns-in_err-line-clause-refused : goal.returns-in_err-line-clause-refused
returns-in_err-line-clause-refused g c =
    let asked = c.in-Ok.asked in
    let words = c.in-Ok.ensures in
    let config = c.in_ok-config.ensures in
    let e : c.from_residual-in_err-line.result ≡ Err c.in_err-line.field-0.0 = search rules in
    rw e (inr (
      asked.at,
      asked.turns,
      words.address,
      words.turns,
      inr (
        sym c.is_loopback.ensures ∙ c.if-not-is_loopback.false,
        (
          c.open_file.result,
          record { shown = asked.config; shows = words.path; says = record { met = c.open_file.ensures } },
          inr ((λ e. search (rules, config.closed e)), (outline c.in_ok-config.config, config.spelled, c.in_err-line.ensures.refused)),
        ),
      ),
    ))

pub returns-clause-text : goal.returns-clause-text
returns-clause-text g c =
    let asked = c.in-Ok.asked in
    let words = c.in-Ok.ensures in
    let config = c.in_ok-config.ensures in (
      asked.at,
      asked.turns,
      record { address = words.address; count = words.turns; loopback = sym c.is_loopback.ensures ∙ c.if-not-is_loopback.false },
      (
        c.open_file.result,
        record { shown = asked.config; shows = words.path; says = record { met = c.open_file.ensures } },
        ((λ e. search (rules, config.closed e)), (outline c.in_ok-config.config, config.spelled, rw c.whole.ensures.text c.in_ok-line.ensures.text)),
      ),
    )
