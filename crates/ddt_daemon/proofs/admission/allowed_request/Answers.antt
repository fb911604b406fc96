use Rattle.std.proofs.Common.{sym, ◌∙◌, arith}
use Rattle.ddt_daemon.proofs.AdmitLemmas.{spellable, dropped_for}
use Rattle.ddt_daemon.proofs.admission.allowed_request.Goals as goal

pub returns-in-Ok-clause-allowed : goal.returns-in-Ok-clause-allowed
returns-in-Ok-clause-allowed c =
    record {
      may_come = (sym c.allows.ensures ∙ c.if-not-allows.false, omega (arith, c.if-bytes-gt-MOST_KEPT_BYTES.false, c.type_inv.bytes));
      asks = rw c.as_slice.ensures at (sym c.classify_request.ensures ∙ c.in-Ok.is);
      identifier = c.fits.ensures.identifier;
      spelled = spellable c.in-Ok.request c.fits.ensures.message c.fits.ensures.port;
    }

pub returns-in-Err-clause-dropped : goal.returns-in-Err-clause-dropped
returns-in-Err-clause-dropped c now w =
    dropped_for c.args.settings.now c.args.from c.args.bytes.now now w c.in-Err.why
    (sym c.allows.ensures ∙ c.if-not-allows.false, omega (arith, c.if-bytes-gt-MOST_KEPT_BYTES.false, c.type_inv.bytes))
    (rw c.as_slice.ensures at (sym c.classify_request.ensures ∙ c.in-Err.is))
