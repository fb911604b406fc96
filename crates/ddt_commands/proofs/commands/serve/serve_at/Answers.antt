use Rattle.std.proofs.Common.{◌∙◌, ap, inl, sym, Err, Ok}
use Rattle.ddt_commands.specs.Sockets.{bind_refusal}
use Rattle.ddt_commands.proofs.SocketLemmas.{binds_as}
use Rattle.ddt_commands.proofs.commands.serve.serve_at.Goals as goal

pub returns-in-Err-clause-refused : goal.returns-in-Err-clause-refused
returns-in-Err-clause-refused g c = inl (
  c.in-Err.error,
  binds_as g.B.Fn c.args.bind.now _ _ c.args.at c.bind.result (Err c.in-Err.error) c.in-Err.is c.bind.ensures,
  c.refused_bind.ensures ∙ ap (bind_refusal c.args.at) c.kind.ensures,
)

pub returns-clause-text : goal.returns-clause-text
returns-clause-text g c =
    let served = c.serve_turns-served.ensures in (
      c.serve_turns-served.result,
      (
        c.bind.new.arg2,
        binds_as g.B.Fn c.args.bind.now _ _ c.args.at c.bind.result (Ok tt) c.in_default-bind.is c.bind.ensures,
        (served.0, served.1, rw (sym c.in-Ok.ensures.built) served.2),
      ),
      c.in_ok-served_line.ensures,
    )
