use Rattle.std.proofs.lemmas.Bool.{and_parts, and_from}
use Rattle.ddt_path.specs.laws.Cover.{same_path, path_itself}
use Rattle.ddt_path.specs.laws.Member.{iff_same}
use Rattle.ddt_registrar.specs.Checks.{bears_code}
use Rattle.ddt_registrar.proofs.register_checks.bears.Goals as goal

pub returns : goal.returns
returns c =
    iff_same c.is_authentic.result (bears_code c.args.secret.now c.args.message.now)
    (λ t. let i = c.is_authentic.ensures.0 t in and_from _ _ i.known (path_itself _ _ i.same))
    (λ b. let parts = and_parts _ _ b in c.is_authentic.ensures.1 (record { known = parts.0; same = same_path _ _ parts.1 }))
