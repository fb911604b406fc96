use Rattle.std.proofs.Common.{rules}
use Rattle.std.proofs.lemmas.Result.{IfOk-weaker}
use Rattle.ddt_plan.proofs.VersionLemmas.{are_versions}
use Rattle.ddt_plan.proofs.versions.versions_by_name.Goals as goal

pub returns : goal.returns
returns c =
    IfOk-weaker c.put_all-2.result _ _
    (λ two put. are_versions c.args.before.now c.args.after.now c.new.result c.in_ok-earlier.earlier two
    (λ name. search rules) c.in_ok-earlier.ensures put) c.put_all-2.ensures
