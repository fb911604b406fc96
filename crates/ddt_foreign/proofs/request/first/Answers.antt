use Rattle.std.proofs.Common.{refl}
use Rattle.ddt_path.specs.declared.form.Form.TheVariants.{Block}
use Rattle.ddt_wire.specs.laws.CutPrefix.{form_of-named}
use Rattle.ddt_foreign.proofs.request.first.Goals as goal

pub returns-in-Block : goal.returns-in-Block
returns-in-Block c =
    let b = c.in-Block in
    rw (form_of-named c.args.prefix (Block b.iid b.address b.len) b.ensures.path b.ensures.kept) refl
