use Rattle.std.proofs.Common.{ap, sym}
use Rattle.ddt_path.specs.declared.form.Form.TheVariants.{Block}
use Rattle.ddt_wire.specs.Eid.{form_mask_len}
use Rattle.ddt_wire.specs.laws.CutPrefix.{form_of-named}
use Rattle.ddt_wire.proofs.eid.mask_len.Goals as goal

pub returns-in-Block : goal.returns-in-Block
returns-in-Block c = sym (ap form_mask_len (form_of-named c.args.prefix (Block c.in-Block.iid c.in-Block.address c.in-Block.len) c.in-Block.ensures.path c.in-Block.ensures.kept))
