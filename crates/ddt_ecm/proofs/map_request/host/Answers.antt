use Rattle.std.proofs.Common.{sym, refl, ◌∙◌}
use Rattle.std.proofs.lemmas.Bool.{eq-eqb, ne_eqb}
use Rattle.ddt_path.specs.declared.form.Form.TheVariants.{Block}
use Rattle.ddt_wire.specs.laws.CutPrefix.{form_of-named}
use Rattle.ddt_ecm.proofs.map_request.host.Goals as goal

pub returns-then-len-width : goal.returns-then-len-width
returns-then-len-width c =
    let b = c.in-Block in
    rw (form_of-named c.args.prefix (Block b.iid b.address b.len) b.ensures.path b.ensures.kept, eq-eqb _ _ (c.if-len-width.true ∙ c.width.ensures.width)) refl

pub returns-else-len-width : goal.returns-else-len-width
returns-else-len-width c =
    let b = c.in-Block in
    rw (form_of-named c.args.prefix (Block b.iid b.address b.len) b.ensures.path b.ensures.kept, ne_eqb _ _ (λ q. c.if-len-width.false (q ∙ sym c.width.ensures.width))) refl
