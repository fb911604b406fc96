use Rattle.std.proofs.Common.{◌≡◌, ◌++◌, sym, subst, OnOk}
use Rattle.ddt_path.specs.declared.form.Form.{Form}
use Rattle.ddt_wire.specs.Eid.{written_form}
use Rattle.ddt_wire.specs.laws.CutPrefix.{form_of-named}
use Rattle.ddt_wire.specs.laws.Eid.{eid_spells}
use Rattle.ddt_path.specs.laws.Step.{always}
use Rattle.ddt_wire.proofs.eid.write_eid.Goals as goal

pub returns-clause-written : goal.returns-clause-written
returns-clause-written c =
    let e = form_of-named c.args.prefix c.form.result c.form.ensures.path c.form.ensures.kept in
    subst (λ (f : Form). OnOk c.put_form.result (c.put_form.new.bytes.items ≡ c.args.bytes.now.items ++ written_form f)) (sym e) (rw c.in_ok-reserve.ensures.items at c.put_form.ensures.written)

pub returns-clause-spelled : goal.returns-clause-spelled
returns-clause-spelled c = always c.put_form.result (eid_spells c.args.prefix (c.form.result, c.form.ensures.kept, c.form.ensures.path))
