use Rattle.std.proofs.Common.{◌≡◌, List, ℕ, ap, ◌∙◌, sym, true}
use Rattle.ddt_path.specs.Path.{path, is_prefix_path, IsForm}
use Rattle.ddt_path.specs.Packed.{form_at}
use Rattle.ddt_path.specs.declared.form.Form.{Form}
use Rattle.ddt_path.specs.laws.PathTest.{is_prefix_path-path, form_of_prefix}
use Rattle.ddt_path.proofs.prefix.Prefix.form.Goals as goal

passes : (form : Form) (ds : List ℕ) → path form ≡ ds → IsForm form → is_prefix_path ds ≡ true
passes form ds view h = ap is_prefix_path (sym view) ∙ is_prefix_path-path form h

pub returns-in-0-clause-passes : goal.returns-in-0-clause-passes
returns-in-0-clause-passes c = passes (form_at c.self.inside) c.args.self c.self.view_is c.self.invariant.0

pub returns-in-0-clause-only : goal.returns-in-0-clause-only
returns-in-0-clause-only c = λ ds e. form_of_prefix ds e

pub returns-in-4-clause-passes : goal.returns-in-4-clause-passes
returns-in-4-clause-passes c = passes (form_at c.self.inside) c.args.self c.self.view_is c.self.invariant.0

pub returns-in-4-clause-only : goal.returns-in-4-clause-only
returns-in-4-clause-only c = λ ds e. form_of_prefix ds e

pub returns-in_default-clause-passes : goal.returns-in_default-clause-passes
returns-in_default-clause-passes c = passes (form_at c.self.inside) c.args.self c.self.view_is c.self.invariant.0

pub returns-in_default-clause-only : goal.returns-in_default-clause-only
returns-in_default-clause-only c = λ ds e. form_of_prefix ds e
