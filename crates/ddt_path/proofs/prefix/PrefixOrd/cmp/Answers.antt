use Rattle.std.proofs.Common.{List, ℕ, sym, ap, ◌∙◌}
use Rattle.std.specs.Ordering.{nat_cmp}
use Rattle.std.specs.Cmp.Lexicographic.{slice_cmp}
use Rattle.ddt_path.specs.Path.{path}
use Rattle.ddt_path.specs.laws.FormOrder.{forms_cmp}
use Rattle.ddt_path.proofs.prefix.PrefixOrd.cmp.Goals as goal

pub returns : goal.returns
returns c =
    let f = c.form.result in
    let g = c.form-2.result in
    rw (c.cmp.ensures, c.parts-parts.ensures, c.parts.ensures)
    (sym (forms_cmp f g c.form.ensures.kept c.form-2.ensures.kept)
    ∙ ap (λ (p : List ℕ). slice_cmp nat_cmp p (path g)) c.form.ensures.path
    ∙ ap (slice_cmp nat_cmp c.args.self.now) c.form-2.ensures.path)
