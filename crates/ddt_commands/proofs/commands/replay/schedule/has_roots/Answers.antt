use Rattle.std.proofs.Common.{rules, sym, ◌∙◌}
use Rattle.std.proofs.lemmas.Slice.Eq.{slice_eq-Decides}
use Rattle.ddt_commands.proofs.commands.replay.schedule.has_roots.Goals as goal

pub returns : goal.returns
returns c =
    let d = slice_eq-Decides (λ a b. search rules) c.as_slice.result.now c.as_slice-2.result.now c.eq.result c.eq.ensures in (
      (λ t. sym c.roots-found.ensures.group ∙ sym c.as_slice.ensures.items ∙ d.0 t ∙ c.as_slice-2.ensures.items),
      (λ e. d.1 (c.as_slice.ensures.items ∙ c.roots-found.ensures.group ∙ e ∙ sym c.as_slice-2.ensures.items)),
    )
